-- Parts that are made of a table are small, and their numbers fit.
use Rattle.std.proofs.Common.{◌≡◌, inl, inr, ℕ, suc, ◌+◌, ◌*◌, ◌/◌, ◌^◌, ◌<◌, ◌≤◌, List, [], ◌∷◌, length, length-append, Some, slice_get, get_or, refl, sym, ap, subst, ◌∙◌, arith}
use Rattle.std.proofs.Math.Nat.{le-div_iff_mul-le}
use Rattle.std.proofs.lemmas.Bool.{cases_lt}
use Rattle.std.proofs.lemmas.List.{length-map, get_or-map, get_or_past, get_or_default}
use Rattle.std.proofs.lemmas.Option.{slice_get-get_or}
use Rattle.std.specs.Prelude.{flat_map, unsigned_abs, min}
use Rattle.wheel_types.specs.declared.channel.Channel.TheVariants.{Crank}
use Rattle.wheel_types.specs.declared.place.Place.{Place}
use Rattle.wheel_types.specs.declared.parts.WheelParts.{WheelParts}
use Rattle.wheel_types.specs.Edges.{edge_count}
use Rattle.wheel_types.specs.Wheels.{IsWheel}
use Rattle.edge_angles.proofs.Tables.{edge_count-few}
use Rattle.gap_thresholds.specs.declared.cut.Cut.{Cut}
use Rattle.gap_thresholds.specs.Classes.{times_of, ratios_of}
use Rattle.image_layout.specs.declared.kind.Kind.{Kind}
use Rattle.image_layout.specs.declared.kind.Kind.TheVariants as kinds
use Rattle.image_layout.specs.declared.parts.ImageParts.{ImageParts}
use Rattle.image_layout.specs.Layout.{words_for}
use Rattle.image_layout.specs.Parts.{AreSmall}
use Rattle.image_layout.proofs.ReadBack.{Fit}
use Rattle.position_nfa.specs.declared.pair.Pair.{Pair}
use Rattle.position_nfa.specs.Alphabets.{Alphabet, count, width, time_classes, ratio_classes}
use Rattle.position_nfa.specs.Sound.{SetSays}
use Rattle.position_nfa.specs.Step.{dead_state}
use Rattle.subset_build.specs.Limit.{most_cells}
use Rattle.table_images.specs.Kinds.{says_of}
use Rattle.table_images.specs.Tables.{IsTable, AreParts}
use Rattle.table_images.proofs.PartsLaid.{HasCounts}
use Rattle.table_images.proofs.TableFacts.{places_in_range}
use Rattle.table_images.proofs.StateFacts.{reached_low, says_edge, says_places}
use Rattle.table_images.proofs.TableRows.{map_at}
use Rattle.table_images.proofs.SetWords.{sets_fit}
use Rattle.table_images.proofs.Copies.{no_cut}
use Rattle.table_images.proofs.Fits.{fit, IsSmallKind}

pieces_long : (m : ℕ) (states : List Pair) → ((q : ℕ) (x : Pair) → slice_get states q ≡ Some x → length x.set ≡ m) → length (flat_map {A = ℕ} (λ (s : Pair). s.set) states) ≡ length states * m
pieces_long m [] each = let none : 0 ≡ 0 * m = omega arith in none
pieces_long m (y ∷ ys) each =
    let rest = pieces_long m ys (λ q x h. each (suc q) x h) in
    let here = each 0 y refl in
    length-append y.set (flat_map {A = ℕ} (λ (s : Pair). s.set) ys) ∙ omega (arith, rest, here)

-- a count within the limit fills no more than its cells
within_cells : (n k most rest : ℕ) → 1 ≤ k → n ≤ min rest (most / k) → n * k ≤ most
within_cells n k most rest some le = (le-div_iff_mul-le some).0 (omega (arith, le))

module _ (w : WheelParts) (a : Alphabet) (limit : ℕ) (states : List Pair) (p : ImageParts) (t : IsTable w a limit states) (e : AreParts w a states p) (wheel : IsWheel w) (few : count a ≤ 16384) (few_times : time_classes a ≤ 8193) (few_ratios : ratio_classes a ≤ 16385) where
  states_long : length p.phases.items ≡ length states
  states_long = ap (λ (l : List ℕ). length l) e.phases ∙ length-map states (λ (s : Pair). s.phase)

  places_long : length p.places.items ≡ count a
  places_long = ap (λ (l : List Place). length l) e.places

  times_long : length p.time_cuts.items ≡ length (times_of a.cuts)
  times_long = ap (λ (l : List ℕ). length l) e.times ∙ length-map (times_of a.cuts) (λ (c : Cut). c.top)

  ratios_long : length p.ratio_cuts.items ≡ length (ratios_of a.cuts)
  ratios_long = ap (λ (l : List (ℕ × ℕ)). length l) e.ratios ∙ length-map (ratios_of a.cuts) (λ (c : Cut). (c.top, c.bottom))

  members_long : length p.members.items ≡ length states * words_for (count a)
  members_long = ap (λ (l : List ℕ). length l) e.members ∙ pieces_long (words_for (count a)) states (λ q x h. (t.sets q x h).words)

  some_words : 1 ≤ words_for (count a)
  some_words = let s = t.some in omega (arith, s)

  few_members : length states * words_for (count a) ≤ most_cells
  few_members = (le-div_iff_mul-le some_words).0 (let le = t.within in omega (arith, le))

  few_rows : length states * width a ≤ most_cells
  few_rows = (le-div_iff_mul-le (omega arith)).0 (let le = t.within in omega (arith, le))

  pub small : AreSmall p
  small = record {
    slots = subst (λ (v : WheelParts). length v.slots ≤ 4096) (sym e.wheel) wheel.slots.1;
    places = omega (arith, places_long, few);
    times = omega (arith, times_long, few_times);
    ratios = omega (arith, ratios_long, few_ratios);
    states = let le = t.within in omega (arith, states_long, le);
    kinds = e.kinds.long ∙ sym states_long;
    members = subst (λ n. n ≤ 8388608) (sym members_long) few_members;
    rows = subst (λ n. n ≤ 8388608) (sym e.rows.long) few_rows;
  }

  pub has_counts : 2 ≤ length states → HasCounts p
  has_counts two = record {
    some_places = let s = t.some in omega (arith, places_long, s);
    some_states = omega (arith, states_long, two);
    few_members = small.members;
    few_rows = small.rows;
  }

  abbrev state : ℕ → Pair
  state q = get_or states q (dead_state a)

  at : (q : ℕ) → q < length states → slice_get states q ≡ Some (state q)
  at q lt = slice_get-get_or states q (dead_state a) lt

  edges_few : edge_count w Crank ≤ 4096
  edges_few = let le = edge_count-few w Crank in let most = wheel.slots.1 in omega (arith, le, most)

  kind_small : (set : List ℕ) (k : Kind) → SetSays a set (says_of k) → IsSmallKind k
  kind_small set kinds.Dead says = omega arith
  kind_small set (kinds.At j) says = let lt = says_edge a w t.alphabet set j says in omega (arith, lt, edges_few)
  kind_small set (kinds.Open f g) says = let r = says_places a w t.alphabet set f g says in (omega (arith, r.0, r.1.0, few), omega (arith, r.1.0, few))

  states_small : (q : ℕ) → (get_or p.phases.items q 0 < 256) × IsSmallKind (get_or p.kinds.items q kinds.Dead)
  states_small q = elim (cases_lt q (length states)) [
    | inl lt ↦
        let low = (reached_low a (state q) (t.family.sound (state q) (q, lt, get_or_default states q (state q) (dead_state a) lt))).0 in
        let phase : get_or p.phases.items q 0 ≡ (state q).phase = ap (λ (l : List ℕ). get_or l q 0) e.phases ∙ map_at (λ (s : Pair). s.phase) states q (state q) 0 (at q lt) in
        (omega (arith, phase, low), kind_small (state q).set (get_or p.kinds.items q kinds.Dead) (e.kinds.says q (state q) lt (at q lt)))
    | inr past ↦
        let none : get_or p.phases.items q 0 ≡ 0 = get_or_past p.phases.items q 0 (omega (arith, past, states_long)) in
        let no_kind : get_or p.kinds.items q kinds.Dead ≡ kinds.Dead = get_or_past p.kinds.items q kinds.Dead (let l = e.kinds.long in omega (arith, past, l)) in
        (omega (arith, none), subst IsSmallKind (sym no_kind) (omega arith))
  ]

  places_small : (k : ℕ) (d : Place) → k < length p.places.items → ((get_or p.places.items k d).j < 256 ^ 4) × (unsigned_abs (get_or p.places.items k d).n1 < 1048576) × (unsigned_abs (get_or p.places.items k d).n2 < 1048576)
  places_small k d lt =
      let there : k < length a.places = omega (arith, lt, places_long) in
      let r = places_in_range w wheel a t.alphabet k d there in
      subst (λ (l : List Place). ((get_or l k d).j < 256 ^ 4) × (unsigned_abs (get_or l k d).n1 < 1048576) × (unsigned_abs (get_or l k d).n2 < 1048576)) (sym e.places) (let j = r.0 in omega (arith, j, edges_few), r.1, r.2)

  ratios_small : (k : ℕ) → k < length p.ratio_cuts.items → ((get_or p.ratio_cuts.items k (0, 0)).0 < 256 ^ 4) × ((get_or p.ratio_cuts.items k (0, 0)).1 < 256 ^ 4)
  ratios_small k lt =
      let there : k < length (ratios_of a.cuts) = omega (arith, lt, ratios_long) in
      let s = a.cuts.small k no_cut there in
      let pair : get_or p.ratio_cuts.items k (0, 0) ≡ ((get_or (ratios_of a.cuts) k no_cut).top, (get_or (ratios_of a.cuts) k no_cut).bottom) = ap (λ (l : List (ℕ × ℕ)). get_or l k (0, 0)) e.ratios ∙ get_or-map (λ (c : Cut). (c.top, c.bottom)) (ratios_of a.cuts) k no_cut (0, 0) there in
      subst (λ (x : ℕ × ℕ). (x.0 < 256 ^ 4) × (x.1 < 256 ^ 4)) (sym pair) (let top = s.0 in omega (arith, top), let bottom = s.1 in omega (arith, bottom))

  pub fits : Fit p
  fits =
      fit p (subst IsWheel (sym e.wheel) wheel) small e.times_fit places_small ratios_small states_small
      (λ k. subst (λ (l : List ℕ). get_or l k 0 < 2 ^ 64) (sym e.members) (sets_fit (count a) states t.sets k)) e.rows_fit
      (members_long ∙ (ap (λ n. n * words_for (count a)) (sym states_long) ∙ ap (λ n. length p.phases.items * words_for n) (sym places_long)))
      (e.rows.long ∙ (ap (λ n. n * width a) (sym states_long) ∙ ap (λ n. length p.phases.items * n) (columns (length p.time_cuts.items) (length p.ratio_cuts.items) times_long ratios_long)))
    where
      columns : (x y : ℕ) → x ≡ length (times_of a.cuts) → y ≡ length (ratios_of a.cuts) → width a ≡ x + 1 + (2 * y + 1) + 26
      columns x y f g = omega (arith, f, g)
