-- Parts that are made of a table give the image of its wheel.
use Rattle.std.proofs.Common.{◌≡◌, ◌⊎◌, ℕ, ◌+◌, ◌-◌, ◌*◌, ◌^◌, ◌<◌, ◌≤◌, List, [], ◌∷◌, ◌++◌, length, Some, slice_get, get_or, true, false, true≢false, refl, sym, ap, subst, ◌∙◌, arith}
use Rattle.std.proofs.Math.Nat.{mul-le-mul_left}
use Rattle.std.proofs.lemmas.List.{length-map, get_or-map, get_or_default}
use Rattle.std.proofs.lemmas.Option.{slice_get_within, slice_get-get_or, get_or_from_slice_get}
use Rattle.std.specs.Prelude.{IsTrue, map, flat_map, pos}
use Rattle.wheel_types.specs.declared.channel.Channel.TheVariants.{Crank}
use Rattle.wheel_types.specs.declared.place.Place.{Place}
use Rattle.wheel_types.specs.declared.parts.WheelParts.{WheelParts}
use Rattle.wheel_types.specs.Edges.{edge_count}
use Rattle.wheel_types.specs.Wheels.{IsWheel}
use Rattle.gap_thresholds.specs.declared.cut.Cut.{Cut}
use Rattle.gap_thresholds.specs.Classes.{times_of, ratios_of}
use Rattle.image_layout.specs.declared.kind.Kind.{Kind}
use Rattle.image_layout.specs.declared.kind.Kind.TheVariants as kinds
use Rattle.image_layout.specs.declared.parts.ImageParts.{ImageParts}
use Rattle.image_layout.specs.Layout.{words_for, time_total, ratio_total, row_width}
use Rattle.image_layout.specs.Letters.{letter_of, leads_to}
use Rattle.image_layout.specs.Fields.{place_at}
use Rattle.image_layout.specs.Parts.{image_bytes, AreSmall}
use Rattle.image_layout.specs.Tables.{KeepsLayout}
use Rattle.image_layout.specs.Tables as tables
use Rattle.image_layout.proofs.ReadBack.{Fit, place_is, time_total_is, ratio_total_is}
use Rattle.image_layout.proofs.WheelBack.{wheel_is}
use Rattle.image_layout.proofs.PartsKept.{time_cuts_keep, ratio_cuts_keep, rows_keep}
use Rattle.place_words.specs.Words.{has_none}
use Rattle.place_words.proofs.SetOf.{set_of-has, zeros-set_of}
use Rattle.position_nfa.specs.declared.pair.Pair.{Pair}
use Rattle.position_nfa.specs.Alphabets.{Alphabet, count, width}
use Rattle.position_nfa.specs.Families.{IsNumbering}
use Rattle.position_nfa.specs.Sound.{AreSoundOver, SetSays, IsDue, TableParts, Nothing}
use Rattle.position_nfa.specs.Step.{dead_state, start_state, next_state}
use Rattle.subset_build.specs.Limit.{effective_limit}
use Rattle.table_images.specs.Kinds.{says_of}
use Rattle.table_images.specs.Images.{table_of, IsCompiled}
use Rattle.table_images.specs.Tables.{IsTable, AreParts}
use Rattle.table_images.proofs.PartsLaid.{HasCounts, header_keeps, slots_keep, places_keep}
use Rattle.table_images.proofs.StatesLaid.{IsKindOf, kinds_keep, members_keep}
use Rattle.table_images.proofs.TableBack.{places_back, times_back, ratios_back, rows_back, says_back, states_back, flat_piece}
use Rattle.table_images.proofs.TableFacts.{places_in_range, places_ascend, times_some, times_ascend, ratios_some, ratios_ascend}
use Rattle.table_images.proofs.StateFacts.{reached_low, says_nothing, says_edge, says_places}
use Rattle.table_images.proofs.TableRows.{map_at, number_once, dead_row, due_range, due_leads}
use Rattle.table_images.proofs.SetWords.{last_word}

module _ (w : WheelParts) (a : Alphabet) (limit : ℕ) (states : List Pair) (p : ImageParts) (t : IsTable w a limit states) (e : AreParts w a states p) (wheel : IsWheel w) (h : Fit p) (small : AreSmall p) (counts : HasCounts p) where
  abbrev no_place : Place
  no_place = record { j = 0; n1 = pos 0; n2 = pos 0 }

  own_wheel : IsWheel p.wheel
  own_wheel = subst IsWheel (sym e.wheel) wheel

  states_long : length p.phases.items ≡ length states
  states_long = ap (λ (l : List ℕ). length l) e.phases ∙ length-map states (λ (s : Pair). s.phase)

  range : (k : ℕ) (d : Place) → k < length p.places.items → tables.IsPlace (edge_count p.wheel Crank) (get_or p.places.items k d)
  range k d lt =
      let there : k < length a.places = subst (λ (l : List Place). k < length l) e.places lt in
      subst (λ (v : WheelParts). tables.IsPlace (edge_count v Crank) (get_or p.places.items k d)) (sym e.wheel) (subst (λ (l : List Place). tables.IsPlace (edge_count w Crank) (get_or l k d)) (sym e.places) (places_in_range w wheel a t.alphabet k d there))

  ascend : (k : ℕ) (d : Place) → k + 1 < length p.places.items → tables.IsBelow (get_or p.places.items k d) (get_or p.places.items (k + 1) d)
  ascend k d lt =
      let there : k + 1 < length a.places = subst (λ (l : List Place). k + 1 < length l) e.places lt in
      subst (λ (l : List Place). tables.IsBelow (get_or l k d) (get_or l (k + 1) d)) (sym e.places) (places_ascend w wheel a t.alphabet k d there)

  place_back : (k : ℕ) → k < length p.places.items → place_at (image_bytes p) k ≡ get_or p.places.items k no_place
  place_back k lt = let r = range k no_place lt in place_is p h k no_place lt r.1 r.2

  -- the state of a number
  abbrev state : ℕ → Pair
  state q = get_or states q (dead_state a)

  at : (q : ℕ) → q < length states → slice_get states q ≡ Some (state q)
  at q lt = slice_get-get_or states q (dead_state a) lt

  reached : (q : ℕ) → q < length states → ((state q).phase ≤ 5) × (has_none (state q).set ≡ true → state q ≡ dead_state a)
  reached q lt = reached_low a (state q) (t.family.sound (state q) (q, lt, get_or_default states q (state q) (dead_state a) lt))

  phase_is_state : (q : ℕ) → q < length states → get_or p.phases.items q 0 ≡ (state q).phase
  phase_is_state q lt = ap (λ (l : List ℕ). get_or l q 0) e.phases ∙ map_at (λ (s : Pair). s.phase) states q (state q) 0 (at q lt)

  -- past state 0 a kind is a position or two places
  kind_is : (q : ℕ) (k : Kind) → 1 ≤ q → q < length states → SetSays a (state q).set (says_of k) → IsKindOf p k
  kind_is q kinds.Dead least lt says =
      let none = says_nothing a (state q).set (t.sets q (state q) (at q lt)) says in
      let zero_q : q ≡ 0 = number_once a states t.family.once t.dead q (at q lt ∙ ap Some ((reached q lt).1 none)) in
      absurd (omega (arith, zero_q, least))
  kind_is q (kinds.At j) least lt says = subst (λ (v : WheelParts). j < edge_count v Crank) (sym e.wheel) (says_edge a w t.alphabet (state q).set j says)
  kind_is q (kinds.Open f g) least lt says = subst (λ (l : List Place). (f < g) × ((g < length l) × ((d : Place) → (get_or l f d).j ≡ (get_or l g d).j → ⊥))) (sym e.places) (says_places a w t.alphabet (state q).set f g says)

  first_state : state 0 ≡ dead_state a
  first_state = get_or_from_slice_get states 0 (dead_state a) (dead_state a) t.dead

  second_state : state 1 ≡ start_state a
  second_state = get_or_from_slice_get states 1 (start_state a) (dead_state a) t.start

  some_two : 2 ≤ length states
  some_two = let lt = slice_get_within states 1 (start_state a) t.start in omega (arith, lt)

  -- the empty set says nothing
  dead_kind : (k : Kind) → SetSays a (dead_state a).set (says_of k) → k ≡ kinds.Dead
  dead_kind kinds.Dead says = refl
  dead_kind (kinds.At j) says = absurd (true≢false (sym (set_of-has (count a) (λ i. false) says.0.0 says.0.1.1).1))
  dead_kind (kinds.Open f g) says = absurd (true≢false (sym (set_of-has (count a) (λ i. false) f says.0.holds.1).1))

  head_tail : (xs : List Pair) (x : Pair) → slice_get xs 0 ≡ Some x → (tail : List Pair) × (xs ≡ x ∷ tail)
  head_tail [] x same = absurd (cc)
  head_tail (y ∷ ys) x same = let one : y ≡ x = cc in (ys, ap (λ z. z ∷ ys) one)

  places_long : length p.places.items ≡ count a
  places_long = ap (λ (l : List Place). length l) e.places

  wide : row_width (image_bytes p) ≡ width a
  wide =
      let times : length p.time_cuts.items ≡ length (times_of a.cuts) = ap (λ (l : List ℕ). length l) e.times ∙ length-map (times_of a.cuts) (λ (c : Cut). c.top) in
      let ratios : length p.ratio_cuts.items ≡ length (ratios_of a.cuts) = ap (λ (l : List (ℕ × ℕ)). length l) e.ratios ∙ length-map (ratios_of a.cuts) (λ (c : Cut). (c.top, c.bottom)) in
      let one = time_total_is p h in
      let two = ratio_total_is p h in
      omega (arith, times, ratios, one, two)

  row_within : (q column wide rows : ℕ) → q < length states → column < wide → rows ≡ length states * wide → q * wide + column < rows
  row_within q column wide rows lt within same = let more : wide * (q + 1) ≤ wide * length states = mul-le-mul_left wide (omega (arith, lt)) in omega (arith, more, within, same)

  -- an entry is due
  entry_due : (q column : ℕ) → q < length states → column < row_width (image_bytes p) → IsDue states (next_state a (state q) column) (get_or p.rows.items (q * row_width (image_bytes p) + column) 0)
  entry_due q column lt within =
      let inside : column < width a = omega (arith, within, wide) in
      subst (λ m. IsDue states (next_state a (state q) column) (get_or p.rows.items (q * m + column) 0)) (sym wide) (e.rows.due q column (state q) (at q lt) inside (row_within q column (width a) (length p.rows.items) lt inside e.rows.long))

  letters_as : (phases : List ℕ) (column entry t0 t1 r0 r1 f0 f1 : ℕ) → t1 ≡ t0 → r1 ≡ r0 → f1 ≡ f0 → (entry ≡ 0) ⊎ IsTrue (leads_to (letter_of t0 r0 column) f0 (get_or phases entry 0)) → (entry ≡ 0) ⊎ IsTrue (leads_to (letter_of t1 r1 column) f1 (get_or phases entry 0))
  letters_as phases column entry t0 t1 r0 r1 f0 f1 et er ef h =
      subst (λ t. (entry ≡ 0) ⊎ IsTrue (leads_to (letter_of t r1 column) f1 (get_or phases entry 0))) (sym et)
      (subst (λ r. (entry ≡ 0) ⊎ IsTrue (leads_to (letter_of t0 r column) f1 (get_or phases entry 0))) (sym er)
      (subst (λ f. (entry ≡ 0) ⊎ IsTrue (leads_to (letter_of t0 r0 column) f (get_or phases entry 0))) (sym ef) h))

  pub layout : KeepsLayout (image_bytes p)
  layout =
      let first : 0 < length states = omega (arith, some_two) in
      let second : 1 < length states = omega (arith, some_two) in
      let dead_tail = head_tail states (dead_state a) t.dead in
      let times_long : length p.time_cuts.items ≡ length (times_of a.cuts) = ap (λ (l : List ℕ). length l) e.times ∙ length-map (times_of a.cuts) (λ (c : Cut). c.top) in
      let ratios_long : length p.ratio_cuts.items ≡ length (ratios_of a.cuts) = ap (λ (l : List (ℕ × ℕ)). length l) e.ratios ∙ length-map (ratios_of a.cuts) (λ (c : Cut). (c.top, c.bottom)) in
      record {
        header = header_keeps p h own_wheel small counts;
        slots = slots_keep p h own_wheel small counts;
        places = places_keep p h own_wheel small counts range ascend no_place;
        time_cuts = time_cuts_keep p h (times_some w wheel a t.alphabet p.time_cuts.items e.times) (times_ascend w wheel a t.alphabet p.time_cuts.items e.times);
        ratio_cuts = ratio_cuts_keep p h (ratios_some w wheel a t.alphabet p.ratio_cuts.items e.ratios) (ratios_ascend w wheel a t.alphabet p.ratio_cuts.items e.ratios);
        kinds = kinds_keep p h no_place place_back (omega (arith, states_long, some_two))
            (phase_is_state 0 first ∙ ap (λ (s : Pair). s.phase) first_state)
            (dead_kind (get_or p.kinds.items 0 kinds.Dead) (e.kinds.says 0 (dead_state a) first t.dead))
            (λ q lt. let there : q < length states = omega (arith, lt, states_long) in let same = phase_is_state q there in let low = (reached q there).0 in omega (arith, same, low))
            (phase_is_state 1 second ∙ ap (λ (s : Pair). s.phase) second_state)
            (λ q least lt. let there : q < length states = omega (arith, lt, states_long) in kind_is q (get_or p.kinds.items q kinds.Dead) least there (e.kinds.says q (state q) there (at q there)));
        members = members_keep p h
            (λ q lt.
            let there : q < length states = omega (arith, lt, states_long) in
            let n : ℕ = words_for (count a) in
            let some : 1 ≤ n = omega (arith, t.some) in
            let word : get_or p.members.items (q * n + (n - 1)) 0 ≡ get_or (state q).set (n - 1) 0 = ap (λ (l : List ℕ). get_or l (q * n + (n - 1)) 0) e.members ∙ flat_piece n states (λ r x same. (t.sets r x same).words) q (n - 1) (state q) (at q there) (omega (arith, some)) in
            let bound : get_or p.members.items (q * n + (n - 1)) 0 < 2 ^ (count a - 64 * (n - 1)) = subst (λ x. x < 2 ^ (count a - 64 * (n - 1))) (sym word) (last_word (count a) (state q).set (t.sets q (state q) (at q there)) t.some) in
            subst (λ c. get_or p.members.items (q * words_for c + (words_for c - 1)) 0 < 2 ^ (c - 64 * (words_for c - 1))) (sym places_long) bound)
            (let some = counts.some_places in omega (arith, some))
            (flat_map (λ (s : Pair). s.set) dead_tail.0)
            (e.members ∙ (ap (λ (l : List Pair). flat_map (λ (s : Pair). s.set) l) dead_tail.1
            ∙ ap (λ (l : List ℕ). l ++ flat_map (λ (s : Pair). s.set) dead_tail.0) (sym (zeros-set_of (count a) (words_for (length p.places.items)) (ap words_for places_long)))));
        rows = rows_keep p h (omega (arith, states_long, some_two))
            (λ column lt. dead_row a states t.family.once t.dead column (get_or p.rows.items (0 * row_width (image_bytes p) + column) 0) (subst (λ s. IsDue states (next_state a s column) (get_or p.rows.items (0 * row_width (image_bytes p) + column) 0)) first_state (entry_due 0 column first lt)))
            (λ q column there lt. let due = entry_due q column (omega (arith, there, states_long)) lt in
            let low = due_range a states t.family.once t.dead (next_state a (state q) column) (get_or p.rows.items (q * row_width (image_bytes p) + column) 0) due in omega (arith, low, states_long))
            (λ q column there lt. let q_there : q < length states = omega (arith, there, states_long) in
            let leads = due_leads a states t.family.once t.dead p.phases.items (state q) column (get_or p.rows.items (q * row_width (image_bytes p) + column) 0) e.phases (entry_due q column q_there lt) in
            letters_as p.phases.items column (get_or p.rows.items (q * row_width (image_bytes p) + column) 0) (length (times_of a.cuts)) (time_total (image_bytes p)) (length (ratios_of a.cuts)) (ratio_total (image_bytes p)) (state q).phase (get_or p.phases.items q 0) (time_total_is p h ∙ times_long) (ratio_total_is p h ∙ ratios_long) (phase_is_state q q_there) leads);
      }

  -- the table that they hold
  abbrev held : TableParts
  held = record { places = a.places; time_cuts = map (λ (c : Cut). c.top) (times_of a.cuts); ratio_cuts = map (λ (c : Cut). (c.top, c.bottom)) (ratios_of a.cuts); states = states; says = map says_of p.kinds.items; rows = p.rows.items }

  pub table_is : table_of (image_bytes p) ≡ held
  table_is =
      let one = places_back p h no_place place_back ∙ e.places in
      let two = times_back p h no_place place_back ∙ e.times in
      let three = ratios_back p h no_place place_back ∙ e.ratios in
      let sets : (q : ℕ) (x : Pair) → slice_get states q ≡ Some x → length x.set ≡ words_for (length p.places.items) = λ q x same. (t.sets q x same).words ∙ ap words_for (sym places_long) in
      let four = states_back p h no_place place_back states e.phases e.members sets (dead_state a) in
      let five = says_back p h no_place place_back small.kinds in
      let six = rows_back p h no_place place_back in
      λ i. record { places = one i; time_cuts = two i; ratio_cuts = three i; states = four i; says = five i; rows = six i }

  held_sound : AreSoundOver a held
  held_sound = record {
    places = refl;
    time_cuts = refl;
    ratio_cuts = refl;
    family = t.family;
    dead = t.dead;
    start = t.start;
    all_say = length-map p.kinds.items says_of ∙ e.kinds.long;
    says = λ q x same.
        let there : q < length states = slice_get_within states q x same in
        let kind : get_or (map says_of p.kinds.items) q Nothing ≡ says_of (get_or p.kinds.items q kinds.Dead) = get_or-map says_of p.kinds.items q kinds.Dead Nothing (omega (arith, there, e.kinds.long)) in
        subst (SetSays a x.set) (sym kind) (e.kinds.says q x there same);
    entries = e.rows.long;
    due = e.rows.due;
  }

  pub compiled : IsCompiled w limit (image_bytes p)
  compiled = record {
    layout = layout;
    wheel = wheel_is p h ∙ e.wheel;
    alphabet = a;
    of_wheel = t.alphabet;
    sound = subst (AreSoundOver a) (sym table_is) held_sound;
    numbering = subst (λ (x : TableParts). IsNumbering a x.states) (sym table_is) t.numbering;
    within = subst (λ (x : TableParts). length x.states ≤ effective_limit a limit) (sym table_is) t.within;
  }
