-- What the table of a sound image says of the image's entries.
use Rattle.std.proofs.Common.{◌≡◌, inl, inr, ℕ, ◌+◌, ◌*◌, ◌<◌, ◌≤◌, Bool, List, length, get_or, Some, slice_get, Contains, pos, sym, ap}
use Rattle.std.proofs.Common.{subst, ◌∙◌, arith, nat_lt, nat_le, ◌==◌}
use Rattle.std.proofs.Math.Nat.{mul-le-mul_left}
use Rattle.std.proofs.lemmas.List.{length-map, get_or-map}
use Rattle.std.proofs.lemmas.List.Elements.{Contains-get_or}
use Rattle.std.proofs.lemmas.Option.{slice_get-get_or}
use Rattle.std.specs.Prelude.{All, filter, map, min}
use Rattle.wheel_types.specs.declared.place.Place.{Place}
use Rattle.wheel_types.specs.Edges.{below}
use Rattle.wheel_types.specs.Motions.{KeepsSpeed}
use Rattle.wheel_types.specs.Wheels.{IsWheel}
use Rattle.gap_thresholds.specs.declared.cut.Cut.{Cut}
use Rattle.gap_thresholds.specs.Gaps.{IsGap}
use Rattle.gap_thresholds.specs.Classes as classes
use Rattle.gap_thresholds.specs.Classes.{times_of, ratios_of}
use Rattle.image_layout.specs.Layout.{place_total, time_total, ratio_total, state_total, row_width}
use Rattle.image_layout.specs.Fields.{place_at, time_cut_at, ratio_top_at, ratio_bottom_at, row_number_at}
use Rattle.image_layout.specs.Fields.{entry_at, kind_at, wheel_parts_of}
use Rattle.image_layout.proofs.Below.{length-below, below_at}
use Rattle.image_format.specs.Walk as walk
use Rattle.image_format.specs.Walk.{count_below}
use Rattle.position_nfa.specs.Alphabets.{Alphabet, count, place, width}
use Rattle.position_nfa.specs.Sound.{Nothing, SetSays, IsDue}
use Rattle.position_nfa.specs.Step.{next_state}
use Rattle.table_images.specs.Kinds.{says_of}
use Rattle.table_images.specs.Images.{IsSoundImage, state_at, table_of}
use Rattle.sound_walk.specs.Alphabet.{IsSoundOver, HasAlphabet, longest_gap}
use Rattle.sound_walk.proofs.Bounds.{kept_below, cut_below}
use Rattle.sound_walk.proofs.Counting.{filter_mapped, class_of_cut}

-- the numbers below a bound, each by what a function makes of it
made_at : {X : Type 0} (f : ℕ → X) (n k : ℕ) (d : X) → k < n → get_or (map f (below n)) k d ≡ f k
made_at f n k d lt =
    let long : length (below n) ≡ n = length-below n in
    get_or-map f (below n) k 0 d (omega (arith, lt, long)) ∙ ap f (below_at n k 0 lt)

made_long : {X : Type 0} (f : ℕ → X) (n : ℕ) → length (map f (below n)) ≡ n
made_long f n = length-map (below n) f ∙ length-below n

-- a sound image is sound over some alphabet of its wheel
pub sound_over : (b : List ℕ) → IsSoundImage b → (a : Alphabet) × IsSoundOver b a
sound_over b sound = (sound.sound.0, record { layout = sound.layout; wheel = sound.sound.1.0; table = sound.sound.1.1 })

module _ (b : List ℕ) (a : Alphabet) (sound : IsSoundOver b a) where
  pub image_wheel : IsWheel (wheel_parts_of b)
  image_wheel = subst IsWheel sound.wheel.cuts.wheel a.cuts.wheel.valid

  cycle : (wheel_parts_of b).degrees ≤ 720
  cycle = elim sound.layout.header.degrees [ inl e ↦ omega (arith, e) | inr e ↦ omega (arith, e) ]

  pub kept_short : (s t : ℕ) → IsGap (wheel_parts_of b) s → KeepsSpeed (wheel_parts_of b) s t → t ≤ longest_gap
  kept_short s t = kept_below (wheel_parts_of b) image_wheel cycle s t

  place_many : place_total b ≡ count a
  place_many = sym (made_long (place_at b) (place_total b)) ∙ ap (λ (l : List Place). length l) sound.table.places

  place_is : (k : ℕ) → k < count a → place_at b k ≡ place a k
  place_is k lt =
      let d : Place = record { j = 0; n1 = pos 0; n2 = pos 0 } in
      sym (made_at (place_at b) (place_total b) k d (omega (arith, lt, place_many)))
      ∙ ap (λ (l : List Place). get_or l k d) sound.table.places

  time_many : time_total b ≡ length (times_of a.cuts)
  time_many =
      sym (made_long (time_cut_at b) (time_total b))
      ∙ (ap (λ (l : List ℕ). length l) sound.table.time_cuts ∙ length-map (times_of a.cuts) (λ (c : Cut). c.top))

  ratio_many : ratio_total b ≡ length (ratios_of a.cuts)
  ratio_many =
      sym (made_long (λ k. (ratio_top_at b k, ratio_bottom_at b k)) (ratio_total b))
      ∙ (ap (λ (l : List (ℕ × ℕ)). length l) sound.table.ratio_cuts ∙ length-map (ratios_of a.cuts) (λ (c : Cut). (c.top, c.bottom)))

  time_counted : (p : ℕ → Bool)
      → count_below (time_total b) (λ k. p (time_cut_at b k)) ≡ length (filter (λ (c : Cut). p c.top) (times_of a.cuts))
  unfolding count_below
  time_counted p =
      filter_mapped (time_cut_at b) p (below (time_total b))
      ∙ (ap (λ (l : List ℕ). length (filter p l)) sound.table.time_cuts ∙ sym (filter_mapped (λ (c : Cut). c.top) p (times_of a.cuts)))

  ratio_counted : (p : ℕ × ℕ → Bool)
      → count_below (ratio_total b) (λ k. p (ratio_top_at b k, ratio_bottom_at b k))
      ≡ length (filter (λ (c : Cut). p (c.top, c.bottom)) (ratios_of a.cuts))
  unfolding count_below
  ratio_counted p =
      filter_mapped (λ k. (ratio_top_at b k, ratio_bottom_at b k)) p (below (ratio_total b))
      ∙ (ap (λ (l : List (ℕ × ℕ)). length (filter p l)) sound.table.ratio_cuts
      ∙ sym (filter_mapped (λ (c : Cut). (c.top, c.bottom)) p (ratios_of a.cuts)))

  whole_cuts : All (λ (c : Cut). (c.bottom ≡ 1) × (c.top ≤ longest_gap)) (times_of a.cuts)
  whole_cuts k d lt =
      let c : Cut = get_or (times_of a.cuts) k d in
      cut_below (wheel_parts_of b) image_wheel cycle c ((sound.wheel.cuts.times c).0 (Contains-get_or (times_of a.cuts) k d lt))

  pub time_class : (t : ℕ) → walk.time_class_of b (min t longest_gap) ≡ classes.time_class_of (times_of a.cuts) t
  time_class t = time_counted (λ x. nat_le x (min t longest_gap)) ∙ class_of_cut (times_of a.cuts) t longest_gap whole_cuts

  pub ratio_class : (t0 t1 : ℕ) → walk.ratio_class_of b t0 t1 ≡ classes.ratio_class_of (ratios_of a.cuts) t0 t1
  ratio_class t0 t1 =
      let under = ratio_counted (λ x. nat_lt (x.0 * t0) (t1 * x.1)) in
      let same = ratio_counted (λ x. (x.0 * t0) == (t1 * x.1)) in
      omega (arith, under, same)

  pub has_alphabet : HasAlphabet b a
  has_alphabet = record {
    many = place_many;
    places = place_is;
    times = omega (arith, time_many);
    ratios = omega (arith, ratio_many);
    columns = omega (arith, time_many, ratio_many);
    time = time_class;
    ratio = ratio_class;
  }

  -- the states, what they say, and where their letters lead
  pub state_is : (q : ℕ) → q < state_total b → slice_get (table_of b).states q ≡ Some (state_at b q)
  state_is q lt =
      let long : length (map (state_at b) (below (state_total b))) ≡ state_total b = made_long (state_at b) (state_total b) in
      slice_get-get_or (table_of b).states q (state_at b 0) (omega (arith, lt, long))
      ∙ ap Some (made_at (state_at b) (state_total b) q (state_at b 0) lt)

  pub state_many : length (table_of b).states ≡ state_total b
  state_many = made_long (state_at b) (state_total b)

  pub state_there : (q : ℕ) → q < state_total b → Contains (table_of b).states (state_at b q)
  state_there q lt =
      let d = state_at b 0 in
      let long = state_many in
      subst (λ s. Contains (table_of b).states s) (made_at (state_at b) (state_total b) q d lt)
      (Contains-get_or (table_of b).states q d (omega (arith, lt, long)))

  pub state_says : (q : ℕ) → q < state_total b → SetSays a (state_at b q).set (says_of (kind_at b q))
  state_says q lt =
      subst (SetSays a (state_at b q).set) (made_at (λ k. says_of (kind_at b k)) (state_total b) q Nothing lt)
      (sound.table.says q (state_at b q) (state_is q lt))

  pub entry_due : (q column : ℕ) → q < state_total b → column < width a
      → IsDue (table_of b).states (next_state a (state_at b q) column) (entry_at b q column)
  entry_due q column lt within =
      let wide : row_width b ≡ width a = has_alphabet.columns in
      let there : q * width a + column < state_total b * width a = in_rows q column (width a) (state_total b) lt within in
      let entries : length (table_of b).rows ≡ state_total b * width a = sound.table.entries ∙ ap (λ n. n * width a) state_many in
      let due = sound.table.due q column (state_at b q) (state_is q lt) within (omega (arith, there, entries)) in
      let at : ℕ = q * width a + column in
      let same : get_or (table_of b).rows at 0 ≡ row_number_at b at =
      made_at (row_number_at b) (state_total b * row_width b) at 0 (rw wide there) in
      subst (IsDue (table_of b).states (next_state a (state_at b q) column))
      (same ∙ ap (λ n. row_number_at b (q * n + column)) (sym wide)) due
    where
      in_rows : (q c w n : ℕ) → q < n → c < w → q * w + c < n * w
      in_rows q c w n lt within = let more : w * (q + 1) ≤ w * n = mul-le-mul_left w (omega (arith, lt)) in omega (arith, more, within)
