-- What an image asks of the places and cuts of a wheel.
use Rattle.std.proofs.Common.{◌≡◌, ◌⊎◌, inl, inr, ℕ, zero, suc, ◌+◌, ◌*◌, ◌^◌, ◌<◌, ◌≤◌, List, length, get_or, sym, ap, subst, ◌∙◌, arith}
use Rattle.std.proofs.Math.Nat.{mul-pos}
use Rattle.std.proofs.lemmas.List.{get_or-map, length-map}
use Rattle.std.proofs.lemmas.List.Elements.{Contains-get_or}
use Rattle.std.specs.Prelude.{map}
use Rattle.wheel_types.specs.declared.channel.Channel.TheVariants.{Crank}
use Rattle.wheel_types.specs.declared.place.Place.{Place}
use Rattle.wheel_types.specs.declared.parts.WheelParts.{WheelParts}
use Rattle.wheel_types.specs.Edges.{edge_count, slot_count}
use Rattle.wheel_types.specs.Wheels.{IsWheel}
use Rattle.motion_bounds.specs.Times.{least_of, greatest_of}
use Rattle.motion_bounds.proofs.Between.{to_least, some_time, some_degrees}
use Rattle.gap_thresholds.specs.declared.cut.Cut.{Cut}
use Rattle.gap_thresholds.specs.Fractions.{IsEqual}
use Rattle.gap_thresholds.specs.Gaps.{IsTimeCut, IsRatioCut}
use Rattle.gap_thresholds.specs.Classes.{times_of, ratios_of}
use Rattle.gap_thresholds.proofs.GapSizes.{gap_sizes, second_sizes}
use Rattle.cam_ranges.proofs.SmallPlaces.{place_small}
use Rattle.image_layout.specs.Tables as tables
use Rattle.position_nfa.specs.Alphabets.{Alphabet, IsAlphabetOf}
use Rattle.table_images.proofs.Copies.{no_cut}

module _ (w : WheelParts) (wheel : IsWheel w) (a : Alphabet) (is : IsAlphabetOf w a) where
  pub places_in_range : (k : ℕ) (d : Place) → k < length a.places → tables.IsPlace (edge_count w Crank) (get_or a.places k d)
  places_in_range k d lt =
      let p = (is.places (get_or a.places k d)).0 (Contains-get_or a.places k d lt) in
      let small = place_small w (get_or a.places k d) wheel p in
      (p.edge, small.first, small.second)

  pub places_ascend : (k : ℕ) (d : Place) → k + 1 < length a.places → tables.IsBelow (get_or a.places k d) (get_or a.places (k + 1) d)
  places_ascend k d lt = is.ascend k (k + 1) d (omega arith) lt

  time_cut : (c : Cut) → IsTimeCut w c → (c.bottom ≡ 1) × (1 ≤ c.top)
  time_cut c (s, (gap, (one, which))) = (one, by which)
    where
      some : 1 ≤ s
      some = (gap_sizes w s wheel.crank_edge gap).0

      least : 1 ≤ least_of w s
      least =
          let way : ℕ = s * w.degrees * 10 ^ 15 in
          let high : ℕ = w.rpm_high * 6 * slot_count w in
          let slots : 0 < slot_count w = omega (arith, wheel.slots.0) in
          let h : 0 < high = mul-pos (mul-pos (omega (arith, wheel.rpm.0, wheel.rpm.1)) (omega arith)) slots in
          let turns : 0 < way = mul-pos (mul-pos some (some_degrees w wheel.degrees)) (omega arith) in
          let enough : way ≤ high * least_of w s = to_least way high (least_of w s) h (omega arith) in
          some_time high (least_of w s) (omega (arith, turns, enough))

      by : (c.top ≡ least_of w s) ⊎ (c.top ≡ greatest_of w s + 1) → 1 ≤ c.top
      by (inl e) = omega (arith, least, e)
      by (inr e) = omega (arith, e)

  time_at : (k : ℕ) (d : Cut) → k < length (times_of a.cuts) → ((get_or (times_of a.cuts) k d).bottom ≡ 1) × (1 ≤ (get_or (times_of a.cuts) k d).top)
  time_at k d lt = time_cut (get_or (times_of a.cuts) k d) ((is.cuts.times (get_or (times_of a.cuts) k d)).0 (Contains-get_or (times_of a.cuts) k d lt))

  module _ (tops : List ℕ) (e : tops ≡ map (λ (c : Cut). c.top) (times_of a.cuts)) where
    long : length tops ≡ length (times_of a.cuts)
    long = ap (λ (l : List ℕ). length l) e ∙ length-map (times_of a.cuts) (λ (c : Cut). c.top)

    top_at : (k : ℕ) → k < length tops → get_or tops k 0 ≡ (get_or (times_of a.cuts) k no_cut).top
    top_at k lt = ap (λ (l : List ℕ). get_or l k 0) e ∙ get_or-map (λ (c : Cut). c.top) (times_of a.cuts) k no_cut 0 (omega (arith, lt, long))

    pub times_some : (k : ℕ) → k < length tops → 1 ≤ get_or tops k 0
    times_some k lt = let t = time_at k no_cut (omega (arith, lt, long)) in let here = top_at k lt in omega (arith, here, t.1)

    pub times_ascend : (k : ℕ) → k + 1 < length tops → get_or tops k 0 < get_or tops (k + 1) 0
    times_ascend k lt =
        let there : k + 1 < length (times_of a.cuts) = omega (arith, lt, long) in
        let c : Cut = get_or (times_of a.cuts) k no_cut in
        let next : Cut = get_or (times_of a.cuts) (k + 1) no_cut in
        let up : c.top * next.bottom < next.top * c.bottom = is.cuts.times_ascend k no_cut there in
        let one : c.bottom ≡ 1 = (time_at k no_cut (omega (arith, there))).0 in
        let two : next.bottom ≡ 1 = (time_at (k + 1) no_cut there).0 in
        let plain : c.top * 1 < next.top * 1 = subst (λ n. c.top * n < next.top * 1) two (subst (λ n. c.top * next.bottom < next.top * n) one up) in
        let here = top_at k (omega (arith, lt)) in
        let on = top_at (k + 1) lt in
        omega (arith, plain, here, on)

  ratio_cut : (c : Cut) → IsRatioCut w c → (1 ≤ c.top) × (1 ≤ c.bottom)
  ratio_cut c (s0, (s1, (gaps, (low, which)))) = (by which, low.0)
    where
      some_second : 1 ≤ s1
      some_second = (second_sizes w s0 s1 wheel.crank_edge gaps).0

      top_some : (t b x y : ℕ) → 1 ≤ b → 1 ≤ x → t * y ≡ x * b → 1 ≤ t
      top_some zero b x y sb sx e = let p : 0 < x * b = mul-pos sx sb in absurd (omega (arith, p, e))
      top_some (suc t) b x y sb sx e = omega arith

      rn : 1 ≤ w.rn
      rn = omega (arith, wheel.ratio.0, wheel.ratio.1)

      by : IsEqual c (s1 * w.rd) (s0 * w.rn) ⊎ IsEqual c (s1 * w.rn) (s0 * w.rd) → 1 ≤ c.top
      by (inl e) = top_some c.top c.bottom (s1 * w.rd) (s0 * w.rn) low.0 (mul-pos some_second wheel.ratio.0) e
      by (inr e) = top_some c.top c.bottom (s1 * w.rn) (s0 * w.rd) low.0 (mul-pos some_second rn) e

  module _ (pairs : List (ℕ × ℕ)) (e : pairs ≡ map (λ (c : Cut). (c.top, c.bottom)) (ratios_of a.cuts)) where
    many : length pairs ≡ length (ratios_of a.cuts)
    many = ap (λ (l : List (ℕ × ℕ)). length l) e ∙ length-map (ratios_of a.cuts) (λ (c : Cut). (c.top, c.bottom))

    pair_at : (k : ℕ) → k < length pairs → get_or pairs k (0, 0) ≡ ((get_or (ratios_of a.cuts) k no_cut).top, (get_or (ratios_of a.cuts) k no_cut).bottom)
    pair_at k lt = ap (λ (l : List (ℕ × ℕ)). get_or l k (0, 0)) e ∙ get_or-map (λ (c : Cut). (c.top, c.bottom)) (ratios_of a.cuts) k no_cut (0, 0) (omega (arith, lt, many))

    pub ratios_some : (k : ℕ) → k < length pairs → (1 ≤ (get_or pairs k (0, 0)).0) × (1 ≤ (get_or pairs k (0, 0)).1)
    ratios_some k lt =
        let there : k < length (ratios_of a.cuts) = omega (arith, lt, many) in
        let c : Cut = get_or (ratios_of a.cuts) k no_cut in
        let r = ratio_cut c ((is.cuts.ratios c).0 (Contains-get_or (ratios_of a.cuts) k no_cut there)) in
        subst (λ (x : ℕ × ℕ). (1 ≤ x.0) × (1 ≤ x.1)) (sym (pair_at k lt)) r

    pub ratios_ascend : (k : ℕ) → k + 1 < length pairs → (get_or pairs k (0, 0)).0 * (get_or pairs (k + 1) (0, 0)).1 < (get_or pairs (k + 1) (0, 0)).0 * (get_or pairs k (0, 0)).1
    ratios_ascend k lt =
        let there : k + 1 < length (ratios_of a.cuts) = omega (arith, lt, many) in
        let up = is.cuts.ratios_ascend k no_cut there in
        subst (λ (x : ℕ × ℕ). x.0 * (get_or pairs (k + 1) (0, 0)).1 < (get_or pairs (k + 1) (0, 0)).0 * x.1) (sym (pair_at k (omega (arith, lt))))
        (subst (λ (y : ℕ × ℕ). (get_or (ratios_of a.cuts) k no_cut).top * y.1 < y.0 * (get_or (ratios_of a.cuts) k no_cut).bottom) (sym (pair_at (k + 1) lt)) up)
