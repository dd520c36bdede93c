-- Each class of cuts has a time, or two times whose ratio is of the class.
use Rattle.std.proofs.Common.{◌≡◌, ℕ, zero, suc, ◌/◌, ◌+◌, ◌*◌, ◌^◌, ◌<◌, ◌≤◌, ◌⊎◌, inl, inr, true, false, ◌==◌, ◌||◌, IsTrue, List, length, get_or, sym, ap, subst, ◌∙◌, mul-le-mul, eq-eqb, arith}
use Rattle.std.proofs.Math.Nat.{mul-pos}
use Rattle.std.proofs.lemmas.Bool.Decides.{nat_tests}
use Rattle.std.proofs.lemmas.List.{get_or_default}
use Rattle.std.proofs.lemmas.List.Elements.{Contains-get_or}
use Rattle.std.specs.Prelude.{All}
use Rattle.wheel_types.specs.declared.parts.WheelParts.{WheelParts}
use Rattle.wheel_types.specs.Edges.{slot_count}
use Rattle.wheel_types.specs.Wheels.{IsWheel}
use Rattle.motion_bounds.specs.Times.{least_of, greatest_of}
use Rattle.motion_bounds.proofs.Between.{from_greatest, to_least}
use Rattle.gap_thresholds.specs.declared.cut.Cut.{Cut}
use Rattle.gap_thresholds.specs.declared.cuts.Cuts.{Cuts}
use Rattle.gap_thresholds.specs.Fractions.{Ascend, IsEqual, count_below, count_equal}
use Rattle.gap_thresholds.specs.Gaps.{IsTimeCut, IsRatioCut}
use Rattle.gap_thresholds.specs.Classes.{times_of, ratios_of, time_class_of, ratio_class_of, AreCutsOf}
use Rattle.gap_thresholds.proofs.Counts.{below_then, then_below}
use Rattle.gap_thresholds.proofs.GapSizes.{gap_sizes, second_sizes}
use Rattle.gap_thresholds.proofs.Kept.{AreSome}
use Rattle.gap_thresholds.proofs.Parted.{IsPlace, rises, count_below-is, count_equal-is, count_equal-none}
use Rattle.gap_thresholds.proofs.TimesKept.{some_bottoms}

-- ---- classes of ascending cuts

abbrev no_cut : Cut
no_cut = record { top = 0; bottom = 1 }

less_or_same : (m n : ℕ) → m ≤ n → (m < n) ⊎ (m ≡ n)
less_or_same m n h = grind arith

differ : (m n : ℕ) → m < n → (n == m) ≡ false
differ m n h = grind (arith, nat_tests)

module _ (cuts : List Cut) (up : Ascend cuts) (some : AreSome cuts) where
  -- a fraction between the cuts before k and those from k on, which are all above it
  pub record IsBetween (k top bottom : ℕ) : Type 0 where
    pub positive : 1 ≤ bottom
    pub before : (j : ℕ) (d : Cut) → j < k → (get_or cuts j d).top * bottom < top * (get_or cuts j d).bottom
    pub from : (j : ℕ) (d : Cut) → k ≤ j → j < length cuts → top * (get_or cuts j d).bottom < (get_or cuts j d).top * bottom

  between_below : (k top bottom : ℕ) → k ≤ length cuts → IsBetween k top bottom → count_below cuts top bottom ≡ k
  between_below k top bottom within b = sym (count_below-is cuts top bottom k within ((λ j d l m. b.before j d m), λ j d l m. let h = b.from j d l m in omega (arith, h)))

  between_equal : (k top bottom : ℕ) → k ≤ length cuts → IsBetween k top bottom → count_equal cuts top bottom ≡ 0
  between_equal k top bottom within b = by (less_or_same k (length cuts) within)
    where
      by : (k < length cuts) ⊎ (k ≡ length cuts) → count_equal cuts top bottom ≡ 0
      by (inl there) = count_equal-is cuts up some top bottom k false b.positive ((λ j d l m. b.before j d m), λ j d l m. let h = b.from j d l m in omega (arith, h)) there
          (λ d. differ (top * (get_or cuts k d).bottom) ((get_or cuts k d).top * bottom) (b.from k d (omega arith) there))
      by (inr e) = count_equal-none cuts top bottom k (omega (arith, e)) ((λ j d l m. b.before j d m), λ j d l m. let h = b.from j d l m in omega (arith, h))

  -- cut k itself
  abbrev cut : ℕ → Cut
  cut k = get_or cuts k no_cut

  on_cut : (k : ℕ) → k < length cuts → (count_below cuts (cut k).top (cut k).bottom ≡ k) × (count_equal cuts (cut k).top (cut k).bottom ≡ 1)
  on_cut k within = (sym (count_below-is cuts top bottom k (omega (arith, within)) place), count_equal-is cuts up some top bottom k true (some k no_cut within) place within (λ d. eq-eqb _ _ (same d)))
    where
      top : ℕ
      top = (cut k).top

      bottom : ℕ
      bottom = (cut k).bottom

      one : (d : Cut) → get_or cuts k d ≡ cut k
      one d = get_or_default cuts k d no_cut within

      same : (d : Cut) → (get_or cuts k d).top * bottom ≡ top * (get_or cuts k d).bottom
      same d = ap (λ (c : Cut). c.top * bottom) (one d) ∙ sym (ap (λ (c : Cut). top * c.bottom) (one d))

      later : (j : ℕ) (d : Cut) → (k < j) ⊎ (k ≡ j) → j < length cuts → top * (get_or cuts j d).bottom ≤ (get_or cuts j d).top * bottom
      later j d (inl l) m =
          let h = rises cuts up some k j d l m in
          let g : top * (get_or cuts j d).bottom < (get_or cuts j d).top * bottom = subst (λ (c : Cut). c.top * (get_or cuts j d).bottom < (get_or cuts j d).top * c.bottom) (one d) h in
          omega (arith, g)
      later j d (inr e) m = subst (λ n. top * (get_or cuts n d).bottom ≤ (get_or cuts n d).top * bottom) e (omega (arith, same d))

      place : IsPlace cuts top bottom k
      place = ((λ j d l m. let h = rises cuts up some j k d m within in subst (λ (c : Cut). (get_or cuts j d).top * c.bottom < c.top * (get_or cuts j d).bottom) (one d) h), λ j d l m. later j d (less_or_same k j l) m)

  -- the cut before k, or 0
  abbrev left : ℕ → Cut
  left zero = record { top = 0; bottom = 1 }
  left (suc k) = cut k

  -- cut k, or no bound
  abbrev right_by : (k : ℕ) → (k < length cuts) ⊎ (k ≡ length cuts) → Cut
  right_by k (inl h) = cut k
  right_by k (inr e) = record { top = 1; bottom = 0 }

  left_some : (k : ℕ) → k ≤ length cuts → 1 ≤ (left k).bottom
  left_some zero h = omega arith
  left_some (suc k) h = some k no_cut (omega (arith, h))

  -- the fraction of the sums of two tops and of two bottoms is between the two
  middle_after : (a b c d : ℕ) → a * d < c * b → a * (b + d) < (a + c) * b
  middle_after a b c d h = omega (arith, h)

  middle_before : (a b c d : ℕ) → a * d < c * b → (a + c) * d < c * (b + d)
  middle_before a b c d h = omega (arith, h)

  some_top : (a b c d : ℕ) → a * d < c * b → 1 ≤ c
  some_top a b zero d h = absurd (omega (arith, h))
  some_top a b (suc c) d h = omega arith

  module _ (tops : All (λ (c : Cut). 1 ≤ c.top) cuts) where
    left_below : (k : ℕ) (h : (k < length cuts) ⊎ (k ≡ length cuts)) → (left k).top * (right_by k h).bottom < (right_by k h).top * (left k).bottom
    left_below zero (inl h) = let t : 1 ≤ (cut 0).top = tops 0 no_cut h in omega (arith, t)
    left_below zero (inr e) = omega arith
    left_below (suc k) (inl h) = rises cuts up some k (suc k) no_cut (omega arith) h
    left_below (suc k) (inr e) = let t : 1 ≤ (cut k).bottom = some k no_cut (omega (arith, e)) in omega (arith, t)

    -- the cuts before k are at most the one before it
    up_to_left : (k j : ℕ) (d : Cut) (top bottom : ℕ) → k ≤ length cuts → j < k → (left k).top * bottom < top * (left k).bottom → (get_or cuts j d).top * bottom < top * (get_or cuts j d).bottom
    up_to_left zero j d top bottom within lt h = absurd (omega (arith, lt))
    up_to_left (suc k) j d top bottom within lt h = by (less_or_same j k (omega (arith, lt)))
      where
        one : get_or cuts k d ≡ cut k
        one = get_or_default cuts k d no_cut (omega (arith, within))

        by : (j < k) ⊎ (j ≡ k) → (get_or cuts j d).top * bottom < top * (get_or cuts j d).bottom
        by (inl l) =
            let g = rises cuts up some j k d l (omega (arith, within)) in
            let i : (get_or cuts j d).top * (cut k).bottom < (cut k).top * (get_or cuts j d).bottom = subst (λ (c : Cut). (get_or cuts j d).top * c.bottom < c.top * (get_or cuts j d).bottom) one g in
            below_then (get_or cuts j d).top (get_or cuts j d).bottom (cut k).top (cut k).bottom top bottom (some j d (omega (arith, l, within))) (omega (arith, i)) h
        by (inr e) = subst (λ n. (get_or cuts n d).top * bottom < top * (get_or cuts n d).bottom) (sym e) (subst (λ (c : Cut). c.top * bottom < top * c.bottom) (sym one) h)

    from_right : (k j : ℕ) (d : Cut) (top bottom : ℕ) → k ≤ j → j < length cuts → top * (cut k).bottom < (cut k).top * bottom → top * (get_or cuts j d).bottom < (get_or cuts j d).top * bottom
    from_right k j d top bottom le lt h = by (less_or_same k j le)
      where
        one : get_or cuts k d ≡ cut k
        one = get_or_default cuts k d no_cut (omega (arith, le, lt))

        by : (k < j) ⊎ (k ≡ j) → top * (get_or cuts j d).bottom < (get_or cuts j d).top * bottom
        by (inl l) =
            let g = rises cuts up some k j d l lt in
            let i : (cut k).top * (get_or cuts j d).bottom < (get_or cuts j d).top * (cut k).bottom = subst (λ (c : Cut). c.top * (get_or cuts j d).bottom < (get_or cuts j d).top * c.bottom) one g in
            then_below top bottom (cut k).top (cut k).bottom (get_or cuts j d).top (get_or cuts j d).bottom (some j d lt) h (omega (arith, i))
        by (inr e) = subst (λ n. top * (get_or cuts n d).bottom < (get_or cuts n d).top * bottom) e (subst (λ (c : Cut). top * c.bottom < c.top * bottom) (sym one) h)

    between_by : (k : ℕ) (h : (k < length cuts) ⊎ (k ≡ length cuts)) → k ≤ length cuts → IsBetween k ((left k).top + (right_by k h).top) ((left k).bottom + (right_by k h).bottom)
    between_by k (inl h) within = record {
      positive = omega (arith, left_some k within);
      before = λ j d l. up_to_left k j d ((left k).top + (cut k).top) ((left k).bottom + (cut k).bottom) within l (middle_after (left k).top (left k).bottom (cut k).top (cut k).bottom (left_below k (inl h)));
      from = λ j d l m. from_right k j d ((left k).top + (cut k).top) ((left k).bottom + (cut k).bottom) l m (middle_before (left k).top (left k).bottom (cut k).top (cut k).bottom (left_below k (inl h)));
    }
    between_by k (inr e) within = record {
      positive = omega (arith, left_some k within);
      before = λ j d l. up_to_left k j d ((left k).top + 1) ((left k).bottom + 0) within l (middle_after (left k).top (left k).bottom 1 0 (left_below k (inr e)));
      from = λ j d l m. absurd (omega (arith, l, m, e));
    }

    -- a ratio of each class
    pub record HasRatio (k : ℕ) : Type 0 where
      pub first : ℕ
      pub second : ℕ
      pub some_first : 1 ≤ first
      pub some_second : 1 ≤ second
      pub class : ratio_class_of cuts first second ≡ k

    half : (n : ℕ) → (n ≡ 2 * (n / 2)) ⊎ (n ≡ 2 * (n / 2) + 1)
    half n = grind arith

    pub ratio_of : (class : ℕ) → class ≤ 2 * length cuts → HasRatio class
    ratio_of class within = by (half class)
      where
        k : ℕ
        k = class / 2

        by : (class ≡ 2 * (class / 2)) ⊎ (class ≡ 2 * (class / 2) + 1) → HasRatio class
        by (inl e) =
            let le : k ≤ length cuts = omega (arith, within) in
            let which = less_or_same k (length cuts) le in
            let top : ℕ = (left k).top + (right_by k which).top in
            let bottom : ℕ = (left k).bottom + (right_by k which).bottom in
            let b = between_by k which le in
            let t : 1 ≤ (right_by k which).top = some_top (left k).top (left k).bottom (right_by k which).top (right_by k which).bottom (left_below k which) in
            let below : count_below cuts top bottom ≡ k = between_below k top bottom le b in
            let equal : count_equal cuts top bottom ≡ 0 = between_equal k top bottom le b in
            record { first = bottom; second = top; some_first = b.positive; some_second = omega (arith, t); class = omega (arith, below, equal, e) }
        by (inr e) =
            let lt : k < length cuts = omega (arith, within, e) in
            let c = on_cut k lt in
            record { first = (cut k).bottom; second = (cut k).top; some_first = some k no_cut lt; some_second = tops k no_cut lt; class = omega (arith, c.0, c.1, e) }

  -- a time of each class, where the cuts are whole and above 1
  pub time_of : (class : ℕ) → class ≤ length cuts → All (λ (c : Cut). (c.bottom ≡ 1) × (2 ≤ c.top)) cuts → (t : ℕ) × ((1 ≤ t) × (time_class_of cuts t ≡ class))
  time_of zero within whole =
      let b : IsBetween 0 1 1 = record { positive = omega arith; before = λ j d l. absurd (omega (arith, l)); from = λ j d l m. let w = whole j d m in omega (arith, w.0, w.1) } in
      let below : count_below cuts 1 1 ≡ 0 = between_below 0 1 1 within b in
      let equal : count_equal cuts 1 1 ≡ 0 = between_equal 0 1 1 within b in
      (1, (omega arith, omega (arith, below, equal)))
  time_of (suc k) within whole =
      let lt : k < length cuts = omega (arith, within) in
      let w = whole k no_cut lt in
      let c = on_cut k lt in
      let below : count_below cuts (cut k).top 1 ≡ k = subst (λ b. count_below cuts (cut k).top b ≡ k) w.0 c.0 in
      let equal : count_equal cuts (cut k).top 1 ≡ 1 = subst (λ b. count_equal cuts (cut k).top b ≡ 1) w.0 c.1 in
      ((cut k).top, (omega (arith, w.1), omega (arith, below, equal)))

-- ---- the cuts of a wheel

some_degrees : (d : ℕ) → IsTrue ((d == 360) || (d == 720)) → 360 ≤ d
some_degrees d h = grind (arith, nat_tests)

-- a gap of a slot or more takes more than a femtosecond at the greatest speed, so it does at the least
way_long : (s d : ℕ) → 1 ≤ s → 360 ≤ d → 360 * 10 ^ 15 ≤ s * d * 10 ^ 15
way_long s d some long = let product : 1 * 360 ≤ s * d = mul-le-mul some long in omega (arith, product)

rate_small : (r n : ℕ) → r ≤ 30000 → n ≤ 4096 → r * 6 * n ≤ 737280000
rate_small r n few small = let product : r * n ≤ 30000 * 4096 = mul-le-mul few small in omega (arith, product)

two_at_least : (q way rate : ℕ) → way ≤ rate * q → rate < way → 2 ≤ q
two_at_least zero way rate h k = absurd (omega (arith, h, k))
two_at_least (suc zero) way rate h k = absurd (omega (arith, h, k))
two_at_least (suc (suc q)) way rate h k = omega arith

module _ (w : WheelParts) (wheel : IsWheel w) where
  gap_long : (s : ℕ) → 1 ≤ s → (2 ≤ least_of w s) × (1 ≤ greatest_of w s)
  gap_long s some =
      let way : ℕ = s * w.degrees * 10 ^ 15 in
      let high : ℕ = w.rpm_high * 6 * slot_count w in
      let low : ℕ = w.rpm_low * 6 * slot_count w in
      let slots : 0 < slot_count w = omega (arith, wheel.slots.0) in
      let h : 0 < high = mul-pos (mul-pos (omega (arith, wheel.rpm.0, wheel.rpm.1)) (omega arith)) slots in
      let l : 0 < low = mul-pos (mul-pos (omega (arith, wheel.rpm.0)) (omega arith)) slots in
      let long : 360 * 10 ^ 15 ≤ way = way_long s w.degrees some (some_degrees w.degrees wheel.degrees) in
      let few_high : high ≤ 737280000 = rate_small w.rpm_high (slot_count w) wheel.rpm.2 wheel.slots.1 in
      let few_low : low ≤ 737280000 = rate_small w.rpm_low (slot_count w) (omega (arith, wheel.rpm.1, wheel.rpm.2)) wheel.slots.1 in
      let least : way ≤ high * least_of w s = to_least way high (least_of w s) h (omega arith) in
      (two_at_least (least_of w s) way high least (omega (arith, long, few_high)), from_greatest way low 1 l (omega (arith, long, few_low)))

  time_cut : (c : Cut) → IsTimeCut w c → (c.bottom ≡ 1) × (2 ≤ c.top)
  time_cut c (s, (gap, (one, which))) = (one, by which)
    where
      long : (2 ≤ least_of w s) × (1 ≤ greatest_of w s)
      long = gap_long s (gap_sizes w s wheel.crank_edge gap).0

      by : (c.top ≡ least_of w s) ⊎ (c.top ≡ greatest_of w s + 1) → 2 ≤ c.top
      by (inl e) = omega (arith, long.0, e)
      by (inr e) = omega (arith, long.1, e)

  ratio_cut : (c : Cut) → IsRatioCut w c → 1 ≤ c.top
  ratio_cut c (s0, (s1, (gaps, (low, which)))) = by which
    where
      some_second : 1 ≤ s1
      some_second = (second_sizes w s0 s1 wheel.crank_edge gaps).0

      top_some : (t b x y : ℕ) → 1 ≤ b → 1 ≤ x → t * y ≡ x * b → 1 ≤ t
      top_some zero b x y sb sx e = let p : 0 < x * b = mul-pos sx sb in absurd (omega (arith, p, e))
      top_some (suc t) b x y sb sx e = omega arith

      rn : 1 ≤ w.rn
      rn = omega (arith, wheel.ratio.0, wheel.ratio.1)

      by : IsEqual c (s1 * w.rd) (s0 * w.rn) ⊎ IsEqual c (s1 * w.rn) (s0 * w.rd) → 1 ≤ c.top
      by (inl e) = top_some c.top c.bottom (s1 * w.rd) (s0 * w.rn) low.0 (mul-pos some_second wheel.ratio.0) e
      by (inr e) = top_some c.top c.bottom (s1 * w.rn) (s0 * w.rd) low.0 (mul-pos some_second rn) e

  -- each time class of the wheel has a time
  pub class_time : (c : Cuts) (class : ℕ) → AreCutsOf w c → class ≤ length (times_of c) → (t : ℕ) × ((1 ≤ t) × (time_class_of (times_of c) t ≡ class))
  class_time c class are within =
      time_of (times_of c) are.times_ascend (some_bottoms (times_of c) c.times.lowest) class within
      (λ k d lt. time_cut (get_or (times_of c) k d) ((are.times (get_or (times_of c) k d)).0 (Contains-get_or (times_of c) k d lt)))

  -- and each ratio class two times
  pub class_ratio : (c : Cuts) (class : ℕ) → AreCutsOf w c → class ≤ 2 * length (ratios_of c)
      → (t0 : ℕ) × ((t1 : ℕ) × ((1 ≤ t0) × ((1 ≤ t1) × (ratio_class_of (ratios_of c) t0 t1 ≡ class))))
  class_ratio c class are within =
      let tops : All (λ (k : Cut). 1 ≤ k.top) (ratios_of c) = λ k d lt. ratio_cut (get_or (ratios_of c) k d) ((are.ratios (get_or (ratios_of c) k d)).0 (Contains-get_or (ratios_of c) k d lt)) in
      let r = ratio_of (ratios_of c) are.ratios_ascend (some_bottoms (ratios_of c) c.ratios.lowest) tops class within in
      (r.first, (r.second, (r.some_first, (r.some_second, r.class))))
