-- The letters of an instant are its legal steps.
use Rattle.std.proofs.Common.{◌≡◌, ◌↔◌, ℕ, zero, suc, ◌+◌, ◌*◌, ◌/◌, ◌%◌, ◌<◌, ◌≤◌, Bool, true, List, [], ◌∷◌, ℤ, pos, refl, sym, ap, subst, ◌∙◌, arith}
use Rattle.std.proofs.Math.Nat.{mul-pos}
use Rattle.std.proofs.lemmas.Bool.{and_parts}
use Rattle.std.proofs.lemmas.Nat.Gcd.{IsGcd-from_zero, IsGcd-from_mod}
use Rattle.std.specs.Prelude.{IsTrue, Option, Some, None, ◌&&◌}
use Rattle.std.specs.Int.{IsGcd}
use Rattle.wheel_types.specs.declared.channel.Pol.{Pol}
use Rattle.wheel_types.specs.declared.place.Place.{Place}
use Rattle.wheel_types.specs.declared.parts.WheelParts.{WheelParts}
use Rattle.wheel_types.specs.Motions.{time_between, KeepsSpeed, KeepsRatio}
use Rattle.wheel_types.specs.Steps.{KeepsGaps, KeepsGapsIf}
use Rattle.motion_bounds.specs.Times.{least_of, greatest_of}
use Rattle.gap_thresholds.specs.declared.cut.Cut.{Cut}
use Rattle.gap_thresholds.specs.declared.cuts.Cuts.{Cuts}
use Rattle.gap_thresholds.specs.Fractions.{IsLowest, IsEqual}
use Rattle.gap_thresholds.specs.Gaps.{IsGap, AreGaps}
use Rattle.gap_thresholds.specs.Classes.{wheel_of, times_of, ratios_of, time_class_of, ratio_class_of, AreCutsOf}
use Rattle.gap_thresholds.proofs.Lowest.{bottom_divided, apart_divided, equal_divided}
use Rattle.gap_thresholds.proofs.Counts.{count_below-same, count_equal-same}
use Rattle.gap_thresholds.proofs.TimesKept.{time_kept}
use Rattle.gap_thresholds.proofs.RatiosKept.{ratio_kept}
use Rattle.place_words.specs.Words.{Has, has, IsSet}
use Rattle.place_words.proofs.SetOf.{has-set_of, set_of-has, has-true, true-has}
use Rattle.position_nfa.specs.Alphabets.{Alphabet, wheel, count, place}
use Rattle.position_nfa.specs.Sets as sets
use Rattle.position_nfa.specs.Sets.{next_gap, last_gap, first_ratio, last_ratio, is_from, keeps_time, keeps_ratio, walk_end, is_end, any_below}
use Rattle.position_nfa.specs.Laws.{HasPlace, gaps_kept, gaps_kept_if, TimeClassesAreLimits, RatioClassesAreLimits}
use Rattle.position_nfa.proofs.RisingGaps.{AreApart}
use Rattle.position_nfa.proofs.Gaps.{next_is_gap, are_gaps, last_some}
use Rattle.position_nfa.proofs.Rows.{from_test, to_test}
use Rattle.position_nfa.proofs.Filters.{any_below_from, any_below_to}
use Rattle.position_nfa.proofs.SamePlaces.{same_place-is, is_same_place}

-- every two numbers have a greatest common divisor
gcd_exists : (fuel a b : ℕ) → b ≤ fuel → (g : ℕ) × IsGcd a b g
gcd_exists fuel a zero le = (a, IsGcd-from_zero a 0 refl)
gcd_exists zero a (suc b) le = absurd (omega (arith, le))
gcd_exists (suc fuel) a (suc b) le =
    let r = gcd_exists fuel (suc b) (a % suc b) (omega (arith, le)) in
    (r.0, IsGcd-from_mod a (suc b) r.0 r.1)

-- and each fraction is one in lowest terms
lowest : (a b : ℕ) → 1 ≤ b → (c : Cut) × (IsLowest c × IsEqual c a b)
lowest a b some =
    let g = gcd_exists b a b (omega arith) in
    (record { top = a / g.0; bottom = b / g.0 }, ((bottom_divided a b g.0 some g.1, apart_divided a b g.0 some g.1), equal_divided a b g.0 g.1))

same_class : (cuts : List Cut) (c : Cut) (a b : ℕ) → 1 ≤ b → IsLowest c → IsEqual c a b → ratio_class_of cuts b a ≡ ratio_class_of cuts c.bottom c.top
same_class cuts c a b some low e =
    let below = count_below-same cuts a b c.top c.bottom some low.0 (sym e) in
    let equal = count_equal-same cuts a b c.top c.bottom some low.0 (sym e) in
    omega (arith, below, equal)

-- the tests of classes are the limits
time_law : (c : Cuts) (s t : ℕ) → AreCutsOf (wheel_of c) c → IsGap (wheel_of c) s → IsTrue (is_from (time_class_of (times_of c) t) (sets.first_time c s) (sets.last_time c s)) ↔ KeepsSpeed (wheel_of c) s t
time_law c s t are gap =
    let law = time_kept c s (time_class_of (times_of c) t) t (sets.first_time c s) (sets.last_time c s) (least_of (wheel_of c) s) (greatest_of (wheel_of c) s) c.wheel.valid c.times.lowest are gap refl refl refl refl refl in
    (λ h. law.0 (from_test (time_class_of (times_of c) t) _ _ h), λ h. let b = law.1 h in to_test (time_class_of (times_of c) t) _ _ b.0 b.1)

ratio_law : (c : Cuts) (s0 s1 t0 t1 : ℕ) → AreCutsOf (wheel_of c) c → AreGaps (wheel_of c) s0 s1 → 1 ≤ s0 → 1 ≤ t0 → IsTrue (is_from (ratio_class_of (ratios_of c) t0 t1) (first_ratio c s0 s1) (last_ratio c s0 s1)) ↔ KeepsRatio (wheel_of c) s0 t0 s1 t1
ratio_law c s0 s1 t0 t1 are gaps some some_t =
    let w = wheel_of c in
    let ratio = c.wheel.valid.ratio in
    let n : 1 ≤ s0 * w.rn = mul-pos some (omega (arith, ratio.0, ratio.1)) in
    let d : 1 ≤ s0 * w.rd = mul-pos some ratio.0 in
    let first = lowest (s1 * w.rd) (s0 * w.rn) n in
    let last = lowest (s1 * w.rn) (s0 * w.rd) d in
    let law = ratio_kept c s0 s1 (ratio_class_of (ratios_of c) t0 t1) t0 t1 (first_ratio c s0 s1) (last_ratio c s0 s1) first.0 last.0 c.ratios.lowest are gaps n d first.1.0 first.1.1 last.1.0 last.1.1
    (same_class (ratios_of c) first.0 (s1 * w.rd) (s0 * w.rn) n first.1.0 first.1.1) (same_class (ratios_of c) last.0 (s1 * w.rn) (s0 * w.rd) d last.1.0 last.1.1) some_t refl in
    (λ h. law.0 (from_test (ratio_class_of (ratios_of c) t0 t1) _ _ h), λ h. let b = law.1 h in to_test (ratio_class_of (ratios_of c) t0 t1) _ _ b.0 b.1)

-- as laws of places
pub time_classes_are_limits : TimeClassesAreLimits
time_classes_are_limits w a i t is =
    let P : WheelParts → Type 0 = λ v. IsTrue (keeps_time a (time_class_of (times_of a.cuts) t) i) ↔ KeepsSpeed v (next_gap v (place a i)) t in
    let are = subst (λ v. AreCutsOf v a.cuts) (sym is.cuts.wheel) is.cuts in
    subst P is.cuts.wheel (time_law a.cuts (next_gap (wheel a) (place a i)) t are (next_is_gap (wheel a) (place a i)))

pub ratio_classes_are_limits : RatioClassesAreLimits
ratio_classes_are_limits w a i t0 t1 is some_t =
    let P : WheelParts → Type 0 = λ v. IsTrue (keeps_ratio a (ratio_class_of (ratios_of a.cuts) t0 t1) i) ↔ KeepsRatio v (last_gap v (place a i)) t0 (next_gap v (place a i)) t1 in
    let are = subst (λ v. AreCutsOf v a.cuts) (sym is.cuts.wheel) is.cuts in
    let some = last_some (wheel a) (place a i) a.cuts.wheel.valid.crank_edge in
    subst P is.cuts.wheel (ratio_law a.cuts (last_gap (wheel a) (place a i)) (next_gap (wheel a) (place a i)) t0 t1 are (are_gaps (wheel a) (place a i)) some some_t)

-- what a filter keeps
kept_has : (a : Alphabet) (test : ℕ → Bool) (set : List ℕ) (p : Place) → HasPlace a (sets.kept (count a) test set) p ↔ ((i : ℕ) × ((i < count a) × (Has set i × ((place a i ≡ p) × IsTrue (test i)))))
kept_has a test set p = (
  λ h.
      let b = (set_of-has (count a) (λ i. has set i && test i) h.0 h.1.1.0).1 in
      let parts = and_parts (has set h.0) (test h.0) b in
      (h.0, (h.1.0, (true-has set h.0 parts.0, (h.1.1.1, parts.1)))),
  λ h. (h.0, (h.1.0, (has-set_of (count a) (λ i. has set i && test i) h.0 h.1.0 (rw (has-true set h.0 h.1.1.0, h.1.1.1.1) refl), h.1.1.1.0))),
)

module _ (a : Alphabet) (are : AreCutsOf (wheel a) a.cuts) where
  some_gap : (p : Place) → 1 ≤ last_gap (wheel a) p
  some_gap p = last_some (wheel a) p a.cuts.wheel.valid.crank_edge

  by_time : (t u : ℤ) (set : List ℕ) (p : Place) → HasPlace a (sets.time_kept a (time_class_of (times_of a.cuts) (time_between u t)) set) p ↔ (HasPlace a set p × KeepsSpeed (wheel a) (next_gap (wheel a) p) (time_between u t))
  by_time t u set p =
      let k : ℕ = time_class_of (times_of a.cuts) (time_between u t) in
      let law = kept_has a (keeps_time a k) set p in
      let limit : (r : Place) → IsTrue (is_from k (sets.first_time a.cuts (next_gap (wheel a) r)) (sets.last_time a.cuts (next_gap (wheel a) r))) ↔ KeepsSpeed (wheel a) (next_gap (wheel a) r) (time_between u t) = λ r. time_law a.cuts (next_gap (wheel a) r) (time_between u t) are (next_is_gap (wheel a) r) in (
        λ h. let r = law.0 h in ((r.0, (r.1.0, (r.1.1.0, r.1.1.1.0))), subst (λ (x : Place). KeepsSpeed (wheel a) (next_gap (wheel a) x) (time_between u t)) r.1.1.1.0 ((limit (place a r.0)).0 r.1.1.1.1)),
        λ h. let m = h.0 in law.1 (m.0, (m.1.0, (m.1.1.0, (m.1.1.1, (limit (place a m.0)).1 (subst (λ (x : Place). KeepsSpeed (wheel a) (next_gap (wheel a) x) (time_between u t)) (sym m.1.1.1) h.1))))),
      )

  by_ratio : (t u v : ℤ) (set : List ℕ) (p : Place) → 1 ≤ time_between v u → HasPlace a (sets.ratio_kept a (ratio_class_of (ratios_of a.cuts) (time_between v u) (time_between u t)) set) p ↔ (HasPlace a set p × KeepsRatio (wheel a) (last_gap (wheel a) p) (time_between v u) (next_gap (wheel a) p) (time_between u t))
  by_ratio t u v set p some =
      let k : ℕ = ratio_class_of (ratios_of a.cuts) (time_between v u) (time_between u t) in
      let law = kept_has a (keeps_ratio a k) set p in
      let K : Place → Type 0 = λ r. KeepsRatio (wheel a) (last_gap (wheel a) r) (time_between v u) (next_gap (wheel a) r) (time_between u t) in
      let limit : (r : Place) → IsTrue (is_from k (first_ratio a.cuts (last_gap (wheel a) r) (next_gap (wheel a) r)) (last_ratio a.cuts (last_gap (wheel a) r) (next_gap (wheel a) r))) ↔ K r = λ r. ratio_law a.cuts (last_gap (wheel a) r) (next_gap (wheel a) r) (time_between v u) (time_between u t) are (are_gaps (wheel a) r) (some_gap r) some in (
        λ h. let r = law.0 h in ((r.0, (r.1.0, (r.1.1.0, r.1.1.1.0))), subst K r.1.1.1.0 ((limit (place a r.0)).0 r.1.1.1.1)),
        λ h. let m = h.0 in law.1 (m.0, (m.1.0, (m.1.1.0, (m.1.1.1, (limit (place a m.0)).1 (subst K (sym m.1.1.1) h.1))))),
      )

  by_gaps : (t : ℤ) (ts : List ℤ) (set : List ℕ) (p : Place) → AreApart t ts → HasPlace a (gaps_kept a t ts set) p ↔ (HasPlace a set p × KeepsGaps (wheel a) (pos (p.j + 1)) t ts)
  by_gaps t [] set p rising = (λ h. (h, tt), λ h. h.0)
  by_gaps t (u ∷ []) set p rising = by_time t u set p
  by_gaps t (u ∷ v ∷ ts) set p rising =
      let first = by_time t u set p in
      let second = by_ratio t u v (sets.time_kept a (time_class_of (times_of a.cuts) (time_between u t)) set) p rising.1.0 in (
        λ h. let r = second.0 h in let s = first.0 r.0 in (s.0, (s.1, r.1)),
        λ h. second.1 (first.1 (h.0, h.1.0), h.1.1),
      )

  pub by_gaps_if : (o : Option Pol) (t : ℤ) (ts : List ℤ) (set : List ℕ) (p : Place) → AreApart t ts → HasPlace a (gaps_kept_if o a t ts set) p ↔ (HasPlace a set p × KeepsGapsIf o (wheel a) (pos (p.j + 1)) t ts)
  by_gaps_if None t ts set p rising = (λ h. (h, tt), λ h. h.0)
  by_gaps_if (Some pol) t ts set p rising = by_gaps t ts set p rising

  -- what a shape gives
  pub by_shape : (shape : ℕ) (set : List ℕ) (q : Place) → IsSet (count a) set → ((p r : Place) → HasPlace a set p → walk_end (wheel a) shape p ≡ Some r → (k : ℕ) × ((k < count a) × (place a k ≡ r)))
      → HasPlace a (sets.shape_ends a shape set) q ↔ ((p : Place) × (HasPlace a set p × (walk_end (wheel a) shape p ≡ Some q)))
  by_shape shape set q is found = (
    λ h.
        let b = (set_of-has (count a) (λ k. any_below (count a) (λ i. has set i && is_end (walk_end (wheel a) shape (place a i)) (place a k))) h.0 h.1.1.0).1 in
        let r = any_below_to (count a) (λ i. has set i && is_end (walk_end (wheel a) shape (place a i)) (place a h.0)) b in
        let parts = and_parts (has set r.0) (is_end (walk_end (wheel a) shape (place a r.0)) (place a h.0)) r.2 in
        (place a r.0, ((r.0, (r.1, (true-has set r.0 parts.0, refl))), is_same_place (walk_end (wheel a) shape (place a r.0)) (place a h.0) parts.1 ∙ ap Some h.1.1.1)),
    λ h.
        let m = h.1.0 in
        let k = found h.0 q m h.1.1 in
        let e : walk_end (wheel a) shape (place a m.0) ≡ Some (place a k.0) = ap (walk_end (wheel a) shape) m.1.1.1 ∙ (h.1.1 ∙ ap Some (sym k.1.1)) in
        let t : is_end (walk_end (wheel a) shape (place a m.0)) (place a k.0) ≡ true = ap (λ o. is_end o (place a k.0)) e ∙ same_place-is (place a k.0) in
        let b : any_below (count a) (λ i. has set i && is_end (walk_end (wheel a) shape (place a i)) (place a k.0)) ≡ true = any_below_from (count a) (λ i. has set i && is_end (walk_end (wheel a) shape (place a i)) (place a k.0)) m.0 m.1.0 (rw (has-true set m.0 m.1.1.0, t) refl) in
        (k.0, (k.1.0, (has-set_of (count a) (λ k. any_below (count a) (λ i. has set i && is_end (walk_end (wheel a) shape (place a i)) (place a k))) k.0 k.1.0 b, k.1.1))),
  )
