-- No time in which a gap keeps the limits of speed, and no time cut, is longer than a walk tells apart.
use Rattle.std.proofs.Common.{◌≡◌, ◌⊎◌, inl, inr, ℕ, ◌+◌, ◌*◌, ◌^◌, ◌<◌, ◌≤◌, arith}
use Rattle.std.proofs.Math.Nat.{mul-le-mul_left, le_of_mul-le-mul_left, mul-pos}
use Rattle.wheel_types.specs.declared.parts.WheelParts.{WheelParts}
use Rattle.wheel_types.specs.Edges.{slot_count}
use Rattle.wheel_types.specs.Motions.{KeepsSpeed}
use Rattle.wheel_types.specs.Wheels.{IsWheel}
use Rattle.motion_bounds.specs.Times.{least_of, greatest_of}
use Rattle.motion_bounds.proofs.Between.{from_least, to_greatest}
use Rattle.gap_thresholds.specs.declared.cut.Cut.{Cut}
use Rattle.gap_thresholds.specs.Gaps.{IsGap, IsTimeCut}
use Rattle.gap_thresholds.proofs.GapSizes.{gap_sizes}
use Rattle.sound_walk.specs.Alphabet.{longest_gap}

-- the way of a gap, in the units of a rate, is at most the rate times a cycle
way_below : (s d r n : ℕ) → 1 ≤ r → s ≤ n → s * d * 10 ^ 15 ≤ r * 6 * n * (d * 10 ^ 15)
way_below s d r n some le =
    let more : n * 1 ≤ n * (r * 6) = mul-le-mul_left n (omega (arith, some)) in
    let all : d * 10 ^ 15 * s ≤ d * 10 ^ 15 * (r * 6 * n) = mul-le-mul_left (d * 10 ^ 15) (omega (arith, more, le)) in
    omega (arith, all)

time_below : (s d r n t : ℕ) → 1 ≤ r → 1 ≤ n → s ≤ n → r * 6 * n * t ≤ s * d * 10 ^ 15 → t ≤ d * 10 ^ 15
time_below s d r n t some slots le h =
    let way = way_below s d r n some le in
    let rate : 0 < r * 6 * n = mul-pos (mul-pos some (omega arith)) slots in
    let both : r * 6 * n * t ≤ r * 6 * n * (d * 10 ^ 15) = omega (arith, h, way) in
    le_of_mul-le-mul_left both rate

module _ (w : WheelParts) (wheel : IsWheel w) (cycle : w.degrees ≤ 720) where
  size : (s : ℕ) → IsGap w s → s ≤ slot_count w
  size s gap = (gap_sizes w s wheel.crank_edge gap).1

  slots : 1 ≤ slot_count w
  slots = omega (arith, wheel.slots.0)

  pub kept_below : (s t : ℕ) → IsGap w s → KeepsSpeed w s t → t ≤ longest_gap
  kept_below s t gap keeps =
      let n : ℕ = slot_count w in
      let le : t ≤ w.degrees * 10 ^ 15 = time_below s w.degrees w.rpm_low n t wheel.rpm.0 slots (size s gap) keeps.not_slower in
      omega (arith, le, cycle)

  least_below : (s : ℕ) → IsGap w s → least_of w s ≤ w.degrees * 10 ^ 15
  least_below s gap =
      let high : 1 ≤ w.rpm_high = omega (arith, wheel.rpm.0, wheel.rpm.1) in
      let rate : 0 < w.rpm_high * 6 * slot_count w = mul-pos (mul-pos high (omega arith)) slots in
      let way = way_below s w.degrees w.rpm_high (slot_count w) high (size s gap) in
      from_least (s * w.degrees * 10 ^ 15) (w.rpm_high * 6 * slot_count w) (w.degrees * 10 ^ 15) rate way

  greatest_below : (s : ℕ) → IsGap w s → greatest_of w s ≤ w.degrees * 10 ^ 15
  greatest_below s gap =
      let rate : 0 < w.rpm_low * 6 * slot_count w = mul-pos (mul-pos wheel.rpm.0 (omega arith)) slots in
      time_below s w.degrees w.rpm_low (slot_count w) (greatest_of w s) wheel.rpm.0 slots (size s gap)
      (to_greatest (s * w.degrees * 10 ^ 15) (w.rpm_low * 6 * slot_count w) (greatest_of w s) rate (omega arith))

  pub cut_below : (c : Cut) → IsTimeCut w c → (c.bottom ≡ 1) × (c.top ≤ longest_gap)
  cut_below c (s, (gap, (one, which))) = (one, by which)
    where
      by : (c.top ≡ least_of w s) ⊎ (c.top ≡ greatest_of w s + 1) → c.top ≤ longest_gap
      by (inl e) = let le = least_below s gap in omega (arith, le, e, cycle)
      by (inr e) = let le = greatest_below s gap in omega (arith, le, e, cycle)
