-- No limit on the time of a gap is as much as 2^64 - 1.
use Rattle.std.proofs.Common.{rules, arith, ◌↔◌, ℕ, ◌+◌, ◌-◌, ◌*◌, ◌^◌, ◌<◌, ◌≤◌, ◌≡◌, ◌⊎◌, inl, inr, sym, subst}
use Rattle.std.specs.Prelude.{min}
use Rattle.std.proofs.Math.Nat.{div-lt_iff_lt-mul, mul-le-mul_left, mul-le-mul_right, mul-pos}
use Rattle.wheel_types.specs.declared.parts.WheelParts.{WheelParts}
use Rattle.wheel_types.specs.Edges.{slot_count}
use Rattle.wheel_types.specs.Speeds.{KeepsSpeed}
use Rattle.wheel_types.specs.Wheels.{HasDegrees}
use Rattle.motion_bounds.specs.Times.{greatest_of, CutTimesServe, LimitsFit}
use Rattle.motion_bounds.proofs.Between.{times_are_between}

most_degrees : (w : WheelParts) → HasDegrees w → w.degrees ≤ 720
most_degrees w h = search rules

pub limits_fit : LimitsFit
limits_fit w s wheel few =
    let some : 0 < slot_count w = omega (arith, wheel.slots.0) in
    let low : 0 < w.rpm_low * 6 * slot_count w = mul-pos (mul-pos (omega (arith, wheel.rpm.0)) (omega arith)) some in
    let slots : s * w.degrees ≤ slot_count w * w.degrees = mul-le-mul_right w.degrees few in
    let turn : slot_count w * w.degrees ≤ slot_count w * 720 = mul-le-mul_left (slot_count w) (most_degrees w wheel.degrees) in
    let rate : 1 * slot_count w ≤ w.rpm_low * slot_count w = mul-le-mul_right (slot_count w) wheel.rpm.0 in
    (div-lt_iff_lt-mul low).1 (omega (arith, some, slots, turn, rate))

-- a time is the least of itself and a bound, or is above it
cut : (t bound : ℕ) → (min t bound ≡ t) ⊎ ((min t bound ≡ bound) × (bound < t))
cut t bound = grind arith

pub cut_times_serve : CutTimesServe
cut_times_serve w s t wheel some few =
    elim (cut t (2 ^ 64 - 1)) [
      | inl same ↦ subst (λ u. KeepsSpeed w s u ↔ KeepsSpeed w s t) (sym same) (λ k. k, λ k. k)
      | inr past ↦
          let fits : greatest_of w s < 2 ^ 64 - 1 = limits_fit w s wheel few in (
            λ k. absurd (omega (arith, fits, past.0, ((times_are_between w s (min t (2 ^ 64 - 1)) wheel some).0 k).1)),
            λ k. absurd (omega (arith, fits, past.1, ((times_are_between w s t wheel some).0 k).1)),
          )
    ]
