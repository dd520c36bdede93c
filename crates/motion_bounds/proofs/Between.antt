-- Quotients, rounded up and down, as bounds on times.
use Rattle.std.proofs.Common.{rules, arith, ℕ, zero, suc, ◌+◌, ◌*◌, ◌/◌, ◌^◌, ◌<◌, ◌≤◌}
use Rattle.wheel_types.specs.declared.parts.WheelParts.{WheelParts}
use Rattle.wheel_types.specs.Edges.{slot_count}
use Rattle.wheel_types.specs.Wheels.{HasDegrees}
use Rattle.motion_bounds.specs.Times.{TimesAreBetween}
use Rattle.std.specs.Int.{div_ceil}
use Rattle.std.proofs.Math.Nat.{le-div_iff_mul-le, lt_of_mul-lt-mul_right, mul-le-mul_right, mul-pos}
use Rattle.std.proofs.lemmas.Grind.{div_ceil_times}

-- times that make up the way at this rate are those from the quotient on
pub from_least : (way rate t : ℕ) → 0 < rate → way ≤ rate * t → div_ceil way rate ≤ t
from_least way rate t p h =
    let q : ℕ = div_ceil way rate in let b : q * rate < way + rate = (div_ceil_times way rate p).1 in
    let c : q * rate < (t + 1) * rate = omega (arith, b, h) in
    omega (arith, lt_of_mul-lt-mul_right rate c)

pub to_least : (way rate t : ℕ) → 0 < rate → div_ceil way rate ≤ t → way ≤ rate * t
to_least way rate t p h =
    let a : way ≤ div_ceil way rate * rate = (div_ceil_times way rate p).0 in let m : div_ceil way rate * rate ≤ t * rate = mul-le-mul_right rate h in
    omega (arith, a, m)

pub to_greatest : (way rate t : ℕ) → 0 < rate → t ≤ way / rate → rate * t ≤ way
to_greatest way rate t p h = let m : t * rate ≤ way = (le-div_iff_mul-le p).0 h in omega (arith, m)

pub from_greatest : (way rate t : ℕ) → 0 < rate → rate * t ≤ way → t ≤ way / rate
from_greatest way rate t p h = let m : t * rate ≤ way = omega (arith, h) in (le-div_iff_mul-le p).1 m

-- a rate that goes some way takes some time
pub some_time : (rate t : ℕ) → 0 < rate * t → 1 ≤ t
some_time rate zero p = omega (arith, p)
some_time rate (suc t) p = omega arith

pub some_degrees : (w : WheelParts) → HasDegrees w → 0 < w.degrees
some_degrees w h = search rules

-- the limits on speed allow exactly the times from the least to the greatest
pub times_are_between : TimesAreBetween
times_are_between w s t wheel some =
    let way : ℕ = s * w.degrees * 10 ^ 15 in let high : ℕ = w.rpm_high * 6 * slot_count w in let low : ℕ = w.rpm_low * 6 * slot_count w in
    let slots : 0 < slot_count w = omega (arith, wheel.slots.0) in
    let h : 0 < high = mul-pos (mul-pos (omega (arith, wheel.rpm.0, wheel.rpm.1)) (omega arith)) slots in
    let l : 0 < low = mul-pos (mul-pos (omega (arith, wheel.rpm.0)) (omega arith)) slots in
    let d : 0 < w.degrees = some_degrees w wheel.degrees in
    let turns : 0 < way = mul-pos (mul-pos some d) (omega arith) in (
      λ k. (from_least way high t h k.not_faster, from_greatest way low t l k.not_slower),
      λ b.
          let fast : way ≤ high * t = to_least way high t h b.0 in
          record { later = some_time high t (omega (arith, turns, fast)); not_slower = to_greatest way low t l b.1; not_faster = fast },
    )
