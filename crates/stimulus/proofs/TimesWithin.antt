-- No time of a stimulus is past the greatest time of a capture.
use Rattle.std.proofs.Common.{◌≡◌, ℕ, zero, suc, ◌+◌, ◌*◌, ◌^◌, ◌==◌, ◌||◌, ◌<◌, ◌≤◌, ◌⊎◌, inl, inr, sym, ◌∙◌, ap, subst, arith}
use Rattle.std.specs.Prelude.{IsTrue}
use Rattle.std.proofs.lemmas.Bool.Decides.{nat_tests}
use Rattle.std.proofs.Math.Nat.{mul-le-mul, mul-le-mul_left, mul-le-mul_right}
use Rattle.wheel_types.specs.declared.channel.Channel.TheVariants.{Crank}
use Rattle.wheel_types.specs.declared.parts.WheelParts.{WheelParts}
use Rattle.wheel_types.specs.Wheels.{IsWheel}
use Rattle.wheel_types.specs.Edges.{edge_count, slot_count, number_of}
use Rattle.wheel_types.specs.Speeds.{KeepsSpeed, slots_between}
use Rattle.wheel_types.proofs.Gaps.{gap_by_number}
use Rattle.wheel_types.proofs.Unrolled.{number_below}
use Rattle.edge_angles.proofs.Tables.{gap_most}
use Rattle.stimulus.specs.Gaps.{crank_edge, crank_time, gap_slots, gap_time, HasTimes}
use Rattle.stimulus.proofs.Times.{next_edge}
use Rattle.stimulus.proofs.KeptLimits.{keeps_speed}

gap_few : (w : WheelParts) (seed i : ℕ) → IsWheel w → gap_slots w seed i ≤ slot_count w
gap_few w seed i wheel =
    let m = crank_edge w seed i in
    let some : 0 < edge_count w Crank = let h = wheel.crank_edge in omega (arith, h) in
    subst (λ n. n ≤ slot_count w) (sym (ap (slots_between w m) (sym (next_edge w seed i)) ∙ gap_by_number w m some))
    (gap_most w (number_of (edge_count w Crank) m) (number_below (edge_count w Crank) m some))

few_degrees : (d : ℕ) → IsTrue ((d == 360) || (d == 720)) → d ≤ 720
few_degrees d h = grind (arith, nat_tests)

-- a gap that keeps the limits lasts at most 2^57 femtoseconds
slow : (low n t s d : ℕ) → 1 ≤ low → 1 ≤ n → s ≤ n → d ≤ 720 → low * 6 * n * t ≤ s * d * 10 ^ 15 → t ≤ 2 ^ 57
slow low n t s d some some_n few degrees h = by (order t)
  where
    order : (t : ℕ) → (t ≤ 2 ^ 57) ⊎ (2 ^ 57 + 1 ≤ t)
    order t = grind arith

    by : (t ≤ 2 ^ 57) ⊎ (2 ^ 57 + 1 ≤ t) → t ≤ 2 ^ 57
    by (inl l) = l
    by (inr l) =
        let a : n * (2 ^ 57 + 1) ≤ n * t = mul-le-mul_left n l in
        let b : 1 * (6 * (n * t)) ≤ low * (6 * (n * t)) = mul-le-mul_right (6 * (n * t)) some in
        let e : low * 6 * n * t ≡ low * (6 * (n * t)) = grind arith in
        let f : s * d ≤ n * 720 = mul-le-mul {m₂ = 720} few degrees in
        absurd (omega (arith, a, b, e, f, h, some_n))

gap_short : (w : WheelParts) (seed i : ℕ) → IsWheel w → KeepsSpeed w (gap_slots w seed i) (gap_time w seed i) → gap_time w seed i ≤ 2 ^ 57
gap_short w seed i wheel speed =
    slow w.rpm_low (slot_count w) (gap_time w seed i) (gap_slots w seed i) w.degrees wheel.rpm.0 (let h = wheel.slots.0 in
    omega (arith, h)) (gap_few w seed i wheel) (few_degrees w.degrees wheel.degrees) speed.not_slower

times_upto : (w : WheelParts) (seed gaps i : ℕ) → IsWheel w → HasTimes w seed gaps → i ≤ gaps → crank_time w seed i ≤ 10 ^ 12 + i * 2 ^ 57
times_upto w seed gaps zero wheel times h = omega arith
times_upto w seed gaps (suc i) wheel times h =
    let before : crank_time w seed i ≤ 10 ^ 12 + i * 2 ^ 57 = times_upto w seed gaps i wheel times (omega (arith, h)) in
    let here : gap_time w seed i ≤ 2 ^ 57 = gap_short w seed i wheel (keeps_speed w seed i wheel (times i (omega (arith, h)))) in
    omega (arith, before, here)

-- each crank edge is in time
pub crank_within : (w : WheelParts) (seed gaps i : ℕ) → IsWheel w → gaps ≤ 1000000 → HasTimes w seed gaps → i ≤ gaps
    → crank_time w seed i ≤ 10 ^ 24
crank_within w seed gaps i wheel few times h =
    let t : crank_time w seed i ≤ 10 ^ 12 + i * 2 ^ 57 = times_upto w seed gaps i wheel times h in
    omega (arith, t, few, h)
