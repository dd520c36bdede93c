-- Times of gaps are short.
use Rattle.std.proofs.Common.{◌≡◌, ℕ, ◌*◌, ◌<◌, ◌≤◌, ◌==◌, ◌||◌, ◌^◌, sym, subst, arith}
use Rattle.std.proofs.lemmas.Bool.Decides.{nat_tests}
use Rattle.std.proofs.Math.Nat.{mul-le-mul, mul-le-mul_right, div-le_of_le-mul}
use Rattle.std.specs.Prelude.{IsTrue, Option, Some, None}
use Rattle.wheel_types.specs.declared.channel.Channel.TheVariants.{Crank}
use Rattle.wheel_types.specs.declared.parts.WheelParts.{WheelParts}
use Rattle.wheel_types.specs.Wheels.{IsWheel}
use Rattle.wheel_types.specs.Edges.{edge_count, number_of, slot_count}
use Rattle.wheel_types.specs.Speeds.{slots_between}
use Rattle.wheel_types.proofs.Gaps.{gap_by_number}
use Rattle.wheel_types.proofs.Unrolled.{number_below}
use Rattle.edge_angles.proofs.Tables.{gap_most}
use Rattle.motion_bounds.specs.Times.{greatest_of}
use Rattle.stimulus.specs.Gaps.{Gap, greatest_after, crank_edge, gap_slots, gap_time, gap_least, gap_greatest, gap_before}
use Rattle.stimulus.proofs.KeptLimits.{between}
use Rattle.stimulus.proofs.Times.{next_edge}

slow : (low n s d : ℕ) → 1 ≤ low → s ≤ n → d ≤ 720 → s * d * 10 ^ 15 ≤ low * 6 * n * 2 ^ 57
slow low n s d some few degrees =
    let a : s * d ≤ n * 720 = mul-le-mul few degrees in
    let b : 1 * (6 * n) ≤ low * (6 * n) = mul-le-mul_right (6 * n) some in
    let e : low * 6 * n ≡ low * (6 * n) = grind arith in
    omega (arith, a, b, e)

few_degrees : (d : ℕ) → IsTrue ((d == 360) || (d == 720)) → d ≤ 720
few_degrees d h = grind (arith, nat_tests)

greatest_small : (w : WheelParts) (s : ℕ) → IsWheel w → s ≤ slot_count w → greatest_of w s ≤ 2 ^ 57
greatest_small w s wheel few =
    div-le_of_le-mul (w.rpm_low * 6 * slot_count w) (slow w.rpm_low (slot_count w) s w.degrees wheel.rpm.0 few (few_degrees w.degrees wheel.degrees))

-- every limit is below 2^57
pub small : (w : WheelParts) (g : Option Gap) (s : ℕ) → IsWheel w → s ≤ slot_count w → greatest_after w g s ≤ 2 ^ 57
small w None s wheel few = greatest_small w s wheel few
small w (Some g) s wheel few = let h = greatest_small w s wheel few in omega (arith, h)

-- a gap has at most the wheel's slots
pub few_slots : (w : WheelParts) (seed i : ℕ) → IsWheel w → gap_slots w seed i ≤ slot_count w
few_slots w seed i wheel =
    let m = crank_edge w seed i in
    let some : 0 < edge_count w Crank = omega (arith, wheel.crank_edge) in
    subst (λ n. slots_between w m n ≤ slot_count w) (next_edge w seed i)
    (subst (λ s. s ≤ slot_count w) (sym (gap_by_number w m some)) (gap_most w (number_of (edge_count w Crank) m) (number_below (edge_count w Crank) m some)))

-- and lasts less than 2^57 femtoseconds
pub short : (w : WheelParts) (seed i : ℕ) → IsWheel w → gap_least w seed i ≤ gap_greatest w seed i → gap_time w seed i ≤ 2 ^ 57
short w seed i wheel h =
    let b = (between w seed i h).1 in
    let s = small w (gap_before w seed i) (gap_slots w seed i) wheel (few_slots w seed i wheel) in
    omega (arith, b, s)
