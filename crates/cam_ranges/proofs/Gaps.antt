-- The angles of a gap between crank edges.
use Rattle.std.proofs.Common.{◌≡◌, ℕ, ◌+◌, ◌*◌, ◌<◌, ◌≤◌, ◌==◌, ◌||◌, IsTrue, ℤ, pos, ◌+ℤ◌, ◌*ℤ◌, ◌≤ℤ◌, refl, subst, arith, mul-le-mul}
use Rattle.std.proofs.lemmas.Int.{ints}
use Rattle.std.proofs.lemmas.Bool.Decides.{nat_tests}
use Rattle.std.specs.Prelude.{slice_index}
use Rattle.wheel_types.specs.declared.channel.Channel.TheVariants.{Crank}
use Rattle.wheel_types.specs.declared.parts.WheelParts.{WheelParts}
use Rattle.wheel_types.specs.Wheels.{IsWheel}
use Rattle.wheel_types.specs.Edges.{edge_count, edge_slots, slot_count, slot_of, angle_of}
use Rattle.wheel_types.proofs.Rising.{angle_of-rises}
use Rattle.edge_angles.proofs.Tables.{slot_in, slot_after, slot_within}
use Rattle.cam_ranges.proofs.FirstEdges.{slots_rise}
use Rattle.cam_ranges.proofs.Ceilings.{times_rise}

-- a slot has not too many units
few_degrees : (d : ℕ) → IsTrue ((d == 360) || (d == 720)) → 1000 * d ≤ 720000
few_degrees d h = grind (arith, nat_tests)

-- units of a slot are few
pub few_units : (w : WheelParts) → IsWheel w → 1000 * w.degrees ≤ 720000
few_units w h = few_degrees w.degrees h.degrees

-- the next edge has the next number
next : (j : ℕ) → pos j +ℤ pos 1 ≡ pos (j + 1)
next j = omega (arith, ints)

-- a gap does not end before it begins
pub gap_rises : (w : WheelParts) (j : ℕ) → 0 < edge_count w Crank → angle_of w Crank (pos j) ≤ℤ angle_of w Crank (pos (j + 1))
gap_rises w j h = subst (λ m. angle_of w Crank (pos j) ≤ℤ angle_of w Crank m) (next j) (angle_of-rises w Crank (pos j) h)

-- a multiple of a natural number is none below 0
natural : (u a : ℕ) (z : ℤ) → z ≡ pos a → pos 0 ≤ℤ (pos u *ℤ z)
natural u a z e = rw e (omega (arith, ints))

-- it begins in the first cycle
pub gap_begins : (w : WheelParts) (j : ℕ) → j < edge_count w Crank → pos 0 ≤ℤ angle_of w Crank (pos j)
gap_begins w j h = natural (1000 * w.degrees) (slice_index (edge_slots w Crank) j) (slot_of w Crank (pos j)) (slot_in w Crank j h)

-- two cycles have not too many units
within_two : (u n a : ℕ) (z : ℤ) → z ≤ℤ (pos u *ℤ pos (n + a)) → a < n → n ≤ 4096 → u ≤ 720000 → z ≤ℤ pos 8589934592
within_two u n a z h below few units =
    let most : u * (n + a) ≤ 720000 * 8192 = mul-le-mul units (let sum : n + a ≤ 8192 = omega arith in sum) in
    omega (arith, ints, h, most)

-- the edge after one of the first cycle is at most the first of the second
up_to_count : (j n : ℕ) → j < n → pos (j + 1) ≤ℤ pos n
up_to_count j n h = omega (arith, ints)

-- and ends by the end of the second
pub gap_ends : (w : WheelParts) (j : ℕ) → IsWheel w → j < edge_count w Crank → angle_of w Crank (pos (j + 1)) ≤ℤ pos 8589934592
gap_ends w j wheel h =
    let count = edge_count w Crank in
    let some : 0 < count = omega (arith, h) in
    let first = slice_index (edge_slots w Crank) 0 in
    let last : slot_of w Crank (pos count) ≡ pos (slot_count w + first) = slot_after w Crank count some refl in
    let before : slot_of w Crank (pos (j + 1)) ≤ℤ pos (slot_count w + first) = subst (λ z. slot_of w Crank (pos (j + 1)) ≤ℤ z) last (slots_rise w Crank (pos (j + 1)) (pos count) some (up_to_count j count h)) in
    within_two (1000 * w.degrees) (slot_count w) first (angle_of w Crank (pos (j + 1))) (times_rise (slot_of w Crank (pos (j + 1))) (pos (slot_count w + first)) (1000 * w.degrees) before) (slot_within w Crank 0 some) wheel.slots.1 (few_units w wheel)
