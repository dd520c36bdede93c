-- The places of a wheel are small: their cam edges are near the first cycle.
use Rattle.std.proofs.Common.{◌≡◌, ℕ, ◌+◌, ◌*◌, ◌^◌, ◌<◌, ◌≤◌, ◌⊎◌, inl, inr, ◌↔◌, ◌==◌, ◌||◌, IsTrue, ℤ, pos, negsuc, ◌+ℤ◌, ◌-ℤ◌, ◌*ℤ◌, ◌≤ℤ◌, ◌<ℤ◌, subst, arith, mul-le-mul}
use Rattle.std.proofs.lemmas.Int.{ints, by_lt_z}
use Rattle.std.proofs.lemmas.Bool.Decides.{nat_tests}
use Rattle.std.specs.Prelude.{unsigned_abs}
use Rattle.wheel_types.specs.declared.channel.Channel.{Channel}
use Rattle.wheel_types.specs.declared.channel.Channel.TheVariants.{Crank, Cam1, Cam2}
use Rattle.wheel_types.specs.declared.parts.WheelParts.{WheelParts}
use Rattle.wheel_types.specs.declared.place.Place.{Place}
use Rattle.wheel_types.specs.Wheels.{IsWheel, HasPhasing}
use Rattle.wheel_types.specs.Edges.{edge_count, slot_count, slot_of, angle_of, early_of, late_of}
use Rattle.wheel_types.specs.Motions.{CamStands}
use Rattle.wheel_types.proofs.Standing.{PlaceStands}
use Rattle.cam_ranges.specs.Places.{IsPlace}
use Rattle.cam_ranges.proofs.FirstEdges.{slots_on, slots_rise, zero_slot}
use Rattle.cam_ranges.proofs.Ceilings.{times_rise}
use Rattle.cam_ranges.proofs.Gaps.{gap_begins, gap_ends}

-- a slot has many units
some_degrees : (d : ℕ) → IsTrue ((d == 360) || (d == 720)) → 360000 ≤ 1000 * d
some_degrees d h = grind (arith, nat_tests)

-- ---- edges that stand are near the first cycle

-- an edge that need not have fallen before the first cycle is at no slot far before it
slot_from_low : (u l n : ℕ) (z low : ℤ) → 1 ≤ u → l ≤ u → n ≤ 4096 → pos 0 ≤ℤ low → low ≤ℤ ((pos u *ℤ z) +ℤ pos (l * n)) → negsuc 4096 ≤ℤ z
slot_from_low u l n z low some h few least k = by_lt_z z (negsuc 4096) (λ less. absurd (never less)) (λ more. more)
  where
    never : z <ℤ negsuc 4096 → ⊥
    never less =
        let far : z ≤ℤ negsuc 4097 = omega (arith, ints, less) in
        let product : (pos u *ℤ z) ≤ℤ (pos u *ℤ negsuc 4097) = times_rise z (negsuc 4097) u far in
        let phasing : l * n ≤ u * 4096 = mul-le-mul h few in
        absurd (omega (arith, ints, product, phasing, k, least))

-- an edge that can have fallen by the end of the second cycle is at no slot far after it
slot_to_high : (u e n : ℕ) (z high : ℤ) → 360000 ≤ u → e ≤ u → n ≤ 4096 → high ≤ℤ pos 8589934592 → ((pos u *ℤ z) -ℤ pos (e * n)) ≤ℤ high → z ≤ℤ pos 32768
slot_to_high u e n z high many h few most k = by_lt_z (pos 32768) z (λ more. absurd (never more)) (λ less. less)
  where
    never : pos 32768 <ℤ z → ⊥
    never more =
        let far : pos 32769 ≤ℤ z = omega (arith, ints, more) in
        let product : (pos u *ℤ pos 32769) ≤ℤ (pos u *ℤ z) = times_rise (pos 32769) z u far in
        let phasing : e * n ≤ u * 4096 = mul-le-mul h few in
        absurd (omega (arith, ints, product, phasing, k, most))

-- so its number is not far below 0
edge_from_low : (w : WheelParts) (c : Channel) (n : ℤ) → 0 < edge_count w c → slot_count w ≤ 4096 → negsuc 4096 ≤ℤ slot_of w c n → negsuc 65536 ≤ℤ n
edge_from_low w c n h few low = by_lt_z n (negsuc 65536) (λ less. absurd (never less)) (λ more. more)
  where
    clash : (a b z : ℤ) (k : ℕ) → negsuc 4096 ≤ℤ a → a ≤ℤ b → (b +ℤ pos 65537) ≤ℤ z → z <ℤ pos k → k ≤ 4096 → ⊥
    clash a b z k p q r s t = absurd (omega (arith, ints))

    lower : n <ℤ negsuc 65536 → n ≤ℤ negsuc 65536
    lower less = omega (arith, ints, less)

    never : n <ℤ negsuc 65536 → ⊥
    never less = clash (slot_of w c n) (slot_of w c (negsuc 65536)) (slot_of w c (pos 0)) (slot_count w) low (slots_rise w c n (negsuc 65536) h (lower less)) (slots_on w c (negsuc 65536) 65537 h) (zero_slot w c h).1 few

-- or not far above
edge_to_high : (w : WheelParts) (c : Channel) (n : ℤ) → 0 < edge_count w c → slot_of w c n ≤ℤ pos 32768 → n ≤ℤ pos 65536
edge_to_high w c n h high = by_lt_z (pos 65536) n (λ more. absurd (never more)) (λ less. less)
  where
    clash : (a b z : ℤ) → a ≤ℤ pos 32768 → b ≤ℤ a → (z +ℤ pos 65536) ≤ℤ b → pos 0 ≤ℤ z → ⊥
    clash a b z p q r s = absurd (omega (arith, ints))

    higher : pos 65536 <ℤ n → pos 65536 ≤ℤ n
    higher more = omega (arith, ints, more)

    never : pos 65536 <ℤ n → ⊥
    never more = clash (slot_of w c n) (slot_of w c (pos 65536)) (slot_of w c (pos 0)) high (slots_rise w c (pos 65536) n h (higher more)) (slots_on w c (pos 0) 65536 h) (zero_slot w c h).0

-- a number between these ends is small
small_between : (n : ℤ) → negsuc 65536 ≤ℤ n → (n -ℤ pos 1) ≤ℤ pos 65536 → unsigned_abs n < 2 ^ 17
small_between n h k = omega (arith, ints)

-- the parts of a phasing are below a cycle each
part_of_sum : (a b u : ℕ) → a + b < u → (a ≤ u) × (b ≤ u)
part_of_sum a b u h = (omega arith, omega arith)

-- 0 is small
zero_small : (n : ℤ) → n ≡ pos 0 → unsigned_abs n < 2 ^ 17
zero_small n e = rw e (omega arith)

-- at most, by way of another
through : {a b c : ℤ} → a ≤ℤ b → b ≤ℤ c → a ≤ℤ c
through {a} {b} {c} h k = omega (arith, ints)

-- a channel has edges or none
none_or_some : (k : ℕ) → (k ≡ 0) ⊎ (0 < k)
none_or_some k = grind arith

-- a cam that stands at an angle of the first two cycles has a next edge near the first
pub cam_near : (w : WheelParts) (c : Channel) (n x : ℤ) → IsWheel w → HasPhasing w c → pos 0 ≤ℤ x → x ≤ℤ pos 8589934592 → CamStands w c n x → unsigned_abs n < 2 ^ 17
cam_near w c n x wheel phasing least most s = by_edges (none_or_some (edge_count w c))
  where
    by_edges : (edge_count w c ≡ 0) ⊎ (0 < edge_count w c) → unsigned_abs n < 2 ^ 17
    by_edges (inl none) = zero_small n (s.absent none)
    by_edges (inr some) =
        let units : 360000 ≤ 1000 * w.degrees = some_degrees w.degrees wheel.degrees in
        let parts = part_of_sum (early_of w c) (late_of w c) (1000 * w.degrees) phasing in
        let low = slot_from_low (1000 * w.degrees) (late_of w c) (slot_count w) (slot_of w c n) x (omega (arith, units)) parts.1 wheel.slots.1 least (s.ahead some) in
        let high = slot_to_high (1000 * w.degrees) (early_of w c) (slot_count w) (slot_of w c (n -ℤ pos 1)) x units parts.0 wheel.slots.1 most (s.behind some) in
        small_between n (edge_from_low w c n some wheel.slots.1 low) (edge_to_high w c (n -ℤ pos 1) some high)

pub cam_small : (w : WheelParts) (c : Channel) (n x : ℤ) → IsWheel w → HasPhasing w c → pos 0 ≤ℤ x → x ≤ℤ pos 8589934592 → CamStands w c n x → unsigned_abs n < 2 ^ 20
cam_small w c n x wheel phasing least most s = let near = cam_near w c n x wheel phasing least most s in omega (arith, near)

-- the cam edges of a place are below 2^20 in size
pub record IsSmallPlace (p : Place) : Type 0 where
  pub first : unsigned_abs p.n1 < 2 ^ 20
  pub second : unsigned_abs p.n2 < 2 ^ 20

-- the edge before the next one of a place is its own
back_to : (j : ℕ) → pos (j + 1) -ℤ pos 1 ≡ pos j
back_to j = omega (arith, ints)

-- and even below 2^17
pub record IsNearPlace (p : Place) : Type 0 where
  pub first : unsigned_abs p.n1 < 2 ^ 17
  pub second : unsigned_abs p.n2 < 2 ^ 17

pub place_near : (w : WheelParts) (p : Place) → IsWheel w → IsPlace w p → IsNearPlace p
place_near w p wheel is =
    let x = is.stands.0 in
    let s = is.stands.1 in
    let least : pos 0 ≤ℤ x = through (gap_begins w p.j is.edge) (subst (λ m. angle_of w Crank m ≤ℤ x) (back_to p.j) s.behind) in
    let most : x ≤ℤ pos 8589934592 = through s.ahead (gap_ends w p.j wheel is.edge) in
    record { first = cam_near w Cam1 p.n1 x wheel wheel.cam1 least most s.cam1; second = cam_near w Cam2 p.n2 x wheel wheel.cam2 least most s.cam2 }

pub place_small : (w : WheelParts) (p : Place) → IsWheel w → IsPlace w p → IsSmallPlace p
place_small w p wheel is =
    let near = place_near w p wheel is in
    let first : unsigned_abs p.n1 < 2 ^ 17 = near.first in
    let second : unsigned_abs p.n2 < 2 ^ 17 = near.second in
    record { first = omega (arith, first); second = omega (arith, second) }

-- the index of an absent cam is 0
pub absent_first : (w : WheelParts) (p : Place) → IsPlace w p → edge_count w Cam1 ≡ 0 → p.n1 ≡ pos 0
absent_first w p is none = is.stands.1.cam1.absent none

-- and so for the second cam
pub absent_second : (w : WheelParts) (p : Place) → IsPlace w p → edge_count w Cam2 ≡ 0 → p.n2 ≡ pos 0
absent_second w p is none = is.stands.1.cam2.absent none

-- places that stand, in the words of motions
pub place_stands : (w : WheelParts) (p : Place) → PlaceStands w p ↔ IsPlace w p
place_stands w p = (λ h. record { edge = h.edge; stands = h.standing }, λ h. record { edge = h.edge; standing = h.stands })
