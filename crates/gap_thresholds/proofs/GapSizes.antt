-- How many slots a gap may have.
use Rattle.std.proofs.Common.{◌≡◌, ℕ, ◌<◌, ◌≤◌, ℤ, pos, ◌+ℤ◌, ◌∙◌, ap, arith}
use Rattle.std.proofs.lemmas.Int.{ints}
use Rattle.wheel_types.specs.declared.channel.Channel.TheVariants.{Crank}
use Rattle.wheel_types.specs.declared.parts.WheelParts.{WheelParts}
use Rattle.wheel_types.specs.Edges.{edge_count, slot_count}
use Rattle.wheel_types.specs.Speeds.{slots_between}
use Rattle.edge_angles.proofs.Tables.{gap_some, gap_most}
use Rattle.gap_thresholds.specs.Gaps.{IsGap, AreGaps}
use Rattle.gap_thresholds.proofs.EdgeGaps.{gap, gap_of}

sizes : (w : WheelParts) (s : ℕ) → 1 ≤ edge_count w Crank → (j : ℕ) × (j < edge_count w Crank) × (s ≡ gap w j) → (1 ≤ s) × (s ≤ slot_count w)
sizes w s some (j, below, e) =
    let one : 1 ≤ gap w j = gap_some w j some in
    let most : gap w j ≤ slot_count w = gap_most w j below in
    (omega (arith, e, one), omega (arith, e, most))

-- a gap has some slot, and at most all of the wheel
pub gap_sizes : (w : WheelParts) (s : ℕ) → 1 ≤ edge_count w Crank → IsGap w s → (1 ≤ s) × (s ≤ slot_count w)
gap_sizes w s some h = sizes w s some (gap_of w s some h)

-- so has the first of two that follow each other
pub first_sizes : (w : WheelParts) (s0 s1 : ℕ) → 1 ≤ edge_count w Crank → AreGaps w s0 s1 → (1 ≤ s0) × (s0 ≤ slot_count w)
first_sizes w s0 s1 some (m, (e, f)) = gap_sizes w s0 some (m, e)

-- and so has the second
pub second_sizes : (w : WheelParts) (s0 s1 : ℕ) → 1 ≤ edge_count w Crank → AreGaps w s0 s1 → (1 ≤ s1) × (s1 ≤ slot_count w)
second_sizes w s0 s1 some (m, (e, f)) = gap_sizes w s1 some (m +ℤ pos 1, f ∙ ap (slots_between w (m +ℤ pos 1)) (two_on m))
  where
    two_on : (n : ℤ) → n +ℤ pos 2 ≡ (n +ℤ pos 1) +ℤ pos 1
    two_on n = omega (arith, ints)
