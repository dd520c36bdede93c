use Rattle.std.proofs.Common.{◌≡◌, ℕ, ◌+◌, ◌^◌, ◌<◌, ◌≤◌, ℤ, pos, ◌+ℤ◌, ◌≤ℤ◌, w32, w64, to_z, of_z, sym, ◌∙◌, ap, subst, arith}
use Rattle.std.proofs.lemmas.Int.{ints}
use Rattle.std.specs.Prelude.{unsigned_abs}
use Rattle.wheel_types.specs.declared.channel.Channel.TheVariants.{Crank}
use Rattle.wheel_types.specs.declared.parts.WheelParts.{WheelParts}
use Rattle.wheel_types.specs.Wheels.{IsWheel}
use Rattle.wheel_types.specs.Edges.{edge_count, slot_count, angle_of}
use Rattle.edge_angles.proofs.Tables.{edge_count-few}
use Rattle.cam_ranges.proofs.Gaps.{gap_rises, gap_begins, gap_ends}
use Rattle.cam_ranges.proofs.standing.gap.Goals as goal

-- a crank edge of the first cycle has a small number
few_edges : (w : WheelParts) (j : ℕ) → IsWheel w → j < edge_count w Crank → j < 4096
few_edges w j wheel h =
    let few : slot_count w ≤ 4096 = wheel.slots.1 in
    omega (arith, h, few, edge_count-few w Crank)

-- where the gap begins
low : (w : WheelParts) (j : ℕ) (z : ℤ) → j < 4096 → z ≡ angle_of w Crank (to_z w32 j) → unsigned_abs z ≤ 2 ^ 53 → to_z w64 (of_z w64 z) ≡ angle_of w Crank (pos j)
low w j z few e small =
    let back : to_z w64 (of_z w64 z) ≡ z = omega (arith, ints, small) in
    let here : to_z w32 j ≡ pos j = omega (arith, ints, few) in
    back ∙ e ∙ ap (angle_of w Crank) here

-- where it ends
high : (w : WheelParts) (j : ℕ) (z : ℤ) → j < 4096 → z ≡ angle_of w Crank (to_z w32 (of_z w32 (to_z w32 j +ℤ pos 1))) → unsigned_abs z ≤ 2 ^ 53 → to_z w64 (of_z w64 z) ≡ angle_of w Crank (pos (j + 1))
high w j z few e small =
    let back : to_z w64 (of_z w64 z) ≡ z = omega (arith, ints, small) in
    let next : to_z w32 (of_z w32 (to_z w32 j +ℤ pos 1)) ≡ pos (j + 1) = omega (arith, ints, few) in
    back ∙ e ∙ ap (angle_of w Crank) next

pub invariant_of-result : goal.invariant_of-result
invariant_of-result c =
    let w = c.args.wheel.now.parts in
    let j = c.args.j in
    let few = few_edges w j c.args.wheel.now.valid c.requires.position in
    let begins = low w j c.angle.result few c.angle.ensures.value c.angle.ensures.small in
    let ends = high w j c.angle-2.result few c.angle-2.ensures.value c.angle-2.ensures.small in
    let some : 0 < edge_count w Crank = omega (arith, c.requires.position) in
    record {
      some = subst (λ z. z ≤ℤ to_z w64 (of_z w64 c.angle-2.result)) (sym begins) (subst (λ z. angle_of w Crank (pos j) ≤ℤ z) (sym ends) (gap_rises w j some));
      least = subst (λ z. pos 0 ≤ℤ z) (sym begins) (gap_begins w j c.requires.position);
      most = subst (λ z. z ≤ℤ pos 8589934592) (sym ends) (gap_ends w j c.args.wheel.now.valid c.requires.position);
    }

pub returns : goal.returns
returns c =
    let w = c.args.wheel.now.parts in
    let j = c.args.j in
    let few = few_edges w j c.args.wheel.now.valid c.requires.position in
    record { low = low w j c.angle.result few c.angle.ensures.value c.angle.ensures.small; high = high w j c.angle-2.result few c.angle-2.ensures.value c.angle-2.ensures.small }
