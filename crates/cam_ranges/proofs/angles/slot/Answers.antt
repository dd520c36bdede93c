use Rattle.std.proofs.Common.{◌≡◌, ℕ, ℤ, pos, ◌+ℤ◌, ◌*ℤ◌, w32, w64, to_z, of_z, ◌∙◌, ap, arith}
use Rattle.std.proofs.lemmas.Int.{ints}
use Rattle.std.specs.Prelude.{slice_index, unsigned_abs}
use Rattle.std.specs.Int.{int_div_euclid, int_rem_euclid}
use Rattle.wheel_types.specs.declared.channel.Channel.{Channel}
use Rattle.wheel_types.specs.declared.parts.WheelParts.{WheelParts}
use Rattle.wheel_types.specs.Edges.{edge_count, edge_slots, slot_count, slot_of}
use Rattle.cam_ranges.proofs.angles.slot.Goals as goal

-- the slot by the cycle and the number in it, as the code has them
slot_by : (w : WheelParts) (c : Channel) (m i k cycle turns number part u : ℤ) (slots slot : ℕ) → i ≡ m → k ≡ pos (edge_count w c) → cycle ≡ int_div_euclid i k → turns ≡ cycle → number ≡ int_rem_euclid i k → part ≡ number → slots ≡ slot_count w → slot ≡ slice_index (edge_slots w c) (unsigned_abs part) → u ≡ turns *ℤ pos slots +ℤ pos slot → u ≡ slot_of w c m
slot_by w c m i k cycle turns number part u slots slot e f g h a b d n s = rw (s, d, h, g, e, f, n, b, a, e, f)

pub returns-clause-value : goal.returns-clause-value
returns-clause-value c =
    let w = c.args.wheel.now.parts in
    let back : to_z w64 (of_z w64 c.unrolled.result) ≡ c.unrolled.result = omega (arith, ints) in
    let count : c.cam_count-count.result ≡ edge_count w c.args.channel = c.cam_count-count.ensures.of_wheel w c.requires.table in
    let here : to_z w32 (of_z w32 c.args.index) ≡ c.args.index = omega (arith, ints) in
    let many : to_z w32 c.cam_count-count.result ≡ pos c.cam_count-count.result = omega (arith, ints) in
    let turns : to_z w32 (of_z w32 c.div_euclid-cycle.result) ≡ c.div_euclid-cycle.result = omega (arith, ints) in
    let part : to_z w32 (of_z w32 c.rem_euclid-number.result) ≡ c.rem_euclid-number.result = omega (arith, ints) in
    back ∙ slot_by w c.args.channel c.args.index _ _ _ _ _ _ _ _ _ here (many ∙ ap pos count) c.div_euclid-cycle.ensures turns c.rem_euclid-number.ensures.value part c.slots.ensures.value (c.cam_slot.ensures.of_wheel w c.requires.table) c.unrolled.ensures.value
