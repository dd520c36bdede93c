-- Phasings are small.
use Rattle.std.proofs.Common.{◌≡◌, ℕ, ◌+◌, ◌*◌, ◌<◌, ◌≤◌, ◌==◌, ◌||◌, ◌^◌, arith}
use Rattle.std.proofs.lemmas.Bool.Decides.{nat_tests}
use Rattle.std.proofs.Math.Nat.{mul-le-mul}
use Rattle.std.specs.Prelude.{IsTrue}
use Rattle.wheel_types.specs.declared.channel.Channel.{Channel}
use Rattle.wheel_types.specs.declared.channel.Channel.TheVariants.{Crank, Cam1, Cam2}
use Rattle.wheel_types.specs.declared.parts.WheelParts.{WheelParts}
use Rattle.wheel_types.specs.Wheels.{IsWheel}
use Rattle.wheel_types.specs.Edges.{slot_count, early_of, late_of}

few_degrees : (d : ℕ) → IsTrue ((d == 360) || (d == 720)) → d ≤ 720
few_degrees d h = grind (arith, nat_tests)

both : (e l d n : ℕ) → e + l < 1000 * d → d ≤ 720 → n ≤ 4096 → e * n + l * n ≤ 2 ^ 32
both e l d n h k m =
    let a : e + l ≤ 720000 = omega (arith, h, k) in
    let b : (e + l) * n ≤ 720000 * 4096 = mul-le-mul {m₂ = 4096} a m in
    let c : (e + l) * n ≡ e * n + l * n = grind arith in
    omega (arith, b, c)

-- the phasing of a channel, in units
pub few_units : (w : WheelParts) (c : Channel) → IsWheel w → early_of w c * slot_count w + late_of w c * slot_count w ≤ 2 ^ 32
few_units w Crank wheel = omega arith
few_units w Cam1 wheel = both w.cam1_early w.cam1_late w.degrees (slot_count w) wheel.cam1 (few_degrees w.degrees wheel.degrees) wheel.slots.1
few_units w Cam2 wheel = both w.cam2_early w.cam2_late w.degrees (slot_count w) wheel.cam2 (few_degrees w.degrees wheel.degrees) wheel.slots.1
