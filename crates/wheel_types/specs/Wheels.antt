-- What a wheel is.
use Rattle.std.specs.Prelude.{◌+◌, ◌*◌, ◌<◌, ◌≤◌, All, IsTrue, ◌==◌, ◌||◌}
use Rattle.wheel_types.specs.declared.channel.Channel.{Channel}
use Rattle.wheel_types.specs.declared.channel.Channel.TheVariants.{Crank, Cam1, Cam2}
use Rattle.wheel_types.specs.declared.parts.WheelParts.{WheelParts}
use Rattle.wheel_types.specs.Edges.{slot_count, edge_count, early_of, late_of}

-- the cycle is one turn of the crank or two
abbrev pub HasDegrees : WheelParts → Type 0
HasDegrees w = IsTrue ((w.degrees == 360) || (w.degrees == 720))

-- the number of slots is within its limits
abbrev pub HasSlotCount : WheelParts → Type 0
HasSlotCount w = (2 ≤ slot_count w) × (slot_count w ≤ 4096)

-- no slot has a value past three bits
abbrev pub HasSlotValues : WheelParts → Type 0
HasSlotValues w = All (λ v. v < 8) w.slots

-- the channel's phasing is together below one cycle
abbrev pub HasPhasing : WheelParts → Channel → Type 0
HasPhasing w c = early_of w c + late_of w c < 1000 * w.degrees

-- the limits of the crank's speed are within theirs
abbrev pub HasRpm : WheelParts → Type 0
HasRpm w = (1 ≤ w.rpm_low) × (w.rpm_low ≤ w.rpm_high) × (w.rpm_high ≤ 30000)

-- the limit of the ratio of speeds is within its own
abbrev pub HasRatio : WheelParts → Type 0
HasRatio w = (1 ≤ w.rd) × (w.rd ≤ w.rn) × (w.rn ≤ 65535)

-- the parts keep every rule, and the crank has a kept edge
pub record IsWheel (w : WheelParts) : Type 0 where
  pub degrees : HasDegrees w
  pub slots : HasSlotCount w
  pub values : HasSlotValues w
  pub cam1 : HasPhasing w Cam1
  pub cam2 : HasPhasing w Cam2
  pub rpm : HasRpm w
  pub ratio : HasRatio w
  pub crank_edge : 1 ≤ edge_count w Crank
