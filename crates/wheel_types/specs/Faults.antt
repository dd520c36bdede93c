-- Which rule of a wheel its parts break first.
use Rattle.std.specs.Prelude.{ℕ, ◌<◌, ◌≤◌, ⊤, slice_index}
use Rattle.wheel_types.specs.declared.channel.Channel.TheVariants.{Crank, Cam1, Cam2}
use Rattle.wheel_types.specs.declared.fault.WheelFault.{WheelFault}
use Rattle.wheel_types.specs.declared.fault.WheelFault.TheVariants.{Degrees, SlotCount, SlotValue, Phasing, Rpm, Ratio, NoCrankEdge}
use Rattle.wheel_types.specs.declared.parts.WheelParts.{WheelParts}
use Rattle.wheel_types.specs.Edges.{slot_count, edge_count}
use Rattle.wheel_types.specs.Wheels.{HasDegrees, HasSlotCount, HasSlotValues, HasPhasing, HasRpm, HasRatio}

-- every rule that is tested before that of the fault holds
abbrev pub HoldsBefore : WheelParts → WheelFault → Type 0
HoldsBefore w Degrees = ⊤
HoldsBefore w SlotCount = HasDegrees w
HoldsBefore w (SlotValue at) = HasDegrees w × HasSlotCount w
HoldsBefore w (Phasing Crank) = ⊤
HoldsBefore w (Phasing Cam1) = HasDegrees w × HasSlotCount w × HasSlotValues w
HoldsBefore w (Phasing Cam2) = HasDegrees w × HasSlotCount w × HasSlotValues w × HasPhasing w Cam1
HoldsBefore w Rpm = HasDegrees w × HasSlotCount w × HasSlotValues w × HasPhasing w Cam1 × HasPhasing w Cam2
HoldsBefore w Ratio = HasDegrees w × HasSlotCount w × HasSlotValues w × HasPhasing w Cam1 × HasPhasing w Cam2 × HasRpm w
HoldsBefore w NoCrankEdge = HasDegrees w × HasSlotCount w × HasSlotValues w × HasPhasing w Cam1 × HasPhasing w Cam2 × HasRpm w × HasRatio w

-- slot k is the first with a value past three bits
pub record IsFirstPast (w : WheelParts) (k : ℕ) : Type 0 where
  pub there : k < slot_count w
  pub past : 8 ≤ slice_index w.slots k
  pub first : (n : ℕ) → n < k → slice_index w.slots n < 8

-- the rule of the fault is broken. The crank has no phasing
abbrev pub Breaks : WheelParts → WheelFault → Type 0
Breaks w Degrees = ¬ HasDegrees w
Breaks w SlotCount = ¬ HasSlotCount w
Breaks w (SlotValue at) = IsFirstPast w at
Breaks w (Phasing Crank) = ⊥
Breaks w (Phasing Cam1) = ¬ HasPhasing w Cam1
Breaks w (Phasing Cam2) = ¬ HasPhasing w Cam2
Breaks w Rpm = ¬ HasRpm w
Breaks w Ratio = ¬ HasRatio w
Breaks w NoCrankEdge = ¬ (1 ≤ edge_count w Crank)

-- the rule of the fault is the first that the parts break
abbrev pub BreaksFirst : WheelParts → WheelFault → Type 0
BreaksFirst w f = HoldsBefore w f × Breaks w f
