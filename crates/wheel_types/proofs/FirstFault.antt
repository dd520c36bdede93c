-- Parts that make no wheel break one rule first.
use Rattle.std.proofs.Common.{◌≡◌, ℕ, ◌<◌, ◌⊎◌, inl, inr, refl, ap, arith}
use Rattle.std.specs.Prelude.{slice_index}
use Rattle.wheel_types.specs.declared.channel.Channel.TheVariants.{Crank, Cam1, Cam2}
use Rattle.wheel_types.specs.declared.fault.WheelFault.{WheelFault}
use Rattle.wheel_types.specs.declared.fault.WheelFault.TheVariants.{Degrees, SlotCount, SlotValue, Phasing, Rpm, Ratio, NoCrankEdge}
use Rattle.wheel_types.specs.declared.parts.WheelParts.{WheelParts}
use Rattle.wheel_types.specs.Wheels.{IsWheel, HasSlotValues}
use Rattle.wheel_types.specs.Faults.{IsFirstPast, BreaksFirst}

past_breaks : (w : WheelParts) (k : ℕ) → IsFirstPast w k → HasSlotValues w → ⊥
past_breaks w k p all = let low : slice_index w.slots k < 8 = all k 0 p.there in omega (arith, p.past, low)

three_ways : (a b : ℕ) → (a < b) ⊎ ((a ≡ b) ⊎ (b < a))
three_ways a b = grind arith

first_past_by : (w : WheelParts) (a b : ℕ) → IsFirstPast w a → IsFirstPast w b → (a < b) ⊎ ((a ≡ b) ⊎ (b < a)) → a ≡ b
first_past_by w a b x y (inl h) = let low : slice_index w.slots a < 8 = y.first a h in absurd (omega (arith, x.past, low))
first_past_by w a b x y (inr (inl e)) = e
first_past_by w a b x y (inr (inr h)) = let low : slice_index w.slots b < 8 = x.first b h in absurd (omega (arith, y.past, low))

first_past_once : (w : WheelParts) (a b : ℕ) → IsFirstPast w a → IsFirstPast w b → a ≡ b
first_past_once w a b x y = first_past_by w a b x y (three_ways a b)

-- no wheel's parts break a rule
pub wheel_breaks_none : (w : WheelParts) (f : WheelFault) → BreaksFirst w f → IsWheel w → ⊥
wheel_breaks_none w Degrees x h = x.1 h.degrees
wheel_breaks_none w SlotCount x h = x.1 h.slots
wheel_breaks_none w (SlotValue a) x h = past_breaks w a x.1 h.values
wheel_breaks_none w (Phasing Crank) x h = x.1
wheel_breaks_none w (Phasing Cam1) x h = x.1 h.cam1
wheel_breaks_none w (Phasing Cam2) x h = x.1 h.cam2
wheel_breaks_none w Rpm x h = x.1 h.rpm
wheel_breaks_none w Ratio x h = x.1 h.ratio
wheel_breaks_none w NoCrankEdge x h = x.1 h.crank_edge

-- the first broken rule is one
pub first_fault_once : (w : WheelParts) (f g : WheelFault) → BreaksFirst w f → BreaksFirst w g → f ≡ g
first_fault_once w (Phasing Crank) g x y = absurd x.1
first_fault_once w f (Phasing Crank) x y = absurd y.1
first_fault_once w Degrees Degrees x y = refl
first_fault_once w Degrees SlotCount x y = absurd (x.1 y.0)
first_fault_once w Degrees (SlotValue b) x y = absurd (x.1 y.0.0)
first_fault_once w Degrees (Phasing Cam1) x y = absurd (x.1 y.0.0)
first_fault_once w Degrees (Phasing Cam2) x y = absurd (x.1 y.0.0)
first_fault_once w Degrees Rpm x y = absurd (x.1 y.0.0)
first_fault_once w Degrees Ratio x y = absurd (x.1 y.0.0)
first_fault_once w Degrees NoCrankEdge x y = absurd (x.1 y.0.0)
first_fault_once w SlotCount Degrees x y = absurd (y.1 x.0)
first_fault_once w SlotCount SlotCount x y = refl
first_fault_once w SlotCount (SlotValue b) x y = absurd (x.1 y.0.1)
first_fault_once w SlotCount (Phasing Cam1) x y = absurd (x.1 y.0.1)
first_fault_once w SlotCount (Phasing Cam2) x y = absurd (x.1 y.0.1)
first_fault_once w SlotCount Rpm x y = absurd (x.1 y.0.1)
first_fault_once w SlotCount Ratio x y = absurd (x.1 y.0.1)
first_fault_once w SlotCount NoCrankEdge x y = absurd (x.1 y.0.1)
first_fault_once w (SlotValue a) Degrees x y = absurd (y.1 x.0.0)
first_fault_once w (SlotValue a) SlotCount x y = absurd (y.1 x.0.1)
first_fault_once w (SlotValue a) (SlotValue b) x y = ap SlotValue (first_past_once w a b x.1 y.1)
first_fault_once w (SlotValue a) (Phasing Cam1) x y = absurd (past_breaks w a x.1 y.0.2)
first_fault_once w (SlotValue a) (Phasing Cam2) x y = absurd (past_breaks w a x.1 y.0.2)
first_fault_once w (SlotValue a) Rpm x y = absurd (past_breaks w a x.1 y.0.2)
first_fault_once w (SlotValue a) Ratio x y = absurd (past_breaks w a x.1 y.0.2)
first_fault_once w (SlotValue a) NoCrankEdge x y = absurd (past_breaks w a x.1 y.0.2)
first_fault_once w (Phasing Cam1) Degrees x y = absurd (y.1 x.0.0)
first_fault_once w (Phasing Cam1) SlotCount x y = absurd (y.1 x.0.1)
first_fault_once w (Phasing Cam1) (SlotValue b) x y = absurd (past_breaks w b y.1 x.0.2)
first_fault_once w (Phasing Cam1) (Phasing Cam1) x y = refl
first_fault_once w (Phasing Cam1) (Phasing Cam2) x y = absurd (x.1 y.0.3)
first_fault_once w (Phasing Cam1) Rpm x y = absurd (x.1 y.0.3)
first_fault_once w (Phasing Cam1) Ratio x y = absurd (x.1 y.0.3)
first_fault_once w (Phasing Cam1) NoCrankEdge x y = absurd (x.1 y.0.3)
first_fault_once w (Phasing Cam2) Degrees x y = absurd (y.1 x.0.0)
first_fault_once w (Phasing Cam2) SlotCount x y = absurd (y.1 x.0.1)
first_fault_once w (Phasing Cam2) (SlotValue b) x y = absurd (past_breaks w b y.1 x.0.2)
first_fault_once w (Phasing Cam2) (Phasing Cam1) x y = absurd (y.1 x.0.3)
first_fault_once w (Phasing Cam2) (Phasing Cam2) x y = refl
first_fault_once w (Phasing Cam2) Rpm x y = absurd (x.1 y.0.4)
first_fault_once w (Phasing Cam2) Ratio x y = absurd (x.1 y.0.4)
first_fault_once w (Phasing Cam2) NoCrankEdge x y = absurd (x.1 y.0.4)
first_fault_once w Rpm Degrees x y = absurd (y.1 x.0.0)
first_fault_once w Rpm SlotCount x y = absurd (y.1 x.0.1)
first_fault_once w Rpm (SlotValue b) x y = absurd (past_breaks w b y.1 x.0.2)
first_fault_once w Rpm (Phasing Cam1) x y = absurd (y.1 x.0.3)
first_fault_once w Rpm (Phasing Cam2) x y = absurd (y.1 x.0.4)
first_fault_once w Rpm Rpm x y = refl
first_fault_once w Rpm Ratio x y = absurd (x.1 y.0.5)
first_fault_once w Rpm NoCrankEdge x y = absurd (x.1 y.0.5)
first_fault_once w Ratio Degrees x y = absurd (y.1 x.0.0)
first_fault_once w Ratio SlotCount x y = absurd (y.1 x.0.1)
first_fault_once w Ratio (SlotValue b) x y = absurd (past_breaks w b y.1 x.0.2)
first_fault_once w Ratio (Phasing Cam1) x y = absurd (y.1 x.0.3)
first_fault_once w Ratio (Phasing Cam2) x y = absurd (y.1 x.0.4)
first_fault_once w Ratio Rpm x y = absurd (y.1 x.0.5)
first_fault_once w Ratio Ratio x y = refl
first_fault_once w Ratio NoCrankEdge x y = absurd (x.1 y.0.6)
first_fault_once w NoCrankEdge Degrees x y = absurd (y.1 x.0.0)
first_fault_once w NoCrankEdge SlotCount x y = absurd (y.1 x.0.1)
first_fault_once w NoCrankEdge (SlotValue b) x y = absurd (past_breaks w b y.1 x.0.2)
first_fault_once w NoCrankEdge (Phasing Cam1) x y = absurd (y.1 x.0.3)
first_fault_once w NoCrankEdge (Phasing Cam2) x y = absurd (y.1 x.0.4)
first_fault_once w NoCrankEdge Rpm x y = absurd (y.1 x.0.5)
first_fault_once w NoCrankEdge Ratio x y = absurd (y.1 x.0.6)
first_fault_once w NoCrankEdge NoCrankEdge x y = refl
