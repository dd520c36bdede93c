-- A self tells of no loss.
use Rattle.std.specs.Prelude.{◌≡◌, ℕ, List, Result}
use Rattle.wheel_types.specs.declared.parts.WheelParts.{WheelParts}
use Rattle.wheel_types.specs.Wheels.{IsWheel}
use Rattle.run_ends.specs.declared.cause.Cause.{Cause}
use Rattle.run_ends.specs.declared.cause.Done.{Done}
use Rattle.stimulus_commands.specs.declared.counts.Counts.{Counts}
use Rattle.stimulus_commands.specs.CountsOf.{self_text}
use Rattle.stimulus_commands.specs.SelfTest.{IsSelfTested}

-- the line of a self over a wheel is that of counts with no loss
abbrev pub NoSelfIsLost : Type 0
NoSelfIsLost = (w : WheelParts) (seed gaps : ℕ) (text : List ℕ) (end : Result Done Cause) → IsWheel w → IsSelfTested w seed gaps text end
    → (counts : Counts) × ((counts.lost ≡ 0) × (text ≡ self_text counts))
