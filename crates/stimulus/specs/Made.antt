-- Stimuli as they are kept.
use Rattle.std.specs.Prelude.{◌≡◌, ℕ, List}
use Rattle.wheel_types.specs.declared.instant.Instant.{Instant}
use Rattle.wheel_types.specs.declared.parts.WheelParts.{WheelParts}
use Rattle.wheel_types.specs.Wheels.{IsWheel}
use Rattle.capture_core.specs.declared.capture.Watch.{Watch}
use Rattle.stimulus.specs.Drawn.{IsStimulus}
use Rattle.stimulus_files.specs.FilesOf.{watch_of}

-- the instants are those of a stimulus of some wheel, whose channels are watched so
pub record IsSomeStimulus (watch : Watch) (is : List Instant) : Type 0 where
  pub parts : WheelParts
  pub seed : ℕ
  pub gaps : ℕ
  pub wheel : IsWheel parts
  pub stimulus : IsStimulus parts seed gaps is
  pub watched : watch ≡ watch_of parts
