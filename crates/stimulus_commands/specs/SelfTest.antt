-- The command `self`.
use Rattle.std.specs.Prelude.{◌≡◌, ℕ, List, Result, Ok}
use Rattle.shelf_traits.specs.Shelf.{View}
use Rattle.wheel_types.specs.declared.instant.Instant.{Instant}
use Rattle.wheel_types.specs.declared.parts.WheelParts.{WheelParts}
use Rattle.stimulus.specs.Drawn.{IsStimulus}
use Rattle.run_ends.specs.declared.cause.Cause.{Cause}
use Rattle.run_ends.specs.declared.cause.Done.{Done}
use Rattle.run_ends.specs.declared.cause.Done.TheVariants.{Whole}
use Rattle.run_ends.specs.Works.{Work, Reads, Judges, Writes}
use Rattle.run_files.specs.Causes.{ModelGives}
use Rattle.run_files.specs.Files.{HasPlacedWheel}
use Rattle.table_commands.specs.States.{HasFewStates, FamilyGives}
use Rattle.stimulus_commands.specs.declared.counts.Counts.{Counts}
use Rattle.stimulus_commands.specs.CountsOf.{AreCounts, self_text}
use Rattle.stimulus_commands.specs.Stimuli.{HasStimulus, StimGives}

-- the counts are those of the verdicts of a stimulus
pub record HasTested (w : WheelParts) (seed gaps : ℕ) (counts : Counts) : Type 0 where
  pub instants : List Instant
  pub stimulus : IsStimulus w seed gaps instants
  pub counted : AreCounts w instants counts

-- this text and this end are due for a wheel, a seed and so many gaps
abbrev pub IsSelfTested : WheelParts → (seed gaps : ℕ) → (text : List ℕ) → Result Done Cause → Type 0
IsSelfTested w seed gaps text end = (counts : Counts) × (HasTested w seed gaps counts × ((text ≡ self_text counts) × (end ≡ Ok Whole)))

-- The wheel is read, and has few enough places; its family is judged, and has few enough states; its stimulus is judged; the line of the
-- counts is written.
abbrev pub IsSelfTest : View → (wheel : List ℕ) → (seed gaps : ℕ) → Work → Type 0
IsSelfTest v wheel seed gaps =
    Reads v wheel (ModelGives v.file wheel) (HasPlacedWheel v.file wheel)
    (λ w. Judges (FamilyGives w) (HasFewStates w) (Judges (StimGives w seed gaps) (HasStimulus w seed gaps) (Writes (IsSelfTested w seed gaps))))
