-- The command `stim`.
use Rattle.std.specs.Prelude.{ℕ, List}
use Rattle.shelf_traits.specs.Shelf.{View}
use Rattle.wheel_types.specs.declared.instant.Instant.{Instant}
use Rattle.wheel_types.specs.declared.parts.WheelParts.{WheelParts}
use Rattle.capture_core.specs.declared.capture.Watch.{Watch}
use Rattle.stimulus_files.specs.FilesOf.{IsCsvText, IsVcdText, watch_of}
use Rattle.stimulus.specs.Drawn.{IsStimulus}
use Rattle.run_ends.specs.Works.{Work, Reads, Judges}
use Rattle.run_ends.specs.Stages.{Makes}
use Rattle.run_files.specs.Causes.{WheelGives}
use Rattle.run_files.specs.Files.{HasWheel}
use Rattle.command_words.specs.declared.numbers.Form.{Form}
use Rattle.command_words.specs.declared.numbers.Form.TheVariants.{Vcd, Csv}
use Rattle.stimulus_commands.specs.Stimuli.{HasStimulus, StimGives}

-- the bytes are the file of instants of these watched channels, in the form
abbrev pub IsFileText : Form → Watch → List Instant → (text : List ℕ) → Type 0
IsFileText Vcd watch is text = IsVcdText watch is text
IsFileText Csv watch is text = IsCsvText watch is text

-- the bytes are the file of the stimulus of a wheel, a seed and so many gaps, in the form
abbrev pub IsStimText : WheelParts → Form → (seed gaps : ℕ) → (text : List ℕ) → Type 0
IsStimText w form seed gaps text = (is : List Instant) × (IsStimulus w seed gaps is × IsFileText form (watch_of w) is text)

-- The wheel is read, however many places it has; its stimulus is judged; the stimulus' text is made, and then its file.
abbrev pub IsStim : View → (wheel : List ℕ) → Form → (seed gaps : ℕ) → (file : List ℕ) → Work → Type 0
IsStim v wheel form seed gaps file =
    Reads v wheel (WheelGives v.file wheel) (HasWheel v.file wheel)
    (λ w. Judges (StimGives w seed gaps) (HasStimulus w seed gaps) (Makes file (IsStimText w form seed gaps)))
