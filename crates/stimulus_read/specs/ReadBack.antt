-- What is read back from the files of stimuli.
use Rattle.std.specs.Prelude.{◌≡◌, ℕ, ◌^◌, ◌≤◌, List, [], ◌++◌, Ok, Some, None, string_bytes, codes, ℤ, pos, unsigned_abs}
use Rattle.csv.specs.Machine.{next_record}
use Rattle.csv.specs.Reading.{default_config}
use Rattle.csv.specs.declared.parser.State.TheVariants.{StartRecord}
use Rattle.wheel_types.specs.declared.instant.Instant.{Instant}
use Rattle.wheel_types.specs.declared.parts.WheelParts.{WheelParts}
use Rattle.wheel_types.specs.Wheels.{IsWheel}
use Rattle.wheel_types.specs.Verdicts.{IsRising}
use Rattle.capture_core.specs.declared.capture.End.TheVariants.{Clean}
use Rattle.capture_core.specs.declared.capture.Given.{Given}
use Rattle.capture_core.specs.declared.capture.Names.{Names}
use Rattle.capture_core.specs.declared.capture.Stamp.{Stamp}
use Rattle.capture_core.specs.declared.capture.Watch.{Watch}
use Rattle.csv_capture.specs.Captures.{csv_capture}
use Rattle.csv_capture.specs.Times.{time_of}
use Rattle.vcd_reader.specs.Dumps.{vcd_capture}
use Rattle.stimulus_files.specs.Changes.{AreStamps}
use Rattle.stimulus.specs.Gaps.{HasTimes}
use Rattle.stimulus.specs.Drawn.{IsStimulus}
use Rattle.stimulus_files.specs.Files.{seconds_text, row_text, row_fields, csv_text, vcd_text}
use Rattle.stimulus_files.specs.FilesOf.{watch_of, IsCsvOf, IsVcdOf}
use Rattle.stimulus_files.specs.Written.{AreWritable, AreSmall}

-- the default names of channels
pub record AreDefault (names : Names) : Type 0 where
  pub time : names.time ≡ None
  pub crank : string_bytes names.crank ≡ codes "crank"
  pub cam1 : string_bytes names.cam1 ≡ codes "cam1"
  pub cam2 : string_bytes names.cam2 ≡ codes "cam2"

-- the value change dump of rising instants whose edges can be written reads back as these instants and a clean end
abbrev pub DumpsReadBack : Type 0
DumpsReadBack = (watch : Watch) (names : Names) (is : List Instant) (stamps : List Stamp)
    → AreDefault names → IsRising is → AreWritable watch is → AreSmall watch is → AreStamps watch is stamps
    → vcd_capture names watch (vcd_text watch stamps) ≡ record { instants = is; end = Clean }

-- a time in seconds reads back as the femtoseconds that were written
abbrev pub TimesReadBack : Type 0
TimesReadBack = (t : ℕ) → t ≤ 10 ^ 24 → time_of (seconds_text t) ≡ Ok (pos t)

-- a row before any text is one record, of the row's fields, and the text is left
abbrev pub RowsReadBack : Type 0
RowsReadBack = (t : ℤ) (g : Given) (text : List ℕ) → unsigned_abs t ≤ 10 ^ 24
    → next_record default_config StartRecord [] [] (row_text t g ++ text) ≡ Some (row_fields t g, StartRecord, text)

-- the file of comma-separated values of such instants reads back
abbrev pub TablesReadBack : Type 0
TablesReadBack = (watch : Watch) (names : Names) (is : List Instant) (stamps : List Stamp)
    → AreDefault names → IsRising is → AreWritable watch is → AreSmall watch is → AreStamps watch is stamps
    → csv_capture names watch (csv_text watch stamps) ≡ record { instants = is; end = Clean }

-- ---- a stimulus' own files

-- its CSV file reads back
abbrev pub CsvReadsBack : Type 0
CsvReadsBack = (w : WheelParts) (names : Names) (seed gaps : ℕ) (is : List Instant) (bytes : List ℕ)
    → IsWheel w → gaps ≤ 1000000 → HasTimes w seed gaps → AreDefault names → IsStimulus w seed gaps is → IsCsvOf w is bytes
    → csv_capture names (watch_of w) bytes ≡ record { instants = is; end = Clean }

-- its value change dump reads back
abbrev pub VcdReadsBack : Type 0
VcdReadsBack = (w : WheelParts) (names : Names) (seed gaps : ℕ) (is : List Instant) (bytes : List ℕ)
    → IsWheel w → gaps ≤ 1000000 → HasTimes w seed gaps → AreDefault names → IsStimulus w seed gaps is → IsVcdOf w is bytes
    → vcd_capture names (watch_of w) bytes ≡ record { instants = is; end = Clean }
