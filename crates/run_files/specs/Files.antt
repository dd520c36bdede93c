-- What the files that the words name hold, and when they are refused.
use Rattle.std.specs.Prelude.{◌≡◌, ℕ, ◌^◌, ◌<◌, ◌≤◌, List, length, Some, Ok}
use Rattle.std.specs.declared.option.Option.{Option}
use Rattle.wheel_types.specs.declared.parts.WheelParts.{WheelParts}
use Rattle.cam_ranges.specs.Places.{HasTooMany}
use Rattle.capture_core.specs.declared.capture.Names.{Names}
use Rattle.capture_core.specs.declared.capture.Watch.{Watch}
use Rattle.capture_core.specs.declared.capture.Capture.{Capture}
use Rattle.capture_file.specs.Forms.{file_capture}
use Rattle.wheel_pattern.specs.WheelFile.{MeansWheel}
use Rattle.c_tables.specs.Tables.{table_in}
use Rattle.wheel_types.specs.declared.verdict.Report.{Report}
use Rattle.pair_certificate.specs.declared.line.CertLine.{CertLine}
use Rattle.pair_certificate.specs.Readings.{MeansReports, MeansCertificate}

-- the file of this name is there with these bytes, and is not too long
pub record Holds (file : List ℕ → Option (List ℕ)) (name bytes : List ℕ) : Type 0 where
  pub there : file name ≡ Some bytes
  pub short : length bytes ≤ 2 ^ 28

-- the file is there, and has more than 2^28 bytes
abbrev pub IsTooLong : (List ℕ → Option (List ℕ)) → List ℕ → Type 0
IsTooLong file name = (bytes : List ℕ) × ((file name ≡ Some bytes) × (2 ^ 28 < length bytes))

-- the model's file is a wheel file of these parts
pub record HasWheel (file : List ℕ → Option (List ℕ)) (name : List ℕ) (w : WheelParts) : Type 0 where
  pub bytes : List ℕ
  pub holds : Holds file name bytes
  pub wheel : MeansWheel bytes w

-- and the wheel has no more places than a set of them takes
pub record HasPlacedWheel (file : List ℕ → Option (List ℕ)) (name : List ℕ) (w : WheelParts) : Type 0 where
  pub wheel : HasWheel file name w
  pub few : ¬ HasTooMany w

-- this is the capture of a file by these names, however it ends
pub record HasCapture (file : List ℕ → Option (List ℕ)) (name : List ℕ) (names : Names) (watch : Watch) (capture : Capture) : Type 0 where
  pub bytes : List ℕ
  pub holds : Holds file name bytes
  pub is : capture ≡ file_capture names watch bytes

-- the source's file has a table of this name, with these slots
pub record HasTable (file : List ℕ → Option (List ℕ)) (source name slots : List ℕ) : Type 0 where
  pub bytes : List ℕ
  pub holds : Holds file source bytes
  pub table : table_in name bytes ≡ Ok slots

-- the file is a report of these lines
pub record HasReport (file : List ℕ → Option (List ℕ)) (name : List ℕ) (reports : List Report) : Type 0 where
  pub bytes : List ℕ
  pub holds : Holds file name bytes
  pub means : MeansReports bytes reports

-- the file is a certificate of these lines
pub record HasCertificate (file : List ℕ → Option (List ℕ)) (name : List ℕ) (lines : List CertLine) : Type 0 where
  pub bytes : List ℕ
  pub holds : Holds file name bytes
  pub means : MeansCertificate bytes lines
