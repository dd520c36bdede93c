-- The causes for which a file's content ends a run.
use Rattle.std.specs.Prelude.{◌≡◌, ℕ, List, Result, Ok, Err}
use Rattle.std.specs.declared.option.Option.{Option}
use Rattle.wheel_types.specs.declared.parts.WheelParts.{WheelParts}
use Rattle.wheel_pattern.specs.WheelFile.{HasFault}
use Rattle.c_tables.specs.Tables.{table_in}
use Rattle.pair_certificate.specs.Readings.{IsReportLine, IsCertLine, IsFirstBadLine}
use Rattle.capture_core.specs.declared.capture.End.{End}
use Rattle.capture_core.specs.declared.capture.End.TheVariants.{Clean, Csv, Vcd}
use Rattle.run_files.specs.Files.{Holds, IsTooLong, HasWheel}
use Rattle.cam_ranges.specs.Places.{HasTooMany}
use Rattle.run_ends.specs.declared.cause.Done.{Done}
use Rattle.run_ends.specs.declared.cause.Done.TheVariants as done
use Rattle.run_ends.specs.declared.cause.Cause.{Cause}
use Rattle.run_ends.specs.declared.cause.Cause.TheVariants as cause
use Rattle.run_ends.specs.declared.cause.Refusal.TheVariants as refusal
use Rattle.run_ends.specs.declared.cause.Limit.TheVariants as limit

-- any file gives this cause: it is too long
abbrev pub FileGives : (List ℕ → Option (List ℕ)) → List ℕ → Cause → Type 0
FileGives file name (cause.Limit limit.File) = IsTooLong file name
FileGives file name e = ⊥

-- a wheel's file gives this cause: it is no wheel file
abbrev pub WheelGives : (List ℕ → Option (List ℕ)) → List ℕ → Cause → Type 0
WheelGives file name (cause.Refused (refusal.Wheel no_wheel)) = (bytes : List ℕ) × (Holds file name bytes × HasFault bytes no_wheel.fault)
WheelGives file name e = FileGives file name e

-- a model's file gives this cause: it is no wheel file, or its wheel has too many places
abbrev pub ModelGives : (List ℕ → Option (List ℕ)) → List ℕ → Cause → Type 0
ModelGives file name (cause.Refused (refusal.Wheel no_wheel)) = (bytes : List ℕ) × (Holds file name bytes × HasFault bytes no_wheel.fault)
ModelGives file name (cause.Limit limit.Places) = (w : WheelParts) × (HasWheel file name w × HasTooMany w)
ModelGives file name e = FileGives file name e

-- a C source's file gives this cause: it has no table of the name
abbrev pub SourceGives : (List ℕ → Option (List ℕ)) → List ℕ → List ℕ → Cause → Type 0
SourceGives file source name (cause.Refused (refusal.Table no_table)) = (bytes : List ℕ) × (Holds file source bytes × (table_in name bytes ≡ Err no_table.fault))
SourceGives file source name e = FileGives file source e

-- a report's file gives this cause: it has a line that is none of a report, of which this is the first
abbrev pub ReportGives : (List ℕ → Option (List ℕ)) → List ℕ → Cause → Type 0
ReportGives file name (cause.Refused (refusal.Report at)) = (bytes : List ℕ) × (Holds file name bytes × IsFirstBadLine IsReportLine bytes at)
ReportGives file name e = FileGives file name e

-- a certificate's file gives this cause: it has a line that is none of a certificate, of which this is the first
abbrev pub CertificateGives : (List ℕ → Option (List ℕ)) → List ℕ → Cause → Type 0
CertificateGives file name (cause.Refused (refusal.Certificate at)) = (bytes : List ℕ) × (Holds file name bytes × IsFirstBadLine IsCertLine bytes at)
CertificateGives file name e = FileGives file name e

-- a run is done where its capture ends clean, and else ends for the capture's fault
abbrev pub ended_by : End → Result Done Cause
ended_by Clean = Ok done.Whole
ended_by (Csv fault) = Err (cause.Refused (refusal.Csv fault))
ended_by (Vcd fault) = Err (cause.Refused (refusal.Vcd fault))
