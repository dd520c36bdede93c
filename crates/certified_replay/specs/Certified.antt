-- The command `replay` with a certificate.
use Rattle.std.specs.Prelude.{◌≡◌, ℕ, List, [], ◌∷◌, Some, Ok}
use Rattle.shelf_traits.specs.Shelf.{View}
use Rattle.wheel_types.specs.declared.instant.Instant.{Instant}
use Rattle.wheel_types.specs.declared.parts.WheelParts.{WheelParts}
use Rattle.wheel_types.specs.declared.verdict.Report.{Report}
use Rattle.wheel_types.specs.Texts.{report_line_text}
use Rattle.capture_core.specs.declared.capture.Capture.{Capture}
use Rattle.pair_certificate.specs.declared.line.CertLine.{CertLine}
use Rattle.pair_certificate.specs.Certificates.{cert_line_text}
use Rattle.pair_certificate.specs.Readings.{MeansReports, MeansCertificate}
use Rattle.certificate_checker.specs.Valid.{IsValid}
use Rattle.certificate_checker.specs.Laws.{AreOwn}
use Rattle.tap_board.specs.Marks.{mark_of}
use Rattle.command_words.specs.Options.{Options}
use Rattle.run_ends.specs.declared.cause.Done.{Done}
use Rattle.run_ends.specs.Works.{Work}
use Rattle.run_ends.specs.Stages.{Fellows, Opens, Closes, Creates, Takes, WritesBoth}
use Rattle.run_files.specs.Causes.{FileGives, ended_by}
use Rattle.table_models.specs.Models.{ReadsModel}
use Rattle.named_captures.specs.Captures.{HasNamedCapture}

-- the lines of a report, beside them those of a certificate, and the marks of the report
abbrev pub fellows_of : List Report → List CertLine → List Fellows
fellows_of [] cs = []
fellows_of (r ∷ rs) [] = []
fellows_of (r ∷ rs) (c ∷ cs) = record { line = report_line_text r; beside = cert_line_text c; mark = mark_of r.verdict } ∷ fellows_of rs cs

-- the lines are those of the report of the instants, and beside them stand those of its exact certificate
pub record AreCertified (w : WheelParts) (instants : List Instant) (all : List Fellows) : Type 0 where
  pub report : List Report
  pub certificate : List CertLine
  pub own : AreOwn w instants report certificate
  pub fellows : all ≡ fellows_of report certificate

-- the one text is a report, the other a certificate, and this is valid for that
pub record AreBelieved (w : WheelParts) (instants : List Instant) (out made : List ℕ) : Type 0 where
  pub report : List Report
  pub certificate : List CertLine
  pub means_report : MeansReports out report
  pub means_certificate : MeansCertificate made certificate
  pub valid : IsValid w instants report certificate

-- where the work is done, what out got and what the file has are such texts
abbrev pub ReadsBack : WheelParts → List Instant → Work → Type 0
ReadsBack w instants work = (x : Done) → work.end ≡ Ok x → (made : List ℕ) × ((work.made ≡ Some made) × AreBelieved w instants work.out made)

-- out gets the report, the file its exact certificate, line after line; the run ends as the capture does
abbrev pub WritesCertified : WheelParts → Capture → Work → Type 0
WritesCertified w c work = WritesBoth (λ all end. AreCertified w c.instants all × (end ≡ ended_by c.end)) work × ReadsBack w c.instants work

-- The certificate's file is created; then the capture is read over the wheel; the report of its instants is written, and beside it its
-- exact certificate, and the run ends as the capture does.
abbrev pub IsCertifiedPast : View → WheelParts → (capture cert : List ℕ) → Options → Work → Type 0
IsCertifiedPast v w capture cert o = Creates cert (Takes v (FileGives v.file capture) (HasNamedCapture v.file capture w o) (λ c. WritesCertified w c))

-- The capture is opened, and that work is done; the taps, whose tails are these past any marks, are told of it, and closed at its end.
abbrev pub IsCertifiedOver : View → (tails : List ℕ → List ℕ) → WheelParts → (capture cert : List ℕ) → Options → Work → Type 0
IsCertifiedOver v tails w capture cert o = Opens v capture (Closes tails (IsCertifiedPast v w capture cert o))

-- The model is read, and is a sound image or the file of a wheel that has one; then the capture is replayed over its wheel.
abbrev pub IsCertified : View → (tails : List ℕ → List ℕ) → (model capture cert : List ℕ) → Options → Work → Type 0
IsCertified v tails model capture cert o = ReadsModel v model (λ w. IsCertifiedOver v tails w capture cert o)
