-- The command `check`.
use Rattle.std.specs.Prelude.{◌≡◌, ◌++◌, ℕ, List, codes, decimal, Result, Ok}
use Rattle.shelf_traits.specs.Shelf.{View}
use Rattle.wheel_types.specs.declared.parts.WheelParts.{WheelParts}
use Rattle.wheel_types.specs.declared.verdict.Report.{Report}
use Rattle.capture_core.specs.declared.capture.Capture.{Capture}
use Rattle.pair_certificate.specs.declared.line.CertLine.{CertLine}
use Rattle.certificate_checker.specs.declared.rule.Answer.{Answer}
use Rattle.certificate_checker.specs.declared.rule.Answer.TheVariants.{Yes, No}
use Rattle.certificate_checker.specs.Answers.{IsAnswer}
use Rattle.command_words.specs.Options.{Options}
use Rattle.run_ends.specs.declared.cause.Cause.{Cause}
use Rattle.run_ends.specs.declared.cause.Done.{Done}
use Rattle.run_ends.specs.declared.cause.Done.TheVariants as done
use Rattle.run_ends.specs.Works.{Work, Reads, Writes}
use Rattle.run_files.specs.Causes.{ModelGives, ReportGives, CertificateGives}
use Rattle.run_files.specs.Files.{HasPlacedWheel, HasReport, HasCertificate}
use Rattle.named_captures.specs.Captures.{HasCleanCapture, CleanGives}

-- the line of an answer: yes; or no, with the first instant that has a broken rule and its first one
abbrev pub answer_text : Answer → List ℕ
answer_text Yes = codes "yes\n"
answer_text (No instant rule) = codes "no " ++ (decimal instant ++ (codes " " ++ (decimal rule ++ codes "\n")))

-- a check that is answered so is done, and says whether the answer was no
abbrev pub ended_with : Answer → Result Done Cause
ended_with Yes = Ok done.Whole
ended_with (No instant rule) = Ok done.No

-- this text and this end are due: those of what is to be answered of the report and the certificate
abbrev pub IsAnswered : WheelParts → Capture → List Report → List CertLine → (text : List ℕ) → Result Done Cause → Type 0
IsAnswered w c report cert text end = (a : Answer) × (IsAnswer w c.instants report cert a × ((text ≡ answer_text a) × (end ≡ ended_with a)))

-- The wheel is read, and has few enough places; the capture is read over it, and ends clean; the report and the certificate are read; it
-- is answered whether the certificate is valid.
abbrev pub IsCheck : View → (wheel capture report cert : List ℕ) → Options → Work → Type 0
IsCheck v wheel capture report cert o =
    Reads v wheel (ModelGives v.file wheel) (HasPlacedWheel v.file wheel)
    (λ w. Reads v capture (CleanGives v.file capture w o) (HasCleanCapture v.file capture w o)
    (λ c. Reads v report (ReportGives v.file report) (HasReport v.file report)
    (λ (rs : List Report). Reads v cert (CertificateGives v.file cert) (HasCertificate v.file cert)
    (λ (cs : List CertLine). Writes (IsAnswered w c rs cs)))))
