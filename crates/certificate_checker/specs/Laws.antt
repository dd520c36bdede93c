-- Laws of certificates.
use Rattle.std.specs.Prelude.{◌≡◌, List, reverse}
use Rattle.certificate_checker.specs.declared.rule.Answer.{Answer}
use Rattle.certificate_checker.specs.declared.rule.Answer.TheVariants.{Yes}
use Rattle.certificate_checker.specs.Answers.{IsAnswer}
use Rattle.wheel_types.specs.declared.instant.Instant.{Instant}
use Rattle.wheel_types.specs.declared.parts.WheelParts.{WheelParts}
use Rattle.wheel_types.specs.declared.verdict.Verdict.{Verdict}
use Rattle.wheel_types.specs.declared.verdict.Report.{Report}
use Rattle.wheel_types.specs.Wheels.{IsWheel}
use Rattle.wheel_types.specs.Verdicts.{IsRising}
use Rattle.pair_certificate.specs.declared.line.CertLine.{CertLine}
use Rattle.certificate_checker.specs.Valid.{IsValid}
use Rattle.certificate_checker.specs.Reports.{IsReportOf, reports_of}
use Rattle.certificate_checker.specs.Exact.{AreExactLines}

-- a valid certificate shows that the report is the verdicts'
abbrev pub ValidReportsAreRight : Type 0
ValidReportsAreRight = (w : WheelParts) (is : List Instant) (report : List Report) (cert : List CertLine)
    → IsWheel w → IsRising is → IsValid w is report cert → IsReportOf w is report

-- the exact certificate is valid for the report of the verdicts
abbrev pub ExactCertificatesAreValid : Type 0
ExactCertificatesAreValid = (w : WheelParts) (is : List Instant) (vs : List Verdict) (cs : List CertLine) (window : List Instant)
    → IsWheel w → IsRising is → AreExactLines w (reverse is) vs cs window → IsValid w is (reports_of 1 is (reverse vs)) (reverse cs)

-- instants whose times rise have verdicts and an exact certificate on every wheel
abbrev pub ExactCertificatesExist : Type 0
ExactCertificatesExist = (w : WheelParts) (is : List Instant) → IsWheel w → IsRising is
    → (vs : List Verdict) × ((cs : List CertLine) × ((window : List Instant) × AreExactLines w (reverse is) vs cs window))

-- and one alone
abbrev pub ExactCertificatesAreOne : Type 0
ExactCertificatesAreOne =
    (w : WheelParts) (is : List Instant) (vs us : List Verdict) (cs ds : List CertLine) (window other : List Instant)
    → IsWheel w → AreExactLines w (reverse is) vs cs window → AreExactLines w (reverse is) us ds other → cs ≡ ds

-- what is answered of a valid certificate is yes
abbrev pub ValidIsAnsweredYes : Type 0
ValidIsAnsweredYes = (w : WheelParts) (is : List Instant) (report : List Report) (cert : List CertLine) (a : Answer)
    → IsValid w is report cert → IsAnswer w is report cert a → a ≡ Yes

-- the report of the verdicts and the exact certificate
pub record AreOwn (w : WheelParts) (is : List Instant) (report : List Report) (cert : List CertLine) : Type 0 where
  pub verdicts : List Verdict
  pub lines : List CertLine
  pub window : List Instant
  pub exact : AreExactLines w (reverse is) verdicts lines window
  pub records : report ≡ reports_of 1 is (reverse verdicts)
  pub certificate : cert ≡ reverse lines
