-- What one more instant adds to a report and to its exact certificate. Lists of instants, verdicts and lines have the last one first.
use Rattle.std.specs.Prelude.{◌≡◌, ◌+◌, List, ◌∷◌, length}
use Rattle.wheel_types.specs.declared.instant.Instant.{Instant}
use Rattle.wheel_types.specs.declared.verdict.Verdict.{Verdict}
use Rattle.wheel_types.specs.declared.parts.WheelParts.{WheelParts}
use Rattle.wheel_types.specs.Texts.{report_line_text}
use Rattle.replay_core.specs.declared.session.Session.{Session}
use Rattle.pair_certificate.specs.declared.line.CertLine.{CertLine}
use Rattle.pair_certificate.specs.Certificates.{cert_line_text}
use Rattle.pair_certificate.specs.Reports.{IsReportInRange, IsCertLineInRange}
use Rattle.certificate_checker.specs.Exact.{AreExactLines}
use Rattle.certificate_checker.specs.Reports.{report_of}
use Rattle.certified_replay.specs.Walked.{HasWalked}
use Rattle.certified_replay.specs.declared.lines.Lines.{Lines}

-- The session has taken the instant past these, and stands for it. This is the instant's verdict, and this its line of the exact certificate;
-- both have numbers that lines may have.
pub record TakesOne (w : WheelParts) (session : Session) (i : Instant) (past : List Instant) (verdicts : List Verdict) (certificate : List CertLine) : Type 0 where
  pub verdict : Verdict
  pub line : CertLine
  pub window : List Instant
  pub walked : HasWalked session (i ∷ past) (verdict ∷ verdicts)
  pub exact : AreExactLines w (i ∷ past) (verdict ∷ verdicts) (line ∷ certificate) window
  pub report_range : IsReportInRange (report_of (length past + 1) i verdict)
  pub line_range : IsCertLineInRange line

-- and these are the texts of the two, and what the first says
pub record AddsLines (w : WheelParts) (session : Session) (i : Instant) (past : List Instant) (verdicts : List Verdict) (certificate : List CertLine) (lines : Lines) : Type 0 where
  pub takes : TakesOne w session i past verdicts certificate
  pub report_text : lines.report.items ≡ report_line_text (report_of (length past + 1) i takes.verdict)
  pub line_text : lines.certificate.items ≡ cert_line_text takes.line
  pub said : lines.said ≡ report_of (length past + 1) i takes.verdict
