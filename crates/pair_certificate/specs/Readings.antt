-- What texts of reports and certificates mean. A line in the grammar is the text of a value in range.
use Rattle.std.specs.Prelude.{◌≡◌, ℕ, ◌+◌, List, [], ◌∷◌, ◌++◌, length, ⊤}
use Rattle.wheel_types.specs.declared.verdict.Report.{Report}
use Rattle.wheel_types.specs.Texts.{report_line_text}
use Rattle.pair_certificate.specs.declared.line.CertLine.{CertLine}
use Rattle.pair_certificate.specs.Certificates.{cert_line_text}
use Rattle.pair_certificate.specs.Reports.{IsReportInRange, IsCertLineInRange}
use Rattle.pair_certificate.specs.Lines.{lines_of}

-- the line is that of the report's record
pub record IsReportLine (line : List ℕ) (r : Report) : Type 0 where
  pub range : IsReportInRange r
  pub text : line ≡ report_line_text r

-- the line is that of the certificate's record
pub record IsCertLine (line : List ℕ) (c : CertLine) : Type 0 where
  pub range : IsCertLineInRange c
  pub text : line ≡ cert_line_text c

-- each line has its value
abbrev pub AreLines : {X : Type 0} → (List ℕ → X → Type 0) → List (List ℕ) → List X → Type 0
AreLines IsLine [] [] = ⊤
AreLines IsLine (line ∷ lines) (x ∷ xs) = IsLine line x × AreLines IsLine lines xs
AreLines IsLine [] (x ∷ xs) = ⊥
AreLines IsLine (line ∷ lines) [] = ⊥

-- the first line that has no value, counted from 1
pub record IsFirstBadLine {X : Type 0} (IsLine : List ℕ → X → Type 0) (bytes : List ℕ) (at : ℕ) : Type 0 where
  pub good : List (List ℕ)
  pub bad : List ℕ
  pub rest : List (List ℕ)
  pub values : List X
  pub whole : lines_of bytes ≡ good ++ bad ∷ rest
  pub before : AreLines IsLine good values
  pub number : at ≡ length good + 1
  pub refused : (x : X) → IsLine bad x → ⊥

-- the text means these reports
abbrev pub MeansReports : List ℕ → List Report → Type 0
MeansReports bytes rs = AreLines IsReportLine (lines_of bytes) rs

-- the text means this certificate
abbrev pub MeansCertificate : List ℕ → List CertLine → Type 0
MeansCertificate bytes cs = AreLines IsCertLine (lines_of bytes) cs
