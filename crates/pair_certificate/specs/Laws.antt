-- Laws of the texts of reports and certificates.
use Rattle.std.specs.Prelude.{◌≡◌, ℕ, List, All, flat_map}
use Rattle.wheel_types.specs.declared.verdict.Report.{Report}
use Rattle.wheel_types.specs.Texts.{report_line_text}
use Rattle.pair_certificate.specs.declared.line.CertLine.{CertLine}
use Rattle.pair_certificate.specs.Certificates.{cert_line_text}
use Rattle.pair_certificate.specs.Reports.{IsReportInRange, IsCertLineInRange}
use Rattle.pair_certificate.specs.Readings.{MeansReports, MeansCertificate}

-- a text means one report
abbrev pub OneReport : Type 0
OneReport = (bytes : List ℕ) (rs qs : List Report) → MeansReports bytes rs → MeansReports bytes qs → rs ≡ qs

-- a text means one certificate
abbrev pub OneCertificate : Type 0
OneCertificate = (bytes : List ℕ) (cs ds : List CertLine) → MeansCertificate bytes cs → MeansCertificate bytes ds → cs ≡ ds

-- the joined lines of a report mean it
abbrev pub ReportsReadBack : Type 0
ReportsReadBack = (rs : List Report) → All IsReportInRange rs → MeansReports (flat_map report_line_text rs) rs

-- the joined lines of a certificate mean it
abbrev pub CertificatesReadBack : Type 0
CertificatesReadBack = (cs : List CertLine) → All IsCertLineInRange cs → MeansCertificate (flat_map cert_line_text cs) cs
