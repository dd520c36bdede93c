-- Checks whose files are all accepted.
use Rattle.std.specs.Prelude.{ℕ, List}
use Rattle.std.specs.declared.option.Option.{Option}
use Rattle.wheel_types.specs.declared.parts.WheelParts.{WheelParts}
use Rattle.wheel_types.specs.declared.verdict.Report.{Report}
use Rattle.capture_core.specs.declared.capture.Capture.{Capture}
use Rattle.pair_certificate.specs.declared.line.CertLine.{CertLine}
use Rattle.command_words.specs.Options.{Options}
use Rattle.run_files.specs.Files.{HasPlacedWheel, HasReport, HasCertificate}
use Rattle.named_captures.specs.Captures.{HasCleanCapture}

-- the files of a check hold this wheel, this capture over it, which ends clean, this report and this certificate
pub record AreChecked (file : List ℕ → Option (List ℕ)) (wheel capture report cert : List ℕ) (o : Options) (w : WheelParts) (c : Capture) (rs : List Report) (cs : List CertLine) : Type 0 where
  pub wheel_file : HasPlacedWheel file wheel w
  pub capture_file : HasCleanCapture file capture w o c
  pub report_file : HasReport file report rs
  pub cert_file : HasCertificate file cert cs
