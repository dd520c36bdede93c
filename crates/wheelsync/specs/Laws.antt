-- A report is determined by the bytes of the two files and the options, and is the same beside a certificate.
use Rattle.std.specs.Prelude.{◌≡◌, ℕ, List}
use Rattle.wheel_types.specs.declared.parts.WheelParts.{WheelParts}
use Rattle.wheel_types.specs.declared.instant.Instant.{Instant}
use Rattle.capture_core.specs.declared.capture.Capture.{Capture}
use Rattle.table_models.specs.Models.{MeansModel}
use Rattle.named_captures.specs.Captures.{IsCapture}
use Rattle.command_words.specs.Options.{Options}
use Rattle.run_ends.specs.Stages.{Fellows, lines_text}
use Rattle.certified_replay.specs.Certified.{AreCertified}
use Rattle.wheelsync.specs.Headline.{IsReport}

-- two reports of a model's and a capture's bytes, with the same options, are one, however the capture ends
abbrev pub OneReport : Type 0
OneReport = (model bytes : List ℕ) (o : Options) (w v : WheelParts) (c d : Capture) (text other : List ℕ) → MeansModel model w → MeansModel model v
    → IsCapture w o bytes c → IsCapture v o bytes d → IsReport w c.instants text → IsReport v d.instants other → text ≡ other

-- the lines that come on out while a certificate is written beside them are the report of the instants
abbrev pub CertifiedLinesAreTheReport : Type 0
CertifiedLinesAreTheReport = (w : WheelParts) (instants : List Instant) (all : List Fellows) → AreCertified w instants all → IsReport w instants (lines_text all)
