-- The report of instants.
use Rattle.std.specs.Prelude.{◌≡◌, ℕ, ◌+◌, List, [], ◌∷◌, reverse}
use Rattle.wheel_types.specs.declared.instant.Instant.{Instant}
use Rattle.wheel_types.specs.declared.parts.WheelParts.{WheelParts}
use Rattle.wheel_types.specs.declared.verdict.Verdict.{Verdict}
use Rattle.wheel_types.specs.declared.verdict.Report.{Report}
use Rattle.wheel_types.specs.Shapes.{shape_number}
use Rattle.wheel_types.specs.Verdicts.{AreVerdicts}

-- the record of the instant of this index with this verdict
abbrev pub report_of : ℕ → Instant → Verdict → Report
report_of index i v = record { index = index; time = i.time; shape = shape_number i.crank i.cam1 i.cam2; verdict = v }

-- the records of instants and their verdicts, in order, the first of them having this index
abbrev pub reports_of : ℕ → List Instant → List Verdict → List Report
reports_of index [] vs = []
reports_of index (i ∷ is) [] = []
reports_of index (i ∷ is) (v ∷ vs) = report_of index i v ∷ reports_of (index + 1) is vs

-- the report has for each instant its index, time, shape and verdict; the list of verdicts has the last one first
pub record IsReportOf (w : WheelParts) (is : List Instant) (report : List Report) : Type 0 where
  pub verdicts : List Verdict
  pub window : List Instant
  pub are : AreVerdicts w (reverse is) verdicts window
  pub records : report ≡ reports_of 1 is (reverse verdicts)
