-- Laws of captures in CSV.
use Rattle.std.specs.Prelude.{ℕ, List}
use Rattle.capture_core.specs.declared.capture.Names.{Names}
use Rattle.capture_core.specs.declared.capture.Watch.{Watch}
use Rattle.capture_core.specs.Stamps.{IsRising}
use Rattle.csv_capture.specs.Captures.{rows_of, told_by}

-- the times of stamps rise, whatever the file
abbrev pub StampsRise : Type 0
StampsRise = (names : Names) (watch : Watch) (bytes : List ℕ) → IsRising (told_by names watch (rows_of bytes)).stamps
