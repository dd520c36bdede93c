-- What the rows that were read leave in a `Rows`.
use Rattle.std.specs.Prelude.{◌≡◌, List, drop}
use Rattle.capture_core.specs.declared.capture.Stamp.{Stamp}
use Rattle.capture_core.specs.declared.capture.Watch.{Watch}
use Rattle.csv_capture.specs.declared.rows.Rows.{Rows}
use Rattle.capture_core.specs.LevelsOf.{StandsAt, watched_by}
use Rattle.capture_core.specs.Stamps.{instants_of}

-- rows told these stamps, of which the last is open
pub record Keeps (watch : Watch) (stamps : List Stamp) (rows : Rows) : Type 0 where
  pub levels : StandsAt rows.levels stamps
  pub watched : watched_by rows.levels ≡ watch
  pub instants : rows.instants.items ≡ instants_of watch (drop 1 stamps)
