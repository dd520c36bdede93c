use Rattle.std.proofs.Common.{◌≡◌, ℕ, ◌+◌, ◌-◌, List, [], ◌∷◌, ◌++◌, length}
use Rattle.capture_core.specs.declared.capture.Stamp.{Stamp}
use Rattle.capture_core.specs.declared.capture.Watch.{Watch}
use Rattle.csv_capture.specs.Captures.{after_rows}
use Rattle.csv_capture.specs.RecordsOf.{HasRead}
use Rattle.csv_capture.specs.RowsOf.{Keeps}
use Rattle.csv_capture.proofs.read.read_rows.Given as goal

abbrev pub invariant-rows : goal.invariant-rows
invariant-rows l = record {
  few : (all : List (List (List ℕ))) × (length all + 1 ≡ l.number) × HasRead l.bytes all l.records;
  told : (header : List (List ℕ)) (watch : Watch) → HasRead l.fn.bytes (header ∷ []) l.fn.records → Keeps watch [] l.fn.rows
      → (seen : List (List (List ℕ))) × HasRead l.fn.bytes (header ∷ seen) l.records × (told : List Stamp) × Keeps watch told l.rows
      × ((more : List (List (List ℕ))) → after_rows l.fn.columns 2 [] (seen ++ more) ≡ after_rows l.fn.columns l.number told more);
}

abbrev pub decreases-rows : goal.decreases-rows
decreases-rows l = length l.bytes + 2 - l.number
