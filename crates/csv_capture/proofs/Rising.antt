-- The times of a capture's stamps rise.
use Rattle.std.proofs.Common.{ℕ, ◌+◌, List, [], ◌∷◌, Result, Ok, Err}
use Rattle.capture_core.specs.declared.capture.CsvFault.{CsvFault}
use Rattle.capture_core.specs.declared.capture.Stamp.{Stamp}
use Rattle.csv_capture.specs.declared.columns.Columns.{Columns}
use Rattle.capture_core.specs.Captures.{at_time}
use Rattle.csv_capture.specs.Captures.{after_rows, header_of, rows_of, told_below, told_from, with_row}
use Rattle.csv_capture.specs.Header.{columns_of}
use Rattle.csv_capture.specs.Laws.{StampsRise}
use Rattle.csv_capture.specs.Rows.{row_stamp}
use Rattle.capture_core.specs.Stamps.{IsRising, last_time}
use Rattle.capture_core.proofs.RisingStamps.{at_time-rising, with_given-rising}

after-rising : (columns : Columns) (number : ℕ) (stamps : List Stamp) (rows : List (List (List ℕ))) → IsRising stamps
    → IsRising (after_rows columns number stamps rows).stamps
after-rising columns number stamps [] h = h
after-rising columns number stamps (row ∷ rows) h =
    by (row_stamp columns number (last_time stamps) row)
    (λ s. after-rising columns (number + 1) (with_row s stamps) rows (with_given-rising s.given (at_time s.time stamps) (at_time-rising s.time stamps h)))
  where
    by : (r : Result Stamp CsvFault) → ((s : Stamp) → IsRising (after_rows columns (number + 1) (with_row s stamps) rows).stamps)
        → IsRising (told_from stamps (λ s. after_rows columns (number + 1) (with_row s stamps) rows) r).stamps
    by (Ok s) more = more s
    by (Err fault) more = h

below-rising : (columns : Result Columns CsvFault) (rows : List (List (List ℕ))) → IsRising (told_below columns rows).stamps
below-rising (Err fault) rows = tt
below-rising (Ok columns) rows = after-rising columns 2 [] rows tt

pub stamps-rise : StampsRise
stamps-rise names watch bytes = below-rising (columns_of names watch (header_of (rows_of bytes))) _
