-- The capture of a file in CSV.
use Rattle.std.specs.Prelude.{ℕ, ◌+◌, List, [], ◌∷◌, drop, Result, Ok, Err}
use Rattle.csv.specs.Reading.{default_config, records, strip_bom}
use Rattle.capture_core.specs.declared.capture.Capture.{Capture}
use Rattle.capture_core.specs.declared.capture.CsvFault.{CsvFault}
use Rattle.capture_core.specs.declared.capture.End.TheVariants.{Clean, Csv}
use Rattle.capture_core.specs.declared.capture.Names.{Names}
use Rattle.capture_core.specs.declared.capture.Stamp.{Stamp}
use Rattle.capture_core.specs.declared.capture.Watch.{Watch}
use Rattle.csv_capture.specs.declared.columns.Columns.{Columns}
use Rattle.csv_capture.specs.Header.{columns_of}
use Rattle.csv_capture.specs.Rows.{row_stamp}
use Rattle.capture_core.specs.Captures.{Told, at_time, capture_of, with_given}
use Rattle.capture_core.specs.Stamps.{last_time}

-- the rows of a file, the header first: the records of its bytes, after one byte order mark
abbrev pub rows_of : List ℕ → List (List (List ℕ))
rows_of bytes = records default_config (strip_bom bytes)

-- the stamps, with the time and the levels of one more row
abbrev pub with_row : Stamp → List Stamp → List Stamp
with_row row stamps = with_given row.given (at_time row.time stamps)

-- what is told from a row on: what comes after its stamp, or its fault after the stamps before
abbrev pub told_from : List Stamp → (Stamp → Told) → Result Stamp CsvFault → Told
told_from stamps after (Ok s) = after s
told_from stamps after (Err fault) = record { stamps = stamps; end = Csv fault }

-- what rows tell that stand after these stamps, the first of them with this number, up to the first fault
abbrev pub after_rows : Columns → ℕ → List Stamp → List (List (List ℕ)) → Told
after_rows columns number stamps [] = record { stamps = stamps; end = Clean }
after_rows columns number stamps (row ∷ rows) =
    told_from stamps (λ s. after_rows columns (number + 1) (with_row s stamps) rows) (row_stamp columns number (last_time stamps) row)

-- the first of the rows, or an empty one
abbrev pub header_of : List (List (List ℕ)) → List (List ℕ)
header_of [] = []
header_of (row ∷ rows) = row

-- what the rows below the header tell
abbrev pub told_below : Result Columns CsvFault → List (List (List ℕ)) → Told
told_below (Err fault) rows = record { stamps = []; end = Csv fault }
told_below (Ok columns) rows = after_rows columns 2 [] rows

-- what all rows tell
abbrev pub told_by : Names → Watch → List (List (List ℕ)) → Told
told_by names watch rows = told_below (columns_of names watch (header_of rows)) (drop 1 rows)

-- the capture of a file, whatever the names of its columns and the channels that are watched
abbrev pub csv_capture : Names → Watch → List ℕ → Capture
csv_capture names watch bytes = capture_of watch (told_by names watch (rows_of bytes))
