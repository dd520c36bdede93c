-- What a row of a capture tells.
use Rattle.std.specs.Prelude.{ℕ, Bool, true, false, ◌&&◌, if◌then◌else◌, ℤ, int_lt, List, Option, Some, None, is_some, Result, Ok, Err}
use Rattle.csv.specs.Records.{field_at}
use Rattle.capture_core.specs.declared.capture.Column.{Column}
use Rattle.capture_core.specs.declared.capture.Column.TheVariants.{Crank, Cam1, Cam2}
use Rattle.capture_core.specs.declared.capture.CsvFault.{CsvFault}
use Rattle.capture_core.specs.declared.capture.CsvFault.TheVariants.{ShortRow, BadTime, TimeTooLarge, TimeTooFine, TimeFalls, BadLevel}
use Rattle.capture_core.specs.declared.capture.Given.{Given}
use Rattle.capture_core.specs.declared.capture.Stamp.{Stamp}
use Rattle.csv_capture.specs.declared.columns.Columns.{Columns}
use Rattle.csv_capture.specs.declared.time.TimeFault.{TimeFault}
use Rattle.csv_capture.specs.declared.time.TimeFault.TheVariants.{Bad, TooLarge, TooFine}
use Rattle.csv_capture.specs.Fields.{field_text, level_of}
use Rattle.csv_capture.specs.Times.{time_of}

-- the row has a field at this place
abbrev pub has_field : List (List ℕ) → ℕ → Bool
has_field row at = is_some (field_at row at)

-- the same, where the place is used
abbrev pub has_field_if : List (List ℕ) → Option ℕ → Bool
has_field_if row None = true
has_field_if row (Some at) = has_field row at

-- the row has all the used columns
abbrev pub is_whole : Columns → List (List ℕ) → Bool
is_whole columns row = has_field row columns.time && has_field row columns.crank && has_field_if row columns.cam1 && has_field_if row columns.cam2

-- the time is less than one before
abbrev pub falls : Option ℤ → ℤ → Bool
falls None time = false
falls (Some before) time = int_lt time before

-- the time of a row with this number, which follows one of the time before
abbrev pub row_time : ℕ → Option ℤ → Result ℤ TimeFault → Result ℤ CsvFault
row_time number before (Err Bad) = Err (BadTime number)
row_time number before (Err TooLarge) = Err (TimeTooLarge number)
row_time number before (Err TooFine) = Err (TimeTooFine number)
row_time number before (Ok time) = if falls before time then Err (TimeFalls number) else Ok time

-- a level, or the fault where there is none
abbrev pub level_or : ℕ → Column → Option Bool → Result (Option Bool) CsvFault
level_or number column None = Err (BadLevel number column)
level_or number column (Some level) = Ok (Some level)

-- the level of a channel in a row: none, where it is not watched
abbrev pub row_level : ℕ → Column → List (List ℕ) → Option ℕ → Result (Option Bool) CsvFault
row_level number column row None = Ok None
row_level number column row (Some at) = level_or number column (level_of (field_text row at))

-- all the levels, or the first fault
abbrev pub all_levels : Result (Option Bool) CsvFault → Result (Option Bool) CsvFault → Result (Option Bool) CsvFault → Result Given CsvFault
all_levels (Err fault) cam1 cam2 = Err fault
all_levels (Ok crank) (Err fault) cam2 = Err fault
all_levels (Ok crank) (Ok cam1) (Err fault) = Err fault
all_levels (Ok crank) (Ok cam1) (Ok cam2) = Ok (record { crank = crank; cam1 = cam1; cam2 = cam2 })

-- the levels that a row gives
abbrev pub row_levels : ℕ → Columns → List (List ℕ) → Result Given CsvFault
row_levels number columns row = all_levels (row_level number Crank row (Some columns.crank)) (row_level number Cam1 row columns.cam1) (row_level number Cam2 row columns.cam2)

-- a stamp of this time and these levels, or the first fault
abbrev pub stamp_of : Result ℤ CsvFault → Result Given CsvFault → Result Stamp CsvFault
stamp_of (Err fault) given = Err fault
stamp_of (Ok time) (Err fault) = Err fault
stamp_of (Ok time) (Ok given) = Ok (record { time = time; given = given })

-- the time and the levels that a row gives, or the first rule that it breaks
abbrev pub row_stamp : Columns → ℕ → Option ℤ → List (List ℕ) → Result Stamp CsvFault
row_stamp columns number before row =
    if is_whole columns row then stamp_of (row_time number before (time_of (field_text row columns.time))) (row_levels number columns row) else Err (ShortRow number)
