-- The columns of a capture, by the names in its header.
use Rattle.std.specs.Prelude.{ℕ, ◌+◌, if◌then◌else◌, List, [], ◌∷◌, Option, Some, None, Result, Ok, Err, String, string_bytes}
use Rattle.std.specs.declared.alloc.Global.{Global}
use Rattle.wheel_types.specs.declared.channel.Keep.{Keep}
use Rattle.capture_core.specs.declared.capture.Column.{Column}
use Rattle.capture_core.specs.declared.capture.Column.TheVariants.{Time, Crank, Cam1, Cam2}
use Rattle.capture_core.specs.declared.capture.CsvFault.{CsvFault}
use Rattle.capture_core.specs.declared.capture.CsvFault.TheVariants.{NoColumn, TwoColumns}
use Rattle.capture_core.specs.declared.capture.Names.{Names}
use Rattle.capture_core.specs.declared.capture.Watch.{Watch}
use Rattle.csv_capture.specs.declared.columns.Columns.{Columns}
use Rattle.csv_capture.specs.Fields.{same, trimmed}

-- the places of the fields that read as this name, where the first field has this place
abbrev pub places_from : ℕ → List ℕ → List (List ℕ) → List ℕ
places_from at name [] = []
places_from at name (field ∷ fields) = if same (trimmed field) name then at ∷ places_from (at + 1) name fields else places_from (at + 1) name fields

-- the only one of these places
abbrev pub only_one : Column → List ℕ → Result ℕ CsvFault
only_one column [] = Err (NoColumn column)
only_one column (at ∷ []) = Ok at
only_one column (at ∷ again ∷ more) = Err (TwoColumns column)

-- the place of the column with this name
abbrev pub column_named : Column → List ℕ → List (List ℕ) → Result ℕ CsvFault
column_named column name header = only_one column (places_from 0 name header)

-- the place of the column of times: the first one, or that of the name
abbrev pub time_column : Option (String Global) → List (List ℕ) → Result ℕ CsvFault
time_column None [] = Err (NoColumn Time)
time_column None (field ∷ fields) = Ok 0
time_column (Some name) header = column_named Time (string_bytes name) header

-- the place that was found
abbrev pub some_place : Result ℕ CsvFault → Result (Option ℕ) CsvFault
some_place (Ok at) = Ok (Some at)
some_place (Err fault) = Err fault

-- the place of a cam's column, where the cam is watched
abbrev pub cam_column : Column → Option Keep → List ℕ → List (List ℕ) → Result (Option ℕ) CsvFault
cam_column column None name header = Ok None
cam_column column (Some keep) name header = some_place (column_named column name header)

-- all the columns, or the first fault
abbrev pub all_columns : Result ℕ CsvFault → Result ℕ CsvFault → Result (Option ℕ) CsvFault → Result (Option ℕ) CsvFault → Result Columns CsvFault
all_columns (Err fault) crank cam1 cam2 = Err fault
all_columns (Ok time) (Err fault) cam1 cam2 = Err fault
all_columns (Ok time) (Ok crank) (Err fault) cam2 = Err fault
all_columns (Ok time) (Ok crank) (Ok cam1) (Err fault) = Err fault
all_columns (Ok time) (Ok crank) (Ok cam1) (Ok cam2) = Ok (record { time = time; crank = crank; cam1 = cam1; cam2 = cam2 })

-- the columns that a header gives; a file without rows has an empty one
abbrev pub columns_of : Names → Watch → List (List ℕ) → Result Columns CsvFault
columns_of names watch header =
    all_columns (time_column names.time header) (column_named Crank (string_bytes names.crank) header)
    (cam_column Cam1 watch.cam1 (string_bytes names.cam1) header) (cam_column Cam2 watch.cam2 (string_bytes names.cam2) header)
