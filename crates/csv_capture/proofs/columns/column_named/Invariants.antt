use Rattle.std.proofs.Common.{◌≡◌, ◌++◌, drop}
use Rattle.std.specs.Option.{option_to_list}
use Rattle.csv.specs.Records.{fields_of}
use Rattle.csv_capture.specs.Header.{places_from}
use Rattle.csv_capture.proofs.columns.column_named.Given as goal

abbrev pub invariant-fields : goal.invariant-fields
invariant-fields l = places_from 0 l.name (fields_of l.header) ≡ option_to_list l.found ++ places_from l.at l.name (drop l.at (fields_of l.header))
