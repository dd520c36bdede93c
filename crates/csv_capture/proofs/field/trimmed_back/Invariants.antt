use Rattle.std.proofs.Common.{◌≡◌, take, ◌-◌, length}
use Rattle.csv_capture.specs.Fields.{trimmed_back}
use Rattle.csv_capture.proofs.field.trimmed_back.Given as goal

abbrev pub invariant-bytes : goal.invariant-bytes
invariant-bytes l = trimmed_back (take (length l.field - l.back) l.field) ≡ trimmed_back l.field
