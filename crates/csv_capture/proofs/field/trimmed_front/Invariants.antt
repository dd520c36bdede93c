use Rattle.std.proofs.Common.{◌≡◌, drop}
use Rattle.csv_capture.specs.Fields.{trimmed_front}
use Rattle.csv_capture.proofs.field.trimmed_front.Given as goal

abbrev pub invariant-bytes : goal.invariant-bytes
invariant-bytes l = trimmed_front (drop l.at l.field) ≡ trimmed_front l.field
