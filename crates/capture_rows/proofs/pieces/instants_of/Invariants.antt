-- To take an instant reads no byte.
use Rattle.std.proofs.Common.{◌≡◌}
use Rattle.vcd_reader.specs.Readers.{bytes_read}
use Rattle.capture_rows.proofs.pieces.instants_of.Given as goal

abbrev pub invariant-turns : goal.invariant-turns
invariant-turns l = bytes_read l.reader ≡ bytes_read l.fn.reader
