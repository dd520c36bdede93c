-- The bytes of the piece up to here are read.
use Rattle.std.proofs.Common.{◌+◌, ◌≤◌, ◌++◌, take}
use Rattle.vcd_reader.specs.Streams.{ForBytes, StandsFor}
use Rattle.vcd_reader.proofs.stream.Stream.pour.Given as goal

abbrev pub invariant-bytes : goal.invariant-bytes
invariant-bytes l = record {
  count : l.self.read ≤ l.fn.self.read + l.b-index;
  stands : ForBytes l.fn.self (λ wanted watch handed bytes. StandsFor wanted watch handed l.self (bytes ++ take l.b-index l.piece));
}
