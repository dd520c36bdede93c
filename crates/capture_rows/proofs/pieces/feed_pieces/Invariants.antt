-- At most the bytes before the rest were read.
use Rattle.std.proofs.Common.{◌+◌, ◌≤◌, length}
use Rattle.vcd_reader.specs.Readers.{bytes_read}
use Rattle.capture_rows.proofs.pieces.feed_pieces.Given as goal

abbrev pub decreases-pieces : goal.decreases-pieces
decreases-pieces l = length l.rest

abbrev pub invariant-pieces : goal.invariant-pieces
invariant-pieces l = bytes_read l.reader + length l.rest ≤ bytes_read l.fn.reader + length l.fn.bytes
