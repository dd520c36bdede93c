-- At most the bytes so far were read.
use Rattle.std.proofs.Common.{◌+◌, ◌≤◌}
use Rattle.vcd_reader.specs.Readers.{bytes_read}
use Rattle.capture_rows.proofs.pieces.feed_bytes.Given as goal

abbrev pub invariant-bytes : goal.invariant-bytes
invariant-bytes l = bytes_read l.reader ≤ bytes_read l.fn.reader + l.at
