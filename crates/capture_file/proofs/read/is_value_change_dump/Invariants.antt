use Rattle.std.proofs.Common.{◌≡◌, drop}
use Rattle.capture_file.specs.Forms.{is_dump}
use Rattle.capture_file.proofs.read.is_value_change_dump.Given as goal

abbrev pub invariant-loop-byte : goal.invariant-loop-byte
invariant-loop-byte l = is_dump l.bytes ≡ is_dump (drop l.byte-index l.bytes)
