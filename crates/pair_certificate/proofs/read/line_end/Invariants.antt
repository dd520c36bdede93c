use Rattle.std.proofs.Common.{◌≡◌, take, drop}
use Rattle.pair_certificate.specs.Lines.{lines_of}
use Rattle.pair_certificate.proofs.TextLines.{with_front}
use Rattle.pair_certificate.proofs.read.line_end.Given as goal

abbrev pub invariant-loop-k : goal.invariant-loop-k
invariant-loop-k l = lines_of l.bytes ≡ with_front (take l.k l.bytes) (lines_of (drop l.k l.bytes))
