use Rattle.std.proofs.Common.{length}
use Rattle.pair_certificate.specs.Readings.{IsCertLine}
use Rattle.pair_certificate.proofs.ReadLines.{HasRead}
use Rattle.pair_certificate.proofs.cert_read.read_certificate.Given as goal

abbrev pub invariant-loop-rest : goal.invariant-loop-rest
invariant-loop-rest l = HasRead IsCertLine l.bytes l.rest l.lines.items

abbrev pub decreases-loop-rest : goal.decreases-loop-rest
decreases-loop-rest l = length l.rest
