use Rattle.std.proofs.Common.{length}
use Rattle.pair_certificate.proofs.CoversAgain.{HasCover}
use Rattle.pair_certificate.proofs.cert_first.cover_of.Given as goal

abbrev pub invariant-loop-next : goal.invariant-loop-next
invariant-loop-next l = HasCover l.bytes l.rest l.cover.items

abbrev pub decreases-loop-next : goal.decreases-loop-next
decreases-loop-next l = length l.rest
