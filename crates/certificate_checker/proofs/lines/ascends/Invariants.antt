use Rattle.certificate_checker.proofs.Fronts.{RiseBelow}
use Rattle.certificate_checker.proofs.lines.ascends.Given as goal

abbrev pub invariant-loop-k : goal.invariant-loop-k
invariant-loop-k l = RiseBelow l.places l.k
