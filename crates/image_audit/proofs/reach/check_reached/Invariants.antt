use Rattle.position_nfa.specs.Views.{alphabet}
use Rattle.image_audit.specs.Agreements.{ReachedTo}
use Rattle.image_audit.proofs.reach.check_reached.Given as goal

abbrev pub invariant-loop-q : goal.invariant-loop-q
invariant-loop-q l = ReachedTo (alphabet l.nfa) l.view.bytes.now l.q
