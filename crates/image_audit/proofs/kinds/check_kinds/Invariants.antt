use Rattle.position_nfa.specs.Views.{alphabet}
use Rattle.image_audit.specs.Agreements.{KindsTo}
use Rattle.image_audit.proofs.kinds.check_kinds.Given as goal

abbrev pub invariant-loop-q : goal.invariant-loop-q
invariant-loop-q l = KindsTo (alphabet l.nfa) l.view.bytes.now l.q
