use Rattle.position_nfa.specs.Views.{alphabet}
use Rattle.subset_build.specs.Views.{table_states}
use Rattle.table_images.specs.Kinds.{KindsSayTo}
use Rattle.table_images.proofs.kinds.state_kinds.Given as goal

abbrev pub invariant-loop-q : goal.invariant-loop-q
invariant-loop-q l = KindsSayTo (alphabet l.nfa) (table_states l.table) l.q l.kinds.items
