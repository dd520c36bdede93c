use Rattle.std.proofs.Common.{◌≡◌, take}
use Rattle.std.specs.Prelude.{map}
use Rattle.position_nfa.specs.declared.pair.Pair.{Pair}
use Rattle.subset_build.specs.Views.{table_states}
use Rattle.table_images.proofs.parts.phases.Given as goal

abbrev pub invariant-loop-q : goal.invariant-loop-q
invariant-loop-q l = l.phases.items ≡ map (λ (p : Pair). p.phase) (take l.q (table_states l.table))
