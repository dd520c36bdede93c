use Rattle.std.proofs.Common.{◌≡◌, take}
use Rattle.std.specs.Prelude.{flat_map}
use Rattle.position_nfa.specs.declared.pair.Pair.{Pair}
use Rattle.subset_build.specs.Views.{table_states}
use Rattle.table_images.proofs.parts.members.Given as goal

abbrev pub invariant-loop-q : goal.invariant-loop-q
invariant-loop-q l = l.words.items ≡ flat_map (λ (p : Pair). p.set) (take l.q (table_states l.table))
