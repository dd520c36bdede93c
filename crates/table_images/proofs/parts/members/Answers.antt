use Rattle.position_nfa.specs.declared.pair.Pair.{Pair}
use Rattle.subset_build.specs.Views.{table_states}
use Rattle.table_images.proofs.Copies.{flat_more}
use Rattle.table_images.proofs.parts.members.Goals as goal

pub loop-q-preserved : goal.loop-q-preserved
loop-q-preserved c = flat_more (λ (p : Pair). p.set) (table_states c.args.table.now) c.loop-q.q c.state.result.now c.as_slice.result.now c.loop-q.words.items c.extend_from_slice.new.self.items c.state.ensures c.as_slice.ensures c.loop-q.invariant c.in_ok-extend_from_slice.ensures.items
