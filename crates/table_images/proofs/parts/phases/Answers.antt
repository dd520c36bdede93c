use Rattle.std.proofs.Common.{refl}
use Rattle.position_nfa.specs.declared.pair.Pair.{Pair}
use Rattle.subset_build.specs.Views.{table_states}
use Rattle.table_images.proofs.Copies.{map_more}
use Rattle.table_images.proofs.parts.phases.Goals as goal

pub loop-q-preserved : goal.loop-q-preserved
loop-q-preserved c = map_more (λ (p : Pair). p.phase) (table_states c.args.table.now) c.loop-q.q c.state.result.now c.state.result.now.phase c.loop-q.phases.items c.push.new.self.items c.state.ensures refl c.loop-q.invariant c.in_ok-push.ensures.items
