use Rattle.position_nfa.specs.Views.{alphabet}
use Rattle.subset_build.specs.Views.{table_states}
use Rattle.table_images.proofs.Leasts.{kind_more}
use Rattle.table_images.proofs.kinds.state_kinds.Goals as goal

pub loop-q-preserved : goal.loop-q-preserved
loop-q-preserved c = kind_more (alphabet c.args.nfa.now) (table_states c.args.table.now) c.loop-q.q c.state.result.now c.as_slice.result.now c.kind_of.result c.loop-q.kinds.items c.push.new.self.items c.state.ensures c.as_slice.ensures c.kind_of.ensures c.loop-q.invariant c.in_ok-push.ensures.items
