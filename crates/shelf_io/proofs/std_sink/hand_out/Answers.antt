use Rattle.shelf_io.proofs.Front.{appends_more, within_more}
use Rattle.shelf_io.proofs.std_sink.hand_out.Goals as goal

pub loop-written-preserved : goal.loop-written-preserved
loop-written-preserved g c = record {
  within = within_more _ _ c.args.bytes.now c.loop-written.invariant.within c.in-Ok.ensures.bound;
  front = appends_more _ _ _ _ _ _ c.loop-written.invariant.front c.in-Ok.ensures.bytes;
}
