use Rattle.std.proofs.Common.{◌∙◌}
use Rattle.shelf_io.proofs.Front.{appends_more, within_more}
use Rattle.shelf_io.proofs.whole.write_all.Goals as goal

pub loop-written-preserved : goal.loop-written-preserved
loop-written-preserved g c = record {
  within = within_more _ _ c.args.piece.now c.loop-written.invariant.within c.in-Ok.ensures.count.1;
  front = appends_more _ _ _ _ _ _ c.loop-written.invariant.front c.in-Ok.ensures.bytes;
  same = c.in-Ok.ensures.cause.quiet (λ h. cc) ∙ c.loop-written.invariant.same;
  steady = λ h. c.in-Ok.ensures.steady (c.loop-written.invariant.steady h);
}
