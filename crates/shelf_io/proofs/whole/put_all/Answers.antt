use Rattle.std.proofs.Common.{◌∙◌}
use Rattle.shelf_io.proofs.Front.{within_more, file_more, there_still, writes_on}
use Rattle.shelf_io.proofs.whole.put_all.Goals as goal

pub loop-written-preserved : goal.loop-written-preserved
loop-written-preserved g c = record {
  within = within_more _ _ c.args.piece.now c.loop-written.invariant.within c.in-Ok.ensures.count.1;
  front = λ h. file_more _ _ c.args.piece.now _ _ _ (c.loop-written.invariant.front h) (c.in-Ok.ensures.appends (c.loop-written.invariant.keeps.tells ∙ h));
  there = λ h was. there_still _ _ _ _ _ _ (writes_on _ _ _ _ c.loop-written.invariant.keeps c.in-Ok.ensures.keeps) h
      (c.in-Ok.ensures.appends (c.loop-written.invariant.keeps.tells ∙ h)) c.in-Ok.ensures.count.0 c.in-Ok.ensures.count.1;
  fits = λ h. c.in-Ok.ensures.fits;
  same = c.in-Ok.ensures.cause.quiet (λ h. cc) ∙ c.loop-written.invariant.same;
  keeps = writes_on _ _ _ _ c.loop-written.invariant.keeps c.in-Ok.ensures.keeps;
}
