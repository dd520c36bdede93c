use Rattle.std.proofs.Common.{refl, ◌∙◌}
use Rattle.vcd_reader.proofs.Keeping.{waits_more}
use Rattle.vcd_reader.proofs.changes.Changes.advance.Goals as goal

pub returns-clause-ok : goal.returns-clause-ok
returns-clause-ok c = λ watch handed b k. record {
  scale = k.scale;
  signals = k.signals;
  time = refl;
  levels = c.next_stamp-closed.ensures.stands b.now b.closed k.levels;
  watched = c.next_stamp-closed.ensures.watch ∙ k.watched;
  waits = waits_more watch _ handed _ _ b.closed b.now _ k.waits k.watched (c.next_stamp-closed.ensures.instant b.now b.closed k.levels) c.in_ok-push_if.ensures.ok;
}
