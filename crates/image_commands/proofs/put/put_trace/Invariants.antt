use Rattle.std.proofs.Common.{◌≡◌}
use Rattle.std.specs.Prelude.{IsTrue}
use Rattle.image_commands.proofs.Tracing.{HasTraced}
use Rattle.image_commands.proofs.put.put_trace.Given as goal

abbrev pub invariant-loop-number : goal.invariant-loop-number
invariant-loop-number g l = record {
  traced : HasTraced l.fn.view.bytes.now l.machine (g.O.Sink.taken l.fn.out) (g.O.Sink.taken l.out) l.instants l.number;
  steady : IsTrue (g.O.Sink.steady l.fn.out) → IsTrue (g.O.Sink.steady l.out);
  same : g.O.Sink.faults l.out ≡ g.O.Sink.faults l.fn.out;
}
