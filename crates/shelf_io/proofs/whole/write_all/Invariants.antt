use Rattle.std.proofs.Common.{length, ◌≡◌, ◌-◌, ◌≤◌, take, IsTrue}
use Rattle.std.specs.Io.KnownBytes.{Appends}
use Rattle.shelf_io.proofs.whole.write_all.Given as goal

abbrev pub invariant-loop-written : goal.invariant-loop-written
invariant-loop-written g l = record {
  within : l.written ≤ length l.piece;
  front : Appends (g.O.Sink.taken l.fn.sink) (g.O.Sink.taken l.sink) (take l.written l.piece);
  same : g.O.Sink.faults l.sink ≡ g.O.Sink.faults l.fn.sink;
  steady : IsTrue (g.O.Sink.steady l.fn.sink) → IsTrue (g.O.Sink.steady l.sink);
}

abbrev pub decreases-loop-written : goal.decreases-loop-written
decreases-loop-written g l = length l.piece - l.written
