use Rattle.std.proofs.Common.{◌≡◌, map}
use Rattle.std.specs.Prelude.{IsTrue}
use Rattle.shelf_traits.specs.Shelf.{WritesOn}
use Rattle.certified_replay.proofs.Putting.{HasPut}
use Rattle.certified_replay.proofs.put.put_both.Given as goal

abbrev pub invariant-loop-instant : goal.invariant-loop-instant
invariant-loop-instant g l = record {
  put : HasPut l.fn.session l.session (g.S.Shelf.view l.fn.shelf) (g.S.Shelf.view l.shelf) l.slot (g.O.Sink.taken l.fn.out) (g.O.Sink.taken l.out)
      (map (λ b. (goal.Tap-dyn g (b.vtable, b.value)).meaning b.value) l.fn.board.taps.items)
      (map (λ b. (goal.Tap-dyn g (b.vtable, b.value)).meaning b.value) l.board.taps.items) l.instants l.instant-index;
  keeps : WritesOn (g.S.Shelf.view l.fn.shelf) (g.S.Shelf.view l.shelf) l.slot;
  steady : IsTrue (g.O.Sink.steady l.fn.out) → IsTrue (g.O.Sink.steady l.out);
  same : g.O.Sink.faults l.out ≡ g.O.Sink.faults l.fn.out;
  files : (g.S.Shelf.view l.shelf).faults_out ≡ (g.S.Shelf.view l.fn.shelf).faults_out;
}
