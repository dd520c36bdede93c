use Rattle.std.proofs.Common.{◌≡◌, length, ◌-◌, ◌≤◌, ◌++◌, take, IsTrue, IsSome}
use Rattle.shelf_traits.specs.Shelf.{CountsFit, WritesOn, file_at}
use Rattle.shelf_io.proofs.whole.put_all.Given as goal

abbrev pub invariant-loop-written : goal.invariant-loop-written
invariant-loop-written g l = record {
  within : l.written ≤ length l.piece;
  front : IsTrue (g.S.Shelf.view l.fn.shelf).tells → file_at (g.S.Shelf.view l.shelf) l.slot ≡ file_at (g.S.Shelf.view l.fn.shelf) l.slot ++ take l.written l.piece;
  there : IsTrue (g.S.Shelf.view l.fn.shelf).tells → IsSome ((g.S.Shelf.view l.fn.shelf).file ((g.S.Shelf.view l.fn.shelf).place l.slot).name)
      → IsSome ((g.S.Shelf.view l.shelf).file ((g.S.Shelf.view l.fn.shelf).place l.slot).name);
  fits : CountsFit (g.S.Shelf.view l.fn.shelf) → CountsFit (g.S.Shelf.view l.shelf);
  same : (g.S.Shelf.view l.shelf).faults_out ≡ (g.S.Shelf.view l.fn.shelf).faults_out;
  keeps : WritesOn (g.S.Shelf.view l.fn.shelf) (g.S.Shelf.view l.shelf) l.slot;
}

abbrev pub decreases-loop-written : goal.decreases-loop-written
decreases-loop-written g l = length l.piece - l.written
