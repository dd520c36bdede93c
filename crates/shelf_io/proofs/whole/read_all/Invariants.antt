use Rattle.std.proofs.Common.{◌≡◌, ◌+◌, ◌-◌, ◌^◌, ◌≤◌, ◌++◌, length, IsTrue}
use Rattle.shelf_traits.specs.Shelf.{ReadsOn, left_at}
use Rattle.shelf_io.proofs.whole.read_all.Given as goal

abbrev pub invariant-pieces : goal.invariant-pieces
invariant-pieces g l = record {
  keeps : ReadsOn (g.S.Shelf.view l.fn.shelf) (g.S.Shelf.view l.shelf) l.fn.slot;
  same : (g.S.Shelf.view l.shelf).faults_in ≡ (g.S.Shelf.view l.fn.shelf).faults_in;
  short : length l.bytes.items ≤ 2 ^ 28;
  given : IsTrue (g.S.Shelf.view l.fn.shelf).tells → left_at (g.S.Shelf.view l.fn.shelf) l.fn.slot ≡ l.bytes.items ++ left_at (g.S.Shelf.view l.shelf) l.fn.slot;
  name : IsTrue (g.S.Shelf.view l.fn.shelf).tells → ((g.S.Shelf.view l.shelf).place l.fn.slot).name ≡ ((g.S.Shelf.view l.fn.shelf).place l.fn.slot).name;
  moved : IsTrue (g.S.Shelf.view l.fn.shelf).tells → ((g.S.Shelf.view l.shelf).place l.fn.slot).at ≡ ((g.S.Shelf.view l.fn.shelf).place l.fn.slot).at + length l.bytes.items;
}

abbrev pub decreases-pieces : goal.decreases-pieces
decreases-pieces g l = 2 ^ 28 - length l.bytes.items
