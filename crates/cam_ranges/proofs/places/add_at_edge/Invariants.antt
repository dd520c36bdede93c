use Rattle.std.proofs.Common.{◌≤◌, ◌≤ℤ◌, length}
use Rattle.cam_ranges.specs.Gathered.{AreExactly, IsBeforeSecond}
use Rattle.cam_ranges.proofs.places.add_at_edge.Given as goal

abbrev pub invariant-loop-n2 : goal.invariant-loop-n2
invariant-loop-n2 l = record {
  from : l.initial.n2 ≤ℤ l.n2;
  gathered : AreExactly (IsBeforeSecond l.wheel.parts l.j l.n1 l.n2) l.places.items;
  few : length l.places.items ≤ 16384;
}
