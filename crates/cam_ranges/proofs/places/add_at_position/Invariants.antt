use Rattle.std.proofs.Common.{◌≤◌, ◌≤ℤ◌, length}
use Rattle.cam_ranges.specs.Gathered.{AreExactly, IsBeforeFirst}
use Rattle.cam_ranges.proofs.places.add_at_position.Given as goal

abbrev pub invariant-loop-n1 : goal.invariant-loop-n1
invariant-loop-n1 l = record {
  from : l.initial.n1 ≤ℤ l.n1;
  gathered : AreExactly (IsBeforeFirst l.wheel.parts l.j l.n1) l.places.items;
  few : length l.places.items ≤ 16384;
}
