use Rattle.std.proofs.Common.{◌≤◌, length}
use Rattle.cam_ranges.specs.Gathered.{AreExactly, IsBeforePosition}
use Rattle.cam_ranges.proofs.places.all_places.Given as goal

abbrev pub invariant-loop-j : goal.invariant-loop-j
invariant-loop-j l = record {
  gathered : AreExactly (IsBeforePosition l.wheel.parts l.j) l.places.items;
  few : length l.places.items ≤ 16384;
}
