use Rattle.std.proofs.Common.{◌-◌, ◌≤◌, length}
use Rattle.cam_ranges.proofs.OrderedLists.{AreBetween}
use Rattle.certificate_checker.proofs.lines.has_place.Given as goal

abbrev pub invariant-loop-low : goal.invariant-loop-low
invariant-loop-low l = record {
  within : l.high ≤ length l.places;
  between : AreBetween l.places l.place l.low l.high;
}

abbrev pub decreases-loop-low : goal.decreases-loop-low
decreases-loop-low l = l.high - l.low
