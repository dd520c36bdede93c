use Rattle.std.proofs.Common.{◌-◌, ◌≤◌, length}
use Rattle.cam_ranges.specs.Places.{IsAscending}
use Rattle.cam_ranges.proofs.OrderedLists.{AreBetween}
use Rattle.plain_motion.specs.Ends.{starts_of}
use Rattle.plain_motion.proofs.ends.walk_from.Given as goal

abbrev pub invariant-loop-low : goal.invariant-loop-low
invariant-loop-low l = record {
  within : l.high ≤ length l.walks;
  between : IsAscending (starts_of l.walks) → AreBetween (starts_of l.walks) l.start l.low l.high;
}

abbrev pub decreases-loop-low : goal.decreases-loop-low
decreases-loop-low l = l.high - l.low
