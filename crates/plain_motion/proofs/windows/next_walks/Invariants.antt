use Rattle.std.proofs.Common.{take}
use Rattle.legal_steps.specs.Times.{times_of}
use Rattle.cam_ranges.specs.Places.{IsAscending}
use Rattle.plain_motion.specs.Ends.{GoesOnTo, starts_of}
use Rattle.plain_motion.proofs.Images.{AreImages}
use Rattle.plain_motion.proofs.windows.next_walks.Given as goal

abbrev pub invariant-loop-walk : goal.invariant-loop-walk
invariant-loop-walk l = record {
  images : AreImages (GoesOnTo l.motions.wheel.parts (times_of l.times) l.instant) (take l.walk-index l.walks) l.next.items;
  ascend : IsAscending (starts_of l.walks) → IsAscending (starts_of l.next.items);
}
