use Rattle.std.proofs.Common.{take}
use Rattle.plain_motion.proofs.EndLists.{EndsWalk}
use Rattle.plain_motion.proofs.Images.{AreImages}
use Rattle.plain_motion.proofs.ends.all_ends.Given as goal

abbrev pub invariant-loop-walk : goal.invariant-loop-walk
invariant-loop-walk l = AreImages EndsWalk (take l.walk-index l.walks) l.ends.items
