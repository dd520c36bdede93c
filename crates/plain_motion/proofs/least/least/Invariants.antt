use Rattle.std.proofs.Common.{take}
use Rattle.plain_motion.specs.Ends.{IsLeastBut}
use Rattle.plain_motion.proofs.least.least.Given as goal

abbrev pub invariant-loop-walk : goal.invariant-loop-walk
invariant-loop-walk l = IsLeastBut (take l.walk-index l.walks) l.position l.least
