use Rattle.std.specs.Prelude.{reverse}
use Rattle.wheel_types.proofs.RisingTimes.{rises_to-reverse}
use Rattle.plain_motion.proofs.Existing.{verdicts_exist}
use Rattle.plain_motion.proofs.laws.verdicts_exist.Goals as goal

pub returns : goal.returns
returns c w is wheel rising = let r = verdicts_exist w wheel (reverse is) (rises_to-reverse is rising) in (r.verdicts, (r.window, r.are))
