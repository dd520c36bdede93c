use Rattle.wheel_types.proofs.Determined.{verdicts_determined}
use Rattle.plain_motion.proofs.laws.verdicts_are_one.Goals as goal

pub returns : goal.returns
returns c = verdicts_determined
