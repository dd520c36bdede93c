use Rattle.wheel_types.proofs.Determined.{verdict_determined}
use Rattle.plain_motion.proofs.laws.one_verdict.Goals as goal

pub returns : goal.returns
returns c = verdict_determined
