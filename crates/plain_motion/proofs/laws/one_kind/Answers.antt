use Rattle.plain_motion.proofs.SameKinds.{one}
use Rattle.plain_motion.proofs.laws.one_kind.Goals as goal

pub returns : goal.returns
returns c = one
