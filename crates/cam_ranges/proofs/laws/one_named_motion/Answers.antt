use Rattle.cam_ranges.proofs.NamedOnce.{names_one_rising}
use Rattle.cam_ranges.proofs.laws.one_named_motion.Goals as goal

pub returns : goal.returns
returns c = names_one_rising
