use Rattle.plain_motion.proofs.DeterminedWindows.{window_determined}
use Rattle.plain_motion.proofs.laws.one_window.Goals as goal

pub returns : goal.returns
returns c = window_determined
