use Rattle.wheel_types.proofs.StartsAndEnds.{start_once, end_once, start_determined}
use Rattle.plain_motion.proofs.laws.start_and_end.Goals as goal

pub returns : goal.returns
returns c w past some = (λ a b e l m. start_once w past a b e some l m, λ a e f l m. end_once w past a e f some l m, λ a e l. start_determined w past a e some l)
