use Rattle.sound_walk.proofs.Tables.{sound_over, kept_short}
use Rattle.sound_walk.proofs.laws.long_gaps_keep_no_limit.Goals as goal

pub returns : goal.returns
returns c b s t sound = let over = sound_over b sound in kept_short b over.0 over.1 s t
