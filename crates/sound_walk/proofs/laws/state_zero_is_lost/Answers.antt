use Rattle.sound_walk.proofs.Walks.{state_zero_is_lost}
use Rattle.sound_walk.proofs.laws.state_zero_is_lost.Goals as goal

pub returns : goal.returns
returns c = state_zero_is_lost
