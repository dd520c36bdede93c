use Rattle.sound_walk.proofs.Walks.{states_hold_ends}
use Rattle.sound_walk.proofs.laws.states_hold_ends.Goals as goal

pub returns : goal.returns
returns c = states_hold_ends
