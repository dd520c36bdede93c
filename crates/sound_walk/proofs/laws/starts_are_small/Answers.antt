use Rattle.sound_walk.proofs.Walks.{starts_are_small}
use Rattle.sound_walk.proofs.laws.starts_are_small.Goals as goal

pub returns : goal.returns
returns c = starts_are_small
