use Rattle.sound_walk.proofs.Walks.{letters_are_the_wheels}
use Rattle.sound_walk.proofs.laws.letters_are_the_wheels.Goals as goal

pub returns : goal.returns
returns c = letters_are_the_wheels
