use Rattle.sound_walk.proofs.Tables.{has_alphabet}
use Rattle.sound_walk.proofs.laws.classes_are_the_wheels.Goals as goal

pub returns : goal.returns
returns c = has_alphabet
