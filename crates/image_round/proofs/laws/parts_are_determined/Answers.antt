use Rattle.image_round.proofs.Determined as lemmas
use Rattle.image_round.proofs.laws.parts_are_determined.Goals as goal

pub returns : goal.returns
returns c = lemmas.determined
