use Rattle.stimulus.proofs.Beginnings as lemmas
use Rattle.stimulus.proofs.laws.first_is_least.Goals as goal

pub returns : goal.returns
returns c = lemmas.first_is_least
