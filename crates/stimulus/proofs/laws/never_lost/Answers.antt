use Rattle.stimulus.proofs.Unlost as lemmas
use Rattle.stimulus.proofs.laws.never_lost.Goals as goal

pub returns : goal.returns
returns c = lemmas.never_lost
