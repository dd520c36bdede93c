use Rattle.stimulus.proofs.OneOnly as lemmas
use Rattle.stimulus.proofs.laws.one_stimulus.Goals as goal

pub returns : goal.returns
returns c = lemmas.one_stimulus
