use Rattle.stimulus.proofs.Alternating as lemmas
use Rattle.stimulus.proofs.laws.polarities_alternate.Goals as goal

pub returns : goal.returns
returns c = lemmas.alternate
