use Rattle.stimulus.proofs.Existing as lemmas
use Rattle.stimulus.proofs.laws.stimuli_exist.Goals as goal

pub returns : goal.returns
returns c = lemmas.stimuli_exist
