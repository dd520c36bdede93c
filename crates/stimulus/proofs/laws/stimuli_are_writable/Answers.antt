use Rattle.stimulus.proofs.WritableFiles as lemmas
use Rattle.stimulus.proofs.laws.stimuli_are_writable.Goals as goal

pub returns : goal.returns
returns c = lemmas.stimuli_are_writable
