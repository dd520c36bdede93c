use Rattle.stimulus_commands.proofs.StimsEnd as law
use Rattle.stimulus_commands.proofs.laws.stims_end.Goals as goal

pub returns : goal.returns
returns c = law.stims_end
