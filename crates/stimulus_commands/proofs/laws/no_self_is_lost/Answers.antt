use Rattle.stimulus_commands.proofs.Unlost as law
use Rattle.stimulus_commands.proofs.laws.no_self_is_lost.Goals as goal

pub returns : goal.returns
returns c = law.no_self_is_lost
