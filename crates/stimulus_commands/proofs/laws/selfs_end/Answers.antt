use Rattle.stimulus_commands.proofs.SelfsEnd as law
use Rattle.stimulus_commands.proofs.laws.selfs_end.Goals as goal

pub returns : goal.returns
returns c = law.selfs_end
