use Rattle.image_commands.proofs.TracesEnd as law
use Rattle.image_commands.proofs.laws.traces_end.Goals as goal

pub returns : goal.returns
returns c = law.traces_end
