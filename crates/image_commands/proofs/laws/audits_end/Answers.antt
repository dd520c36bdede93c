use Rattle.image_commands.proofs.AuditsEnd as law
use Rattle.image_commands.proofs.laws.audits_end.Goals as goal

pub returns : goal.returns
returns c = law.audits_end
