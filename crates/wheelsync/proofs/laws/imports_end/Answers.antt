use Rattle.wheelsync.proofs.HowItEnds as law
use Rattle.wheelsync.proofs.laws.imports_end.Goals as goal

pub returns : goal.returns
returns c = law.imports_end
