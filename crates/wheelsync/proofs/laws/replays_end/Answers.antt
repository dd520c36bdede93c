use Rattle.wheelsync.proofs.HowItEnds as law
use Rattle.wheelsync.proofs.laws.replays_end.Goals as goal

pub returns : goal.returns
returns c = law.replays_end
