use Rattle.replay_core.proofs.Whole as whole
use Rattle.replay_core.proofs.laws.sound_lines_are_whole.Goals as goal

pub returns : goal.returns
returns c = whole.sound_lines_are_whole
