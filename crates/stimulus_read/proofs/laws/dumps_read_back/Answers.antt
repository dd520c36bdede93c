use Rattle.stimulus_read.proofs.VcdBack as lemmas
use Rattle.stimulus_read.proofs.laws.dumps_read_back.Goals as goal

pub returns : goal.returns
returns c = lemmas.vcd_back
