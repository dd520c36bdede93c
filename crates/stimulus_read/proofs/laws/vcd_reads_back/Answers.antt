use Rattle.stimulus_read.proofs.FilesBack as lemmas
use Rattle.stimulus_read.proofs.laws.vcd_reads_back.Goals as goal

pub returns : goal.returns
returns c = lemmas.vcd_reads_back
