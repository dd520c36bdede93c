use Rattle.stimulus_read.proofs.FilesBack as lemmas
use Rattle.stimulus_read.proofs.laws.csv_reads_back.Goals as goal

pub returns : goal.returns
returns c = lemmas.csv_reads_back
