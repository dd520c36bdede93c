use Rattle.stimulus_read.proofs.SecondsRead as lemmas
use Rattle.stimulus_read.proofs.laws.times_read_back.Goals as goal

pub returns : goal.returns
returns c = lemmas.time_reads_back
