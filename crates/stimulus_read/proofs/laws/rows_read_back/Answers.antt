use Rattle.stimulus_read.proofs.RowsRead as lemmas
use Rattle.stimulus_read.proofs.laws.rows_read_back.Goals as goal

pub returns : goal.returns
returns c = lemmas.row_reads
