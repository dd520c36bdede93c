use Rattle.stimulus_read.proofs.TablesBack as lemmas
use Rattle.stimulus_read.proofs.laws.tables_read_back.Goals as goal

pub returns : goal.returns
returns c = lemmas.table_back
