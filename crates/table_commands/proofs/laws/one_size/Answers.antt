use Rattle.table_commands.proofs.OneSize as law
use Rattle.table_commands.proofs.laws.one_size.Goals as goal

pub returns : goal.returns
returns c = law.one_size
