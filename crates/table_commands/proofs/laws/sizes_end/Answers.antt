use Rattle.table_commands.proofs.SizesEnd as law
use Rattle.table_commands.proofs.laws.sizes_end.Goals as goal

pub returns : goal.returns
returns c = law.sizes_end
