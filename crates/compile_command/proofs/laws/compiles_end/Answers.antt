use Rattle.compile_command.proofs.CompilesEnd as law
use Rattle.compile_command.proofs.laws.compiles_end.Goals as goal

pub returns : goal.returns
returns c = law.all_end
