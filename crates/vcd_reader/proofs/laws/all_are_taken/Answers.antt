use Rattle.vcd_reader.proofs.MoreBytes.{all_are_taken as all_taken}
use Rattle.vcd_reader.proofs.laws.all_are_taken.Goals as goal

pub returns : goal.returns
returns c = all_taken
