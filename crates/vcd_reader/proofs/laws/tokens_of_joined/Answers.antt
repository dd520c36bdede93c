use Rattle.vcd_reader.proofs.TokenOrder.{of_joined}
use Rattle.vcd_reader.proofs.laws.tokens_of_joined.Goals as goal

pub returns : goal.returns
returns c = of_joined
