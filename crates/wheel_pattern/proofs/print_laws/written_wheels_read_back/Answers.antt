use Rattle.wheel_pattern.proofs.PrintedReadBack.{reads-back}
use Rattle.wheel_pattern.proofs.print_laws.written_wheels_read_back.Goals as goal

pub returns : goal.returns
returns c = reads-back
