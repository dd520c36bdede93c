use Rattle.capture_core.proofs.InstantsAt.{begin-alike}
use Rattle.capture_core.proofs.laws.longer_begin_alike.Goals as goal

pub returns : goal.returns
returns c = begin-alike
