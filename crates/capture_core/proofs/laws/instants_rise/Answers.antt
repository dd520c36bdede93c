use Rattle.capture_core.proofs.RisingInstants.{capture-rises}
use Rattle.capture_core.proofs.laws.instants_rise.Goals as goal

pub returns : goal.returns
returns c = capture-rises
