use Rattle.capture_core.proofs.InstantsAt.{are-changes}
use Rattle.capture_core.proofs.laws.instants_are_changes.Goals as goal

pub returns : goal.returns
returns c = are-changes
