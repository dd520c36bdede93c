use Rattle.motion_bounds.proofs.Between.{times_are_between}
use Rattle.motion_bounds.proofs.laws.times_are_between.Goals as goal

pub returns : goal.returns
returns c = times_are_between
