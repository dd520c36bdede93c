use Rattle.cam_ranges.proofs.AngledWalks.{angles_of_walk}
use Rattle.cam_ranges.proofs.laws.angle_law.Goals as goal

pub returns : goal.returns
returns c = angles_of_walk
