use Rattle.cam_ranges.proofs.SomePlace.{some_place}
use Rattle.cam_ranges.proofs.laws.wheels_have_places.Goals as goal

pub returns : goal.returns
returns c = some_place
