use Rattle.sound_walk.proofs.Known.{known_kinds_say_ends}
use Rattle.sound_walk.proofs.Walks.{kinds_say_ends}
use Rattle.sound_walk.proofs.laws.kinds_say_ends.Goals as goal

pub returns-clause-says : goal.returns-clause-says
returns-clause-says c = kinds_say_ends

pub returns-clause-known : goal.returns-clause-known
returns-clause-known c = known_kinds_say_ends
