use Rattle.wheel_pattern.proofs.FirstKeysTold.{first_keys-told}
use Rattle.wheel_pattern.proofs.laws.first_keys_are_told.Goals as goal

pub returns : goal.returns
returns c = first_keys-told
