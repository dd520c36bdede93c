use Rattle.image_round.proofs.Accepted as lemmas
use Rattle.image_round.proofs.laws.accepted_images_are_written.Goals as goal

pub returns : goal.returns
returns c = lemmas.accepted
