use Rattle.image_round.proofs.Laid as lemmas
use Rattle.image_round.proofs.laws.kept_parts_are_images.Goals as goal

pub returns : goal.returns
returns c = lemmas.kept
