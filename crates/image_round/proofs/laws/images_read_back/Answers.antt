use Rattle.image_round.proofs.Back as lemmas
use Rattle.image_round.proofs.laws.images_read_back.Goals as goal

pub returns : goal.returns
returns c = lemmas.reads_back
