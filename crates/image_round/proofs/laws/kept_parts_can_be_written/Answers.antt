use Rattle.image_round.proofs.Laid as lemmas
use Rattle.image_round.proofs.laws.kept_parts_can_be_written.Goals as goal

pub returns : goal.returns
returns c = lemmas.writable
