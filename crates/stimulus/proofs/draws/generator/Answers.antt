use Rattle.stimulus.specs.Draws.{generator_of}
use Rattle.stimulus.proofs.draws.generator.Goals as goal

pub returns : goal.returns
unfolding generator_of
returns c = c.new.ensures
