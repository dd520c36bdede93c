use Rattle.std.proofs.Common.{arith}
use Rattle.stimulus.specs.Draws.{two_words, after_draw}
use Rattle.stimulus.proofs.draws.draw_part.Goals as goal

pub returns-clause-value : goal.returns-clause-value
unfolding two_words
returns-clause-value c = grind arith

pub returns-clause-after : goal.returns-clause-after
unfolding after_draw
returns-clause-after c = grind arith
