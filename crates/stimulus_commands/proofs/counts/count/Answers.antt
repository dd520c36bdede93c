use Rattle.stimulus_commands.proofs.Counting.{one_more_at}
use Rattle.stimulus_commands.proofs.counts.count.Goals as goal

pub returns-in-At : goal.returns-in-At
returns-in-At c = λ vs is. rw (c.in-At.is) (one_more_at vs _ _ c.args.counts c.first_of.result is c.first_of.ensures.none c.first_of.ensures.some)
