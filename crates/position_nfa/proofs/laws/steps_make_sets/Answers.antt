use Rattle.position_nfa.proofs.SingleSteps.{steps_make_sets}
use Rattle.position_nfa.proofs.laws.steps_make_sets.Goals as goal

pub returns : goal.returns
returns c = steps_make_sets
