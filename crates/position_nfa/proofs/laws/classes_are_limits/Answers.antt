use Rattle.position_nfa.proofs.Legal.{time_classes_are_limits, ratio_classes_are_limits}
use Rattle.position_nfa.proofs.laws.classes_are_limits.Goals as goal

pub returns-clause-times : goal.returns-clause-times
returns-clause-times c = time_classes_are_limits

pub returns-clause-ratios : goal.returns-clause-ratios
returns-clause-ratios c = ratio_classes_are_limits
