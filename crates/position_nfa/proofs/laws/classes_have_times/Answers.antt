use Rattle.position_nfa.proofs.Witnesses.{time_classes_have_times, ratio_classes_have_times}
use Rattle.position_nfa.proofs.laws.classes_have_times.Goals as goal

pub returns-clause-times : goal.returns-clause-times
returns-clause-times c = time_classes_have_times

pub returns-clause-ratios : goal.returns-clause-ratios
returns-clause-ratios c = ratio_classes_have_times
