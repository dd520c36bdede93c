use Rattle.wheel_types.proofs.OneStep.{legal_step_once}
use Rattle.position_nfa.proofs.laws.legal_steps_are_one.Goals as goal

pub returns : goal.returns
returns c = legal_step_once
