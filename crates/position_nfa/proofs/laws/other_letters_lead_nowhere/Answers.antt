use Rattle.position_nfa.proofs.SingleSteps.{other_letters_lead_nowhere}
use Rattle.position_nfa.proofs.laws.other_letters_lead_nowhere.Goals as goal

pub returns : goal.returns
returns c = other_letters_lead_nowhere
