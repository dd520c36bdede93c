use Rattle.certificate_checker.proofs.OneAnswer.{answer_yes}
use Rattle.certificate_checker.proofs.laws.valid_is_answered_yes.Goals as goal

pub returns : goal.returns
returns c = answer_yes
