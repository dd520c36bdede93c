use Rattle.std.proofs.Common.{rules}
use Rattle.std.proofs.lemmas.Bool.{false≢true}
use Rattle.certificate_checker.proofs.steps.steps.Goals as goal

pub returns-in-Some : goal.returns-in-Some
returns-in-Some c = λ past verdicts s. (λ t. (_, c.in-Some.ensures past verdicts s), λ h. search rules)

pub returns-in-None : goal.returns-in-None
returns-in-None c = λ past verdicts s. (λ t. absurd (false≢true t), λ h. absurd (c.in-None.ensures past verdicts s h.0 h.1))
