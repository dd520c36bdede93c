use Rattle.std.proofs.Common.{rules}
use Rattle.std.proofs.lemmas.Bool.{false≢true}
use Rattle.certificate_checker.proofs.walks.is_start.Goals as goal

pub returns-in-Some : goal.returns-in-Some
returns-in-Some c = λ past verdicts s i before t. (λ x. (c.in-Some.field-0, c.in-Some.ensures past verdicts s i before t), λ h. search rules)

pub returns-in-None : goal.returns-in-None
returns-in-None c = λ past verdicts s i before t. (λ x. absurd (false≢true x), λ h. absurd (c.in-None.ensures past verdicts s i before t h.0 h.1))
