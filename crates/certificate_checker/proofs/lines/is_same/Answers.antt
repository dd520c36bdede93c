use Rattle.std.proofs.Common.{◌∙◌, sym}
use Rattle.plain_motion.proofs.InOrderEnds.{same_by_test, two_by_test}
use Rattle.certificate_checker.proofs.InstantRules.{true_unless}
use Rattle.certificate_checker.proofs.lines.is_same.Goals as goal

pub returns : goal.returns
returns c = (λ t. same_by_test _ _ (sym c.eq.ensures ∙ t), λ e. true_unless c.eq.result (λ f. two_by_test _ _ c.eq.result c.eq.ensures f e))
