use Rattle.std.proofs.Common.{◌∷◌, ◌↔◌, IsTrue, ◌∙◌, sym, subst}
use Rattle.std.proofs.lemmas.Bool.{false≢true}
use Rattle.pair_certificate.specs.declared.line.CertKind.{CertKind}
use Rattle.plain_motion.specs.Sets.{wheel_of}
use Rattle.certificate_checker.specs.Rules.{HoldsStarts}
use Rattle.certificate_checker.proofs.walks.holds_starts.Goals as goal

pub returns-in-At : goal.returns-in-At
returns-in-At c = λ past verdicts s i before t. subst (λ (k : CertKind). IsTrue c.is_start.result ↔ HoldsStarts (wheel_of c.args.set.now) (i ∷ before) k) (sym c.in-At.is) (c.is_start.ensures past verdicts s i before t)

pub returns-then-is_start : goal.returns-then-is_start
returns-then-is_start c = λ past verdicts s i before t.
    let a = c.is_start-in-Open.ensures past verdicts s i before t in
    let b = c.is_start-then-is_start.ensures past verdicts s i before t in
    subst (λ (k : CertKind). IsTrue c.is_start-then-is_start.result ↔ HoldsStarts (wheel_of c.args.set.now) (i ∷ before) k) (sym c.in-Open.is) (λ x. (a.0 c.if-is_start.true, b.0 x), λ h. b.1 h.1)

pub returns-else-is_start : goal.returns-else-is_start
returns-else-is_start c = λ past verdicts s i before t.
    let a = c.is_start-in-Open.ensures past verdicts s i before t in
    subst (λ (k : CertKind). IsTrue c.is_start-in-Open.result ↔ HoldsStarts (wheel_of c.args.set.now) (i ∷ before) k) (sym c.in-Open.is) (λ x. absurd (false≢true (sym c.if-is_start.false ∙ x)), λ h. a.1 h.0)
