use Rattle.std.proofs.Common.{◌∷◌, ◌↔◌, IsTrue, sym, subst}
use Rattle.wheel_types.specs.declared.verdict.Verdict.{Verdict}
use Rattle.pair_certificate.specs.declared.line.CertKind.{CertKind}
use Rattle.pair_certificate.specs.declared.line.CertKind.TheVariants as kind
use Rattle.plain_motion.specs.Sets.{wheel_of}
use Rattle.certificate_checker.specs.Rules.{HoldsLeastEnds}
use Rattle.certificate_checker.proofs.walks.holds_least_ends.Goals as goal

pub returns-then-is_named : goal.returns-then-is_named
returns-then-is_named c = λ past verdicts s i before t.
    let w = wheel_of c.args.set.now in
    let o = c.in-Open-Open in
    let named = c.are_same-is_named.ensures.0 c.if-is_named.true in
    let ends = c.ends_least-is_least.ensures past verdicts s i before t in
    subst (λ (k : CertKind). IsTrue c.ends_least-is_least.result ↔ HoldsLeastEnds w (i ∷ before) c.args.reported k c.args.cover.now) (sym o.is-1)
    (subst (λ (v : Verdict). IsTrue c.ends_least-is_least.result ↔ HoldsLeastEnds w (i ∷ before) v (kind.Open o.a o.b) c.args.cover.now) (sym o.is-0)
    (λ x. (named.0, (named.1, ends.0 x)), λ h. ends.1 h.1.1))
