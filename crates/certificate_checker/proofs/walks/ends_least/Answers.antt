use Rattle.std.proofs.Common.{◌∷◌, ◌∙◌, sym}
use Rattle.std.proofs.lemmas.Bool.{false≢true}
use Rattle.plain_motion.specs.Sets.{wheel_of}
use Rattle.certificate_checker.proofs.InstantRules.{ends_found}
use Rattle.certificate_checker.proofs.walks.ends_least.Goals as goal

pub returns-in_default : goal.returns-in_default
returns-in_default c = λ past verdicts s i before t. (λ x. absurd (false≢true x), λ h. absurd (c.in_default.ensures past verdicts s i before t h.first h.walks))

pub returns-in_default-end_of : goal.returns-in_default-end_of
returns-in_default-end_of c = λ past verdicts s i before t. (λ x. absurd (false≢true x), λ h. absurd (c.in_default-end_of.ensures past verdicts s i before t h.second h.others))

pub returns-then-is_first : goal.returns-then-is_first
returns-then-is_first c = λ past verdicts s i before t.
    let f = ends_found (wheel_of c.args.set.now) (i ∷ before) s.kept.window c.args.verdict c.args.a c.args.b c.in-Some.first c.in-Some-end_of.second c.args.cover.now c.is_least-is_first.result c.is_least-is_next.result c.requires.crank t (c.in-Some.ensures past verdicts s i before t) (c.in-Some-end_of.ensures past verdicts s i before t) c.is_least-is_first.ensures c.is_least-is_next.ensures in
    (λ x. f.0 c.if-is_first.true x, λ h. (f.1 h).1)

pub returns-else-is_first : goal.returns-else-is_first
returns-else-is_first c = λ past verdicts s i before t.
    let f = ends_found (wheel_of c.args.set.now) (i ∷ before) s.kept.window c.args.verdict c.args.a c.args.b c.in-Some.first c.in-Some-end_of.second c.args.cover.now c.is_least-is_first.result c.is_least-is_next.result c.requires.crank t (c.in-Some.ensures past verdicts s i before t) (c.in-Some-end_of.ensures past verdicts s i before t) c.is_least-is_first.ensures c.is_least-is_next.ensures in
    (λ x. absurd (false≢true (sym c.if-is_first.false ∙ x)), λ h. (f.1 h).0)
