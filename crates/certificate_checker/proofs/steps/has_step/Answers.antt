use Rattle.std.proofs.Common.{◌≡◌, List, take, take_all, sym, ◌∙◌, subst, rules}
use Rattle.std.proofs.lemmas.Bool.{false≢true}
use Rattle.wheel_types.specs.declared.place.Place.{Place}
use Rattle.plain_motion.specs.Sets.{wheel_of}
use Rattle.plain_motion.proofs.Images.{somewhere}
use Rattle.certificate_checker.specs.Checking.{HasStep}
use Rattle.certificate_checker.proofs.FirstSteps.{none_more, step_there}
use Rattle.certificate_checker.proofs.steps.has_step.Goals as goal

pub returns-then-steps : goal.returns-then-steps
returns-then-steps c = λ past verdicts s. (
  λ t. let l = (c.steps.ensures past verdicts s).0 c.if-steps.true in (l.0, step_there (wheel_of c.args.set.now) s.kept.window c.args.from.now c.loop-place.place-index somewhere c.args.instant.now l.0 c.loop-place-test.true l.1),
  λ h. search rules,
)

pub loop-place-preserved : goal.loop-place-preserved
loop-place-preserved c = λ past verdicts s.
    none_more (wheel_of c.args.set.now) s.kept.window c.args.from.now c.loop-place.place-index somewhere c.args.instant.now c.loop-place-test.true (c.loop-place.invariant past verdicts s) (λ q k. false≢true (sym c.if-steps.false ∙ (c.steps.ensures past verdicts s).1 (q, k)))

pub returns : goal.returns
returns c = λ past verdicts s.
    let all : take c.loop-place.place-index c.args.from.now ≡ c.args.from.now = take_all c.loop-place.place-index c.args.from.now c.loop-place-test.false in (
      λ t. absurd (false≢true t),
      λ h. absurd (c.loop-place.invariant past verdicts s (subst (λ (l : List Place). HasStep (wheel_of c.args.set.now) s.kept.window l c.args.instant.now) (sym all) h)),
    )
