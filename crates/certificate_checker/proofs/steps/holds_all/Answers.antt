use Rattle.std.proofs.Common.{◌≡◌, List, take, take_all, sym, ◌∙◌, subst, rules}
use Rattle.std.proofs.lemmas.Bool.{false≢true}
use Rattle.wheel_types.specs.declared.place.Place.{Place}
use Rattle.plain_motion.specs.Sets.{wheel_of}
use Rattle.plain_motion.proofs.Images.{somewhere}
use Rattle.certificate_checker.specs.Checking.{HoldsAll}
use Rattle.certificate_checker.proofs.FirstSteps.{holds_more, step_there}
use Rattle.certificate_checker.proofs.steps.holds_all.Goals as goal

pub returns-then-not-holds_step : goal.returns-then-not-holds_step
returns-then-not-holds_step c = λ past verdicts s. (
  λ t. absurd (false≢true t),
  λ h. sym c.if-not-holds_step.true ∙ (c.holds_step.ensures past verdicts s).1 (λ q k. h q (step_there (wheel_of c.args.set.now) s.kept.window c.args.from.now c.loop-place.place-index somewhere c.args.instant.now q c.loop-place-test.true k)),
)

pub loop-place-preserved : goal.loop-place-preserved
loop-place-preserved c = λ past verdicts s.
    holds_more (wheel_of c.args.set.now) s.kept.window c.args.from.now c.loop-place.place-index somewhere c.args.instant.now c.args.cover.now c.loop-place-test.true (c.loop-place.invariant past verdicts s) ((c.holds_step.ensures past verdicts s).0 c.if-not-holds_step.false)

pub returns : goal.returns
returns c = λ past verdicts s.
    let all : take c.loop-place.place-index c.args.from.now ≡ c.args.from.now = take_all c.loop-place.place-index c.args.from.now c.loop-place-test.false in (
      λ t. subst (λ (l : List Place). HoldsAll (wheel_of c.args.set.now) s.kept.window l c.args.instant.now c.args.cover.now) all (c.loop-place.invariant past verdicts s),
      λ h. search rules,
    )
