use Rattle.std.proofs.Common.{subst, rules}
use Rattle.std.specs.Prelude.{Contains}
use Rattle.wheel_types.proofs.OneStep.{legal_step_once}
use Rattle.plain_motion.specs.Sets.{wheel_of}
use Rattle.certificate_checker.proofs.steps.holds_step.Goals as goal

pub returns-in-Some : goal.returns-in-Some
returns-in-Some c = λ past verdicts s.
    let l = c.in-Some.ensures past verdicts s in (
      λ t q k. subst (Contains c.args.cover.now) (legal_step_once (wheel_of c.args.set.now) s.kept.window c.args.from c.args.instant.now c.in-Some.end q l k) (c.has_place.ensures.0 t),
      λ h. c.has_place.ensures.1 (h c.in-Some.end l),
    )

pub returns-in-None : goal.returns-in-None
returns-in-None c = λ past verdicts s. (λ t q k. absurd (c.in-None.ensures past verdicts s q k), λ h. search rules)
