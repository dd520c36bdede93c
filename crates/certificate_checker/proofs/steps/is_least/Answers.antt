use Rattle.std.proofs.Common.{◌≡◌, List, take, take_all, sym, subst, rules}
use Rattle.std.specs.Prelude.{Contains}
use Rattle.wheel_types.specs.declared.place.Place.{Place}
use Rattle.plain_motion.proofs.Images.{somewhere}
use Rattle.certificate_checker.proofs.FirstSteps.{least_more}
use Rattle.certificate_checker.proofs.steps.is_least.Goals as goal

pub loop-other-preserved : goal.loop-other-preserved
loop-other-preserved c = least_more c.args.cover.now c.loop-other.other-index somewhere c.args.place c.args.but c.loop-other-test.true c.loop-other.invariant (c.leaves_least.ensures.0 c.if-not-leaves_least.false)

pub returns : goal.returns
returns c =
    let all : take c.loop-other.other-index c.args.cover.now ≡ c.args.cover.now = take_all c.loop-other.other-index c.args.cover.now c.loop-other-test.false in (
      λ t. record {
        holds = (c.has_place.ensures.0 c.if-not-has_place.false, c.is_other.ensures.0 c.if-not-is_other.false);
        least = λ q h. c.loop-other.invariant q (subst (λ (m : List Place). Contains m q) (sym all) h.0) h.1;
      },
      λ h. search rules,
    )
