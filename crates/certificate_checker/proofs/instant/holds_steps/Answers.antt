use Rattle.plain_motion.specs.Sets.{wheel_of}
use Rattle.certificate_checker.proofs.InstantRules.{all_steps, no_steps}
use Rattle.certificate_checker.proofs.instant.holds_steps.Goals as goal

pub returns-in-Lost : goal.returns-in-Lost
returns-in-Lost c = λ past verdicts s reached a. no_steps (wheel_of c.args.set.now) s.kept.window reached c.args.from.now c.args.instant.now c.args.verdict c.args.cover.now c.has_step.result c.in-Lost.is a (c.has_step.ensures past verdicts s)

pub returns-in_default : goal.returns-in_default
returns-in_default c = λ past verdicts s reached a. all_steps (wheel_of c.args.set.now) s.kept.window reached c.args.from.now c.args.instant.now c.args.verdict c.args.cover.now c.holds_all.result c.in_default.not-Lost a (c.holds_all.ensures past verdicts s)
