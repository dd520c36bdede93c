use Rattle.legal_steps.proofs.TimedSteps.{found_legal}
use Rattle.plain_motion.proofs.set.PlainSet.legal.Goals as goal

pub returns : goal.returns
returns c = λ past verdicts set. found_legal c.args.self.now.motions.wheel.parts set.kept.window _ c.args.from c.args.instant.now c.legal.result c.requires.place set.kept.kept.times c.legal.ensures.step
