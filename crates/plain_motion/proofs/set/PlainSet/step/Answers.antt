use Rattle.legal_steps.proofs.KeptGaps.{small_same}
use Rattle.plain_motion.proofs.Remembered.{keeps_found}
use Rattle.plain_motion.proofs.EndLists.{kept_ends}
use Rattle.plain_motion.proofs.set.PlainSet.step.Goals as goal

pub returns-clause-stands : goal.returns-clause-stands
returns-clause-stands c = λ past verdicts s.
    let me = c.args.self.now in
    let w = me.motions.wheel.parts in
    let r = keeps_found w me.window c.in_ok-window.window me.last past verdicts c.args.instant.now _ c.in_ok-window.verdict (small_same c.args.instant.now.time c.requires.time) (c.in_ok-window.ensures.stands past verdicts s) in
    record { places = s.places; kept = r; ends = kept_ends w c.in_ok-window.window r.window c.in_ok-ends.ends r.kept c.in_ok-ends.ensures }
