use Rattle.std.proofs.Common.{List, ◌∷◌, take, ℤ, refl, ◌∙◌, ap, subst, arith}
use Rattle.plain_motion.specs.declared.window.Walk.{Walk}
use Rattle.legal_steps.specs.Times.{times_of}
use Rattle.cam_ranges.specs.Places.{IsAscending}
use Rattle.plain_motion.specs.Ends.{GoesOnTo, starts_of}
use Rattle.plain_motion.proofs.Images.{AreImages}
use Rattle.legal_steps.proofs.KeptGaps.{small_same}
use Rattle.plain_motion.proofs.KeptWindows.{keeps_more, times_more, times_same}
use Rattle.plain_motion.proofs.window.Window.after.Goals as goal
use Rattle.plain_motion.proofs.window.Window.after.Goals.{in-Some, in-None}

pub returns-clause-keeps : goal.returns-clause-keeps
returns-clause-keeps c = λ past early k.
    let w = c.args.motions.now.wheel.parts in
    let s = c.args.self.now in
    let i = c.args.instant.now in
    let steps = subst (λ (vs : List Walk). AreImages (GoesOnTo w (times_of s.times) i) vs c.in_ok-walks.walks) c.as_slice.ensures c.in_ok-walks.ensures.steps in
    let ascend = subst (λ (vs : List Walk). IsAscending (starts_of vs) → IsAscending (starts_of c.in_ok-walks.walks)) c.as_slice.ensures c.in_ok-walks.ensures.ascend in
    elim c.match-instant.branch [
      | in-Some v ↦
          let times = ap times_of v.times-is ∙ v.and-times.ensures.times ∙ ap (λ (t : ℤ). take 2 (t ∷ times_of s.times)) (small_same i.time c.requires.time) in
          keeps_more w s _ i past (omega (arith, c.args.motions.now.wheel.valid.crank_edge)) steps ascend refl (times_more s _ i past _ v.in-Some.is times k.times) early k
      | in-None v ↦ keeps_more w s _ i past (omega (arith, c.args.motions.now.wheel.valid.crank_edge)) steps ascend refl (times_same s _ i past v.in-None.is (ap times_of v.times-is) k.times) early k
    ]
