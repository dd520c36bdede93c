use Rattle.std.proofs.Common.{◌≡◌, List, take, take_all, subst}
use Rattle.std.specs.Prelude.{Contains}
use Rattle.plain_motion.specs.declared.window.Walk.{Walk}
use Rattle.plain_motion.proofs.Images.{nowhere}
use Rattle.plain_motion.proofs.EndLists.{none_to_more}
use Rattle.plain_motion.proofs.InOrderEnds.{two_by_test}
use Rattle.plain_motion.proofs.ends.walk_to.Goals as goal

pub loop-walk-preserved : goal.loop-walk-preserved
loop-walk-preserved c = none_to_more c.args.walks.now c.loop-walk.walk-index nowhere c.args.end c.loop-walk-test.true c.loop-walk.invariant (two_by_test _ _ c.eq.result c.eq.ensures c.if-eq.false)

pub returns : goal.returns
returns c =
    let walks = c.args.walks.now in
    let all : take c.loop-walk.walk-index walks ≡ walks = take_all c.loop-walk.walk-index walks c.loop-walk-test.false in
    subst (λ (l : List Walk). (v : Walk) → Contains l v → v.end ≡ c.args.end → ⊥) all c.loop-walk.invariant
