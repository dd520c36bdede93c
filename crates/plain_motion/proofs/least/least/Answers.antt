use Rattle.std.proofs.Common.{List, ◌∷◌, [], ◌++◌, take, get_or, sym, subst}
use Rattle.std.specs.Prelude.{Option}
use Rattle.plain_motion.specs.declared.window.Walk.{Walk}
use Rattle.plain_motion.specs.Ends.{IsLeastBut}
use Rattle.plain_motion.proofs.Images.{nowhere}
use Rattle.plain_motion.proofs.LeastPlaces.{least_skip, least_more, other_by, not_other, take_one}
use Rattle.plain_motion.proofs.least.least.Goals as goal
use Rattle.plain_motion.proofs.least.least.Goals.{then-ne, else-ne}

pub loop-walk-preserved : goal.loop-walk-preserved
loop-walk-preserved c =
    let walks = c.args.walks.now in
    let at = c.loop-walk.walk-index in
    let k = c.args.position in
    let walk = get_or walks at nowhere in
    let next = sym (take_one walks at nowhere c.loop-walk-test.true) in
    let upto = take at walks ++ walk ∷ [] in
    elim c.if-ne.branch [
      | then-ne w ↦
          let other = other_by k walk.end.j c.ne.result c.ne.ensures w.if-ne.true in
          let more = least_more (take at walks) k c.loop-walk.least walk w.lesser.result c.loop-walk.invariant other w.lesser.ensures.one w.lesser.ensures.first w.lesser.ensures.second in
          subst (λ (ps : List Walk). IsLeastBut ps k c.if-ne.least) next (subst (λ (o : Option Walk). IsLeastBut upto k o) (sym w.least-is) more)
      | else-ne w ↦
          let skip = least_skip (take at walks) k c.loop-walk.least walk c.loop-walk.invariant (not_other k walk.end.j c.ne.result c.ne.ensures w.if-ne.false) in
          subst (λ (ps : List Walk). IsLeastBut ps k c.if-ne.least) next (subst (λ (o : Option Walk). IsLeastBut upto k o) (sym w.least-is) skip)
    ]
