use Rattle.std.proofs.Common.{◌≡◌, ◌+◌, List, ◌∷◌, [], ◌++◌, take, take_all, get_or, refl, sym, subst}
use Rattle.wheel_types.specs.declared.place.Place.{Place}
use Rattle.plain_motion.specs.declared.window.Walk.{Walk}
use Rattle.plain_motion.proofs.LeastPlaces.{take_one}
use Rattle.plain_motion.proofs.Images.{AreImages, nowhere, images_start, images_some}
use Rattle.plain_motion.proofs.EndLists.{EndsWalk, ends_in}
use Rattle.plain_motion.proofs.ends.all_ends.Goals as goal

pub loop-walk-init : goal.loop-walk-init
loop-walk-init c = subst (AreImages EndsWalk []) (sym c.in_ok-ends.ensures.items) (images_start EndsWalk)

pub loop-walk-preserved : goal.loop-walk-preserved
loop-walk-preserved c =
    let walks = c.args.walks.now in
    let at = c.loop-walk.walk-index in
    let walk = get_or walks at nowhere in
    let next = sym (take_one walks at nowhere c.loop-walk-test.true) in
    let more = images_some EndsWalk (take at walks) c.loop-walk.ends.items walk walk.end c.loop-walk.invariant refl (λ v h. h) in
    subst (λ (ps : List Place). AreImages EndsWalk (take (at + 1) walks) ps) (sym c.in_ok-push.ensures.items) (subst (λ (vs : List Walk). AreImages EndsWalk vs (c.loop-walk.ends.items ++ walk.end ∷ [])) next more)

pub returns : goal.returns
returns c =
    let walks = c.args.walks.now in
    let all : take c.loop-walk.walk-index walks ≡ walks = take_all c.loop-walk.walk-index walks c.loop-walk-test.false in
    ends_in walks c.loop-walk.ends.items (subst (λ (vs : List Walk). AreImages EndsWalk vs c.loop-walk.ends.items) all c.loop-walk.invariant)
