use Rattle.std.proofs.Common.{◌≡◌, ◌+◌, List, ◌∷◌, [], ◌++◌, take, take_all, get_or, sym, subst, arith}
use Rattle.std.proofs.lemmas.Grind.{common_steps}
use Rattle.std.proofs.lemmas.List.Elements.{All-contains}
use Rattle.plain_motion.specs.declared.window.Walk.{Walk}
use Rattle.legal_steps.specs.Times.{times_of}
use Rattle.std.specs.Prelude.{Contains}
use Rattle.cam_ranges.specs.Places.{IsLess, IsAscending}
use Rattle.plain_motion.specs.Ends.{EndsOn, GoesOnTo, starts_of}
use Rattle.plain_motion.proofs.AscendingStarts.{starts_with, begins_before}
use Rattle.plain_motion.proofs.LeastPlaces.{take_one}
use Rattle.plain_motion.proofs.Images.{AreImages, nowhere, images_start, images_none, images_some, all_from_contains}
use Rattle.plain_motion.proofs.TestedPlaces.{by_test}
use Rattle.plain_motion.proofs.WalkSteps.{goes_on_by, goes_on_once, goes_nowhere, goes_to_place}
use Rattle.plain_motion.proofs.windows.next_walks.Goals as goal
use Rattle.plain_motion.proofs.windows.next_walks.Goals.{in-Some+in_ok-push, in_default}

pub loop-walk-init : goal.loop-walk-init
loop-walk-init c =
    let R : Walk → Walk → Type 0 = GoesOnTo c.args.motions.now.wheel.parts (times_of c.args.times) c.args.instant.now in
    record {
      images = subst (AreImages R []) (sym c.in_ok-next.ensures.items) (images_start R);
      ascend = λ h. subst (λ (qs : List Walk). IsAscending (starts_of qs)) (sym c.in_ok-next.ensures.items) (λ a b d lt within. absurd (omega (arith, within)));
    }

pub loop-walk-preserved : goal.loop-walk-preserved
loop-walk-preserved c =
    let w = c.args.motions.now.wheel.parts in
    let ts = times_of c.args.times in
    let i = c.args.instant.now in
    let R : Walk → Walk → Type 0 = GoesOnTo w ts i in
    let walks = c.args.walks.now in
    let at = c.loop-walk.walk-index in
    let walk = get_or walks at nowhere in
    let is : EndsOn w walk = c.requires.ends at nowhere c.loop-walk-test.true in
    let next = sym (take_one walks at nowhere c.loop-walk-test.true) in
    elim c.match-legal.branch [
      | in-Some+in_ok-push v ↦
          let u : Walk = record { start = walk.start; end = v.in-Some.end } in
          let here : R walk u = goes_on_by w ts i walk v.in-Some.end v.in-Some.ensures.step in
          let more = images_some R (take at walks) c.loop-walk.next.items walk u c.loop-walk.invariant.images here (λ q n. goes_on_once w ts i walk q u is n here) in
          let all : c.match-legal.next.items ≡ c.loop-walk.next.items ++ u ∷ [] = grind (arith, common_steps) in
          let before : IsAscending (starts_of walks) → (v : Walk) → Contains c.loop-walk.next.items v → IsLess v.start walk.start
          = λ h v k. let from = (c.loop-walk.invariant.images v).0 k in subst (λ p. IsLess p walk.start) (sym from.1.1.start) (begins_before walks at nowhere from.0 h c.loop-walk-test.true from.1.0) in
          record {
            images = subst (λ (qs : List Walk). AreImages R (take (at + 1) walks) qs) (sym all) (subst (λ (ps : List Walk). AreImages R ps (c.loop-walk.next.items ++ u ∷ [])) next more);
            ascend = λ h. subst (λ (qs : List Walk). IsAscending (starts_of qs)) (sym all) (starts_with c.loop-walk.next.items u (c.loop-walk.invariant.ascend h) (before h));
          }
      | in_default v ↦
          let more = images_none R (take at walks) c.loop-walk.next.items walk c.loop-walk.invariant.images (goes_nowhere w ts i walk v.in_default.ensures.step) in
          let all : c.match-legal.next.items ≡ c.loop-walk.next.items = cc in
          record {
            images = subst (λ (qs : List Walk). AreImages R (take (at + 1) walks) qs) (sym all) (subst (λ (ps : List Walk). AreImages R ps c.loop-walk.next.items) next more);
            ascend = λ h. subst (λ (qs : List Walk). IsAscending (starts_of qs)) (sym all) (c.loop-walk.invariant.ascend h);
          }
    ]

images : (c : goal.After-from_vec) → AreImages (GoesOnTo c.args.motions.now.wheel.parts (times_of c.args.times) c.args.instant.now) c.args.walks.now c.from_vec.result
images c =
    let R : Walk → Walk → Type 0 = GoesOnTo c.args.motions.now.wheel.parts (times_of c.args.times) c.args.instant.now in
    let walks = c.args.walks.now in
    let all : take c.loop-walk.walk-index walks ≡ walks = take_all c.loop-walk.walk-index walks c.loop-walk-test.false in
    subst (λ (ps : List Walk). AreImages R ps c.from_vec.result) all (subst (λ (qs : List Walk). AreImages R (take c.loop-walk.walk-index walks) qs) (sym c.from_vec.ensures) c.loop-walk.invariant.images)

pub returns-clause-ends : goal.returns-clause-ends
returns-clause-ends c =
    let w = c.args.motions.now.wheel.parts in
    all_from_contains (EndsOn w) c.from_vec.result (λ u k.
    let from = (images c u).0 k in
    goes_to_place w (times_of c.args.times) c.args.instant.now from.0 u (All-contains (EndsOn w) c.args.walks.now from.0 c.requires.ends from.1.0) from.1.1)

pub returns-clause-ascend : goal.returns-clause-ascend
returns-clause-ascend c = λ h. subst (λ (qs : List Walk). IsAscending (starts_of qs)) (sym c.from_vec.ensures) (c.loop-walk.invariant.ascend h)

pub returns-clause-steps : goal.returns-clause-steps
returns-clause-steps c = images c

pub legal-requires-clause-place : goal.legal-requires-clause-place
legal-requires-clause-place c = by_test c.args.motions.now.wheel.parts _ (c.requires.ends c.loop-walk.walk-index nowhere c.loop-walk-test.true)
