use Rattle.std.proofs.Common.{List, refl, sym, subst}
use Rattle.std.specs.Prelude.{Contains}
use Rattle.cam_ranges.specs.Places.{IsAscending}
use Rattle.wheel_types.specs.Verdicts.{Leads}
use Rattle.plain_motion.specs.declared.window.Walk.{Walk}
use Rattle.plain_motion.specs.Ends.{starts_of}
use Rattle.plain_motion.proofs.set.PlainSet.end_of.Goals as goal

pub returns-in-Some : goal.returns-in-Some
returns-in-Some c = λ past verdicts set.
    let me = c.args.self.now in
    let kept = set.kept.kept in
    let ascend = subst (λ (walks : List Walk). IsAscending (starts_of walks)) (sym c.as_slice.ensures) kept.ascend in
    let found = c.in-Some.ensures ascend in
    let there = subst (λ (walks : List Walk). Contains walks c.in-Some.walk) c.as_slice.ensures found.0 in
    subst (λ a. Leads me.motions.wheel.parts set.kept.window a c.in-Some.walk.end) found.1 ((kept.walks c.in-Some.walk.start c.in-Some.walk.end).0 there)

pub returns-in-None : goal.returns-in-None
returns-in-None c = λ past verdicts set e l.
    let kept = set.kept.kept in
    let ascend = subst (λ (walks : List Walk). IsAscending (starts_of walks)) (sym c.as_slice.ensures) kept.ascend in
    let there = subst (λ (walks : List Walk). Contains walks (record { start = c.args.start; end = e })) (sym c.as_slice.ensures) ((kept.walks c.args.start e).1 l) in
    c.in-None.ensures ascend (record { start = c.args.start; end = e }) there refl
