use Rattle.std.proofs.Common.{◌≡◌, suc, ◌+◌, ◌≤◌, refl, sym, ap, subst}
use Rattle.std.specs.Prelude.{Some}
use Rattle.stimulus.specs.Causes.{HasFewEdges, most_edges}
use Rattle.stimulus.specs.Gaps.{HasTimes}
use Rattle.stimulus.proofs.EdgeCounts.{all_counted}
use Rattle.stimulus.proofs.Steps.{signed, past1, past2, timed_of, last_step}
use Rattle.stimulus.proofs.maker.Maker.finish.Goals as goal

pub returns-clause-whole : goal.returns-clause-whole
returns-clause-whole c =
    let w = c.args.wheel.now.parts in
    let made = c.requires.making.made in
    last_step w c.args.plan.now c.args.self c.push.new.self.items _ c.args.wheel.now.valid made c.requires.past c.requires.last c.in_ok-push.ensures.items
    (signed w c.args.plan.now.seed c.args.self.to made.to) (ap Some c.polarity.ensures) refl refl

pub returns-clause-few : goal.returns-clause-few
returns-clause-few c =
    let w = c.args.wheel.now.parts in
    let p = c.args.plan.now in
    let m = c.args.self in
    let made = c.requires.making.made in
    let few : p.gaps + 1 + (m.cam1.passed + m.cam2.passed) ≤ most_edges = c.requires.making.few in
    let last : suc m.from.number ≡ p.gaps = c.requires.last in
    subst (λ n. HasFewEdges w p.seed n) last
    (all_counted w p.seed m.from.number m.cam1.passed m.cam2.passed made.angle m.instants.items made.given (past1 w p m made c.requires.past) (past2 w p m made c.requires.past)
    (subst (λ n. n + 1 + (m.cam1.passed + m.cam2.passed) ≤ most_edges) (sym last) few))

pub returns-clause-timed : goal.returns-clause-timed
returns-clause-timed c =
    subst (HasTimes c.args.wheel.now.parts c.args.plan.now.seed) c.requires.last (timed_of c.args.wheel.now.parts c.args.plan.now c.args.self c.requires.making.made)
