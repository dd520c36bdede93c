use Rattle.std.proofs.Common.{◌≡◌, subst, arith, length}
use Rattle.stimulus_commands.proofs.Stepped.{HasStepped, later_than_last, next_stepped, all_stepped}
use Rattle.stimulus_commands.proofs.counts.count_verdicts.Goals as goal

pub step-requires-clause-later : goal.step-requires-clause-later
step-requires-clause-later c = later_than_last c.args.instants.now c.loop-instant.instant-index _ _ c.requires.rising c.loop-instant-test.true c.instant-item.is c.loop-instant.invariant.last

pub loop-instant-preserved : goal.loop-instant-preserved
loop-instant-preserved c =
    next_stepped c.args.set.now c.loop-instant.set c.step.new.self c.args.instants.now c.loop-instant.instant-index c.instant-item.result c.in_ok-verdict.verdict c.loop-instant.counts c.count-counts.result
    c.loop-instant-test.true c.instant-item.is c.loop-instant.invariant c.in_ok-verdict.ensures.last c.step.ensures.wheel c.in_ok-verdict.ensures.stands c.count-counts.ensures

pub returns : goal.returns
returns c = λ w f.
    let e : c.loop-instant.instant-index ≡ length c.args.instants.now = omega arith in
    all_stepped w c.args.set.now c.loop-instant.set c.args.instants.now c.loop-instant.counts (subst (λ k. HasStepped c.args.set.now c.loop-instant.set c.args.instants.now k c.loop-instant.counts) e c.loop-instant.invariant) f
