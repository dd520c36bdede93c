use Rattle.std.proofs.Common.{subst, arith}
use Rattle.gap_thresholds.specs.Gaps.{IsCutOfGap}
use Rattle.gap_thresholds.proofs.Listed.{HasMore, before_more}
use Rattle.gap_thresholds.proofs.EdgeCuts.{IsTimeCutAt, all_times}
use Rattle.gap_thresholds.proofs.gaps.time_cuts.Goals as goal

pub loop-j-preserved : goal.loop-j-preserved
loop-j-preserved c =
    let w = c.args.wheel.now.parts in
    let old = c.loop-j.times.cuts.items in
    let new = c.add_times.new.times.cuts.items in
    let more : HasMore new old (IsTimeCutAt w c.loop-j.j) = subst (λ s. HasMore new old (IsCutOfGap w s)) (c.crank_gap.ensures.of_wheel w c.requires) c.in_ok-add_times.ensures.ok in
    record {
      cuts = before_more (IsTimeCutAt w) c.loop-j.j old new c.loop-j.invariant.cuts more;
      few = omega (arith, c.add_times.ensures.length, c.loop-j.invariant.few);
    }

pub returns-clause-cuts : goal.returns-clause-cuts
returns-clause-cuts c =
    let w = c.args.wheel.now.parts in
    all_times w c.loop-j.j c.loop-j.times.cuts.items c.args.wheel.now.valid.crank_edge (omega (arith, c.crank_count-j-end.ensures.of_wheel w c.requires)) c.loop-j.invariant.cuts
