use Rattle.std.proofs.Common.{◌≡◌, ◌∙◌, subst, arith}
use Rattle.gap_thresholds.specs.Gaps.{IsCutOfGaps}
use Rattle.gap_thresholds.proofs.Listed.{HasMore, before_more}
use Rattle.gap_thresholds.proofs.EdgeGaps.{gap, gap_after, after_within, after_across}
use Rattle.gap_thresholds.proofs.EdgeCuts.{IsRatioCutAt, all_ratios}
use Rattle.gap_thresholds.proofs.gaps.ratio_cuts.Goals as goal
use Rattle.gap_thresholds.proofs.gaps.ratio_cuts.Goals.{then-j-count, else-j-count}

pub loop-j-preserved : goal.loop-j-preserved
loop-j-preserved c =
    let w = c.args.wheel.now.parts in
    let j = c.loop-j.j in
    let old = c.loop-j.ratios.cuts.items in
    let new = c.add_ratios.new.ratios.cuts.items in
    let count = c.crank_count-count.ensures.of_wheel w c.requires in
    let follows : gap w c.if-j-count.next ≡ gap_after w j = elim c.if-j-count.branch [
      | then-j-count b ↦ after_within w c.if-j-count.next j b.next-is
      | else-j-count b ↦ after_across w c.if-j-count.next j b.next-is (omega (arith, count))
    ] in
    let first = c.crank_gap.ensures.of_wheel w c.requires in
    let second = c.crank_gap-in-loop-j.ensures.of_wheel w c.requires ∙ follows in
    let more : HasMore new old (IsRatioCutAt w j) = subst (λ s. HasMore new old (IsCutOfGaps w (gap w j) s)) second (subst (λ s. HasMore new old (IsCutOfGaps w s c.crank_gap-in-loop-j.result)) first c.in_ok-add_ratios.ensures.ok) in
    record {
      cuts = before_more (IsRatioCutAt w) j old new c.loop-j.invariant.cuts more;
      small = c.in_ok-add_ratios.ensures.small c.loop-j.invariant.small;
      few = omega (arith, c.add_ratios.ensures.length, c.loop-j.invariant.few);
    }

pub returns-clause-cuts : goal.returns-clause-cuts
returns-clause-cuts c =
    let w = c.args.wheel.now.parts in
    all_ratios w c.loop-j.j c.loop-j.ratios.cuts.items c.args.wheel.now.valid.crank_edge (omega (arith, c.crank_count-count.ensures.of_wheel w c.requires)) c.loop-j.invariant.cuts
