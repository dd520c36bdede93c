use Rattle.std.proofs.Common.{◌≡◌, ℕ, sym, ◌∙◌, subst, arith}
use Rattle.wheel_types.specs.declared.channel.Channel.TheVariants.{Crank}
use Rattle.wheel_types.specs.Edges.{edge_count}
use Rattle.gap_thresholds.specs.Gaps.{AreGaps}
use Rattle.gap_thresholds.proofs.EdgeGaps.{gap, gap_after, are_gaps, after_within, after_across}
use Rattle.wheel_rows.proofs.cuts.gaps_after.Goals as goal
use Rattle.wheel_rows.proofs.cuts.gaps_after.Goals.{then-j-crank_count, else-j-crank_count}

pub returns : goal.returns
returns c parts are =
    let next : ℕ = c.if-j-crank_count.next in
    let count : c.crank_count.result ≡ edge_count parts Crank = c.crank_count.ensures.of_wheel parts are in
    let after : gap parts next ≡ gap_after parts c.args.j =
    elim c.if-j-crank_count.branch [
      | then-j-crank_count w ↦ after_within parts next c.args.j w.next-is
      | else-j-crank_count w ↦ after_across parts next c.args.j w.next-is (omega (arith, w.if-j-crank_count.false, count, c.crank_count.ensures.count, c.requires))
    ] in
    let second : c.crank_gap-2.result ≡ gap_after parts c.args.j = c.crank_gap-2.ensures.of_wheel parts are ∙ after in
    subst (λ s. AreGaps parts s c.crank_gap-2.result) (sym (c.crank_gap.ensures.of_wheel parts are)) (subst (AreGaps parts (gap parts c.args.j)) (sym second) (are_gaps parts c.args.j))
