use Rattle.std.proofs.Common.{inl, inr, ap, ◌∙◌, ◌+◌}
use Rattle.std.proofs.lemmas.Result.{on_ok_weaker}
use Rattle.gap_thresholds.specs.Gaps.{IsCutOfGap}
use Rattle.gap_thresholds.proofs.Whole.{lowest_from_whole}
use Rattle.gap_thresholds.proofs.Listed.{two_more}
use Rattle.gap_thresholds.proofs.EdgeCuts.{only_times}
use Rattle.gap_thresholds.proofs.gaps.add_times.Goals as goal

pub insert-requires-2 : goal.insert-requires-2
insert-requires-2 c = lowest_from_whole c.whole-2.result c.whole-2.ensures.1

pub returns-clause-ok : goal.returns-clause-ok
returns-clause-ok c =
    let w = c.args.wheel.now.parts in
    let a = c.whole.result in
    let b = c.whole-2.result in
    let least = c.whole.ensures.0 ∙ c.least_time.ensures in
    let greatest = c.whole-2.ensures.0 ∙ ap (λ t. t + 1) c.greatest_time.ensures in
    on_ok_weaker c.insert-2.result
    (λ second. two_more _ _ _ a b (IsCutOfGap w c.args.slots) c.in_ok-insert.ensures.ok second (c.whole.ensures.1, inl least) (c.whole-2.ensures.1, inr greatest) (only_times w c.args.slots a b least c.whole.ensures.1 greatest c.whole-2.ensures.1))
    c.insert-2.ensures.ok
