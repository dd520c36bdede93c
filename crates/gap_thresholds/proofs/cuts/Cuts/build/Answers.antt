use Rattle.std.proofs.Common.{subst, sym}
use Rattle.std.proofs.lemmas.Grind.{merely}
use Rattle.gap_thresholds.specs.Gaps.{AreAllCuts}
use Rattle.gap_thresholds.proofs.cuts.Cuts.build.Goals as goal

pub invariant_of-result-clause-all : goal.invariant_of-result-clause-all
invariant_of-result-clause-all c =
    let times = c.in_ok-time_cuts in
    let ratios = c.in_ok-ratio_cuts in
    let all : AreAllCuts c.args.wheel.now.parts times.field-0.cuts.items ratios.field-0.cuts.items = record {
      times_are = times.ensures.cuts;
      times_ascend = times.field-0.ascend;
      ratios_are = ratios.ensures.cuts;
      ratios_ascend = ratios.field-0.ascend;
    } in
    merely (subst (λ w. AreAllCuts w times.field-0.cuts.items ratios.field-0.cuts.items) (sym c.in_ok-copied.ensures) all)
