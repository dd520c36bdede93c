use mathlib.Core.Logic.{∥∥₁_map}
use Rattle.std.proofs.Common.{refl}
use Rattle.gap_thresholds.proofs.laws.cuts_are_their_wheels.Goals as goal

pub returns : goal.returns
returns c = ∥∥₁_map c.args.cuts.now.all
    (λ all. record { wheel = refl; times = all.times_are; times_ascend = all.times_ascend; ratios = all.ratios_are; ratios_ascend = all.ratios_ascend })
