use Rattle.std.proofs.Common.{ℕ, length, ap, arith}
use Rattle.std.proofs.lemmas.List.{length-map}
use Rattle.gap_thresholds.specs.declared.cut.Cut.{Cut}
use Rattle.gap_thresholds.specs.declared.cuts.Cuts.{Cuts}
use Rattle.gap_thresholds.specs.Classes.{ratios_of}
use Rattle.image_layout.specs.Layout.{ratio_total}
use Rattle.image_layout.specs.Fields.{ratio_top_at, ratio_bottom_at}
use Rattle.position_nfa.specs.Views.{alphabet}
use Rattle.table_images.specs.Images.{table_of}
use Rattle.image_audit.specs.Agreements.{ratio_cuts}
use Rattle.image_audit.proofs.Listed.{same_lists}
use Rattle.image_audit.proofs.Sizes.{length-listed}
use Rattle.image_audit.proofs.lists.check_ratios.Goals as goal

pub returns-clause-same : goal.returns-clause-same
returns-clause-same c =
    let b = c.args.view.now.bytes.now in
    let a = alphabet c.args.nfa.now in
    let size = length-listed {X = ℕ × ℕ} (λ k. (ratio_top_at b k, ratio_bottom_at b k)) (ratio_total b) in
    let same = ap (λ (x : Cuts). length (ratios_of x)) c.cuts.ensures in
    let own = length-map {B = ℕ × ℕ} (ratios_of a.cuts) (λ (k : Cut). (k.top, k.bottom)) in
    same_lists (table_of b).ratio_cuts (ratio_cuts a) c.loop-at.at (omega (arith, size)) (omega (arith, own, same)) (λ k lt. c.loop-at.invariant k lt)
