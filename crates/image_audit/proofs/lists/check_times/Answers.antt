use Rattle.std.proofs.Common.{length, ap, arith}
use Rattle.std.proofs.lemmas.List.{length-map}
use Rattle.gap_thresholds.specs.declared.cut.Cut.{Cut}
use Rattle.gap_thresholds.specs.declared.cuts.Cuts.{Cuts}
use Rattle.gap_thresholds.specs.Classes.{times_of}
use Rattle.image_layout.specs.Layout.{time_total}
use Rattle.image_layout.specs.Fields.{time_cut_at}
use Rattle.position_nfa.specs.Views.{alphabet}
use Rattle.table_images.specs.Images.{table_of}
use Rattle.image_audit.specs.Agreements.{time_cuts}
use Rattle.image_audit.proofs.Listed.{same_lists}
use Rattle.image_audit.proofs.Sizes.{length-listed}
use Rattle.image_audit.proofs.lists.check_times.Goals as goal

pub returns-clause-same : goal.returns-clause-same
returns-clause-same c =
    let b = c.args.view.now.bytes.now in
    let a = alphabet c.args.nfa.now in
    let size = length-listed (time_cut_at b) (time_total b) in
    let same = ap (λ (x : Cuts). length (times_of x)) c.cuts.ensures in
    let own = length-map (times_of a.cuts) (λ (k : Cut). k.top) in
    same_lists (table_of b).time_cuts (time_cuts a) c.loop-at.at (omega (arith, size)) (omega (arith, own, same)) (λ k lt. c.loop-at.invariant k lt)
