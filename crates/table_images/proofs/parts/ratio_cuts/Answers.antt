use Rattle.std.proofs.Common.{◌<◌, length, get_or, arith}
use Rattle.std.proofs.lemmas.Option.{slice_get-get_or}
use Rattle.gap_thresholds.specs.declared.cut.Cut.{Cut}
use Rattle.gap_thresholds.specs.Classes.{ratios_of}
use Rattle.table_images.proofs.Copies.{map_more, no_cut}
use Rattle.table_images.proofs.parts.ratio_cuts.Goals as goal

pub loop-i-preserved : goal.loop-i-preserved
loop-i-preserved c =
    let cuts = ratios_of c.args.cuts.now in
    let within : c.loop-i.i < length cuts = omega (arith, c.loop-i-test.true, c.ratio_count-i-end.ensures) in
    map_more (λ (c : Cut). (c.top, c.bottom)) cuts c.loop-i.i (get_or cuts c.loop-i.i no_cut) c.ratio_cut.result c.loop-i.pairs.items c.push.new.self.items (slice_get-get_or cuts c.loop-i.i no_cut within) (λ i. (c.ratio_cut.ensures.top no_cut i, c.ratio_cut.ensures.bottom no_cut i)) c.loop-i.invariant c.in_ok-push.ensures.items
