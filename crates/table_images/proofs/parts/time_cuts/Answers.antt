use Rattle.std.proofs.Common.{◌<◌, length, get_or, arith}
use Rattle.std.proofs.lemmas.Option.{slice_get-get_or}
use Rattle.gap_thresholds.specs.declared.cut.Cut.{Cut}
use Rattle.gap_thresholds.specs.Classes.{times_of}
use Rattle.table_images.proofs.Copies.{map_more, no_cut}
use Rattle.table_images.proofs.SetWords.{fits_push}
use Rattle.table_images.proofs.parts.time_cuts.Goals as goal

pub loop-i-preserved : goal.loop-i-preserved
loop-i-preserved c =
    let cuts = times_of c.args.cuts.now in
    let within : c.loop-i.i < length cuts = omega (arith, c.loop-i-test.true, c.time_count-i-end.ensures) in (
      map_more (λ (c : Cut). c.top) cuts c.loop-i.i (get_or cuts c.loop-i.i no_cut) c.time_cut.result c.loop-i.tops.items c.push.new.self.items (slice_get-get_or cuts c.loop-i.i no_cut within) (c.time_cut.ensures no_cut) c.loop-i.invariant.0 c.in_ok-push.ensures.items,
      fits_push c.loop-i.tops.items c.push.new.self.items c.time_cut.result c.in_ok-push.ensures.items (omega arith) c.loop-i.invariant.1,
    )
