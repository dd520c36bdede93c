use Rattle.std.proofs.Common.{◌≡◌, ◌≤◌, ◌^◌, arith}
use Rattle.stimulus.specs.Gaps.{greatest_after}
use Rattle.stimulus.specs.GapsOf.{gap_of}
use Rattle.stimulus.proofs.GapTimes.{small}
use Rattle.stimulus.proofs.crank.draw_time.Goals as goal

pub draw-requires-clause-most : goal.draw-requires-clause-most
draw-requires-clause-most c =
    let w = c.args.wheel.now.parts in
    let s : greatest_after w (gap_of c.args.before) c.args.slots ≤ 2 ^ 57 = small w (gap_of c.args.before) c.args.slots c.args.wheel.now.valid c.requires.slots_of_wheel in
    let e : c.greatest_after_gap-high.result ≡ greatest_after w (gap_of c.args.before) c.args.slots = c.greatest_after_gap-high.ensures in
    omega (arith, s, e)
