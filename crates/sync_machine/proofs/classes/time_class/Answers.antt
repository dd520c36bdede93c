use Rattle.std.proofs.Common.{◌≤◌, ◌<◌, ◌+◌, ◌-◌, ◌/◌, sym, arith}
use Rattle.std.specs.Prelude.{nat_le}
use Rattle.std.proofs.lemmas.Bool.{le-leb, lt-leb}
use Rattle.image_layout.specs.Layout.{time_total}
use Rattle.image_layout.specs.Fields.{time_cut_at}
use Rattle.image_layout.proofs.Images.{time_cut_before}
use Rattle.sync_machine.proofs.Halving.{halves_at, count_split}
use Rattle.sync_machine.proofs.classes.time_class.Goals as goal

pub loop-low-preserved-then-time_cut-t : goal.loop-low-preserved-then-time_cut-t
loop-low-preserved-then-time_cut-t g c =
    let b = c.args.view.now.bytes.now in
    let low = c.loop-low.low in
    let high = c.loop-low.high in
    let inv = c.loop-low.invariant in
    let middle = low + (high - low) / 2 in
    let h = halves_at c.loop-low.steps c.args.steps.now (time_total b) (high - low) (high - (middle + 1)) inv.grown inv.halved (omega arith) (omega arith) in
    let here : time_cut_at b middle ≤ c.args.t = omega (arith, c.time_cut.ensures, c.if-time_cut-t.true) in
    rw c.tick.ensures (record {
      order = omega arith;
      within = inv.within;
      below = λ k lt.
          let r = time_cut_before b c.args.view.now.keeps k middle (omega arith) (omega arith) in
          omega (arith, r, here);
      above = inv.above;
      grown = omega arith;
      halved = h.halved;
      cost = h.cost;
    })

pub loop-low-preserved : goal.loop-low-preserved
loop-low-preserved g c =
    let b = c.args.view.now.bytes.now in
    let low = c.loop-low.low in
    let high = c.loop-low.high in
    let inv = c.loop-low.invariant in
    let middle = low + (high - low) / 2 in
    let h = halves_at c.loop-low.steps c.args.steps.now (time_total b) (high - low) (middle - low) inv.grown inv.halved (omega arith) (omega arith) in
    let here : c.args.t < time_cut_at b middle = omega (arith, c.time_cut.ensures, c.if-time_cut-t.false) in
    rw c.tick.ensures (record {
      order = omega arith;
      within = omega arith;
      below = inv.below;
      above = λ k from lt.
          let r = time_cut_before b c.args.view.now.keeps middle k from lt in
          omega (arith, r, here);
      grown = omega arith;
      halved = h.halved;
      cost = h.cost;
    })

pub returns-clause-class : goal.returns-clause-class
returns-clause-class g c =
    let b = c.args.view.now.bytes.now in
    let inv = c.loop-low.invariant in
    sym (count_split (time_total b) c.loop-low.low (λ k. nat_le (time_cut_at b k) c.args.t) (omega arith)
    (λ k lt. le-leb _ _ (inv.below k lt))
    (λ k from lt. lt-leb _ _ (inv.above k (omega arith) lt)))
