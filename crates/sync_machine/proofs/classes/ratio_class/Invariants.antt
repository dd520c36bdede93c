use Rattle.std.proofs.Common.{◌-◌, ◌≤◌, ◌<◌, ◌+◌, ◌*◌, ◌^◌, ℕ}
use Rattle.image_layout.specs.Layout.{ratio_total}
use Rattle.image_layout.specs.Fields.{ratio_top_at, ratio_bottom_at}
use Rattle.sync_machine.proofs.classes.ratio_class.Given as goal

abbrev pub invariant-loop-low : goal.invariant-loop-low
invariant-loop-low g l = record {
  order : l.low ≤ l.high;
  within : l.high ≤ ratio_total l.view.bytes.now;
  below : (k : ℕ) → k < l.low → ratio_top_at l.view.bytes.now k * l.t0 < l.t1 * ratio_bottom_at l.view.bytes.now k;
  above : (k : ℕ) → l.high ≤ k → k < ratio_total l.view.bytes.now → l.t1 * ratio_bottom_at l.view.bytes.now k < ratio_top_at l.view.bytes.now k * l.t0;
  grown : l.initial.steps ≤ l.steps;
  halved : 2 ^ (l.steps - l.initial.steps) * (l.high - l.low) ≤ ratio_total l.view.bytes.now;
  cost : 2 ^ (l.steps - l.initial.steps) ≤ 2 * ratio_total l.view.bytes.now + 1;
}

abbrev pub decreases-loop-low : goal.decreases-loop-low
decreases-loop-low g l = l.high - l.low
