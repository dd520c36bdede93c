use Rattle.std.proofs.Common.{◌-◌, ◌≤◌, ◌<◌, ◌+◌, ◌*◌, ◌^◌, ℕ}
use Rattle.image_layout.specs.Layout.{time_total}
use Rattle.image_layout.specs.Fields.{time_cut_at}
use Rattle.sync_machine.proofs.classes.time_class.Given as goal

abbrev pub invariant-loop-low : goal.invariant-loop-low
invariant-loop-low g l = record {
  order : l.low ≤ l.high;
  within : l.high ≤ time_total l.view.bytes.now;
  below : (k : ℕ) → k < l.low → time_cut_at l.view.bytes.now k ≤ l.t;
  above : (k : ℕ) → l.high ≤ k → k < time_total l.view.bytes.now → l.t < time_cut_at l.view.bytes.now k;
  grown : l.initial.steps ≤ l.steps;
  halved : 2 ^ (l.steps - l.initial.steps) * (l.high - l.low) ≤ time_total l.view.bytes.now;
  cost : 2 ^ (l.steps - l.initial.steps) ≤ 2 * time_total l.view.bytes.now + 1;
}

abbrev pub decreases-loop-low : goal.decreases-loop-low
decreases-loop-low g l = l.high - l.low
