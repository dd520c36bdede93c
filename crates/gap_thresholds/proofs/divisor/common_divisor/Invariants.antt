use Rattle.std.proofs.Common.{ℕ}
use Rattle.std.specs.Int.{IsGcd}
use Rattle.gap_thresholds.proofs.divisor.common_divisor.Given as goal

abbrev pub invariant-loop-low : goal.invariant-loop-low
invariant-loop-low l = (g : ℕ) → IsGcd l.high l.low g → IsGcd l.fn.first l.fn.second g

abbrev pub decreases-loop-low : goal.decreases-loop-low
decreases-loop-low l = l.low
