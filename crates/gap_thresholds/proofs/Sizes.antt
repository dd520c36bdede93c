-- How large cuts are.
use Rattle.std.proofs.Common.{ℕ, ◌*◌, ◌^◌, ◌<◌, ◌≤◌, arith}
use Rattle.std.proofs.lemmas.Nat.{mul-le}
use Rattle.gap_thresholds.specs.declared.cut.Cut.{Cut}
use Rattle.gap_thresholds.specs.Fractions.{IsSmall}

product_small : (s r : ℕ) → s ≤ 4096 → r ≤ 65535 → s * r < 2 ^ 32
product_small s r h k = omega (arith, mul-le s r 4096 65535 h k)

-- a cut is small that is at most slots by parts of a ratio
pub cut_small : (c : Cut) (s0 s1 r0 r1 : ℕ) → s0 ≤ 4096 → s1 ≤ 4096 → r0 ≤ 65535 → r1 ≤ 65535 → c.top ≤ s1 * r1 → c.bottom ≤ s0 * r0 → IsSmall c
cut_small c s0 s1 r0 r1 h k p q top bottom = (omega (arith, top, product_small s1 r1 k q), omega (arith, bottom, product_small s0 r0 h p))
