use Rattle.std.proofs.Common.{◌≡◌, ◌+◌, drop}
use Rattle.pair_certificate.specs.FirstFields.{digit_count}
use Rattle.pair_certificate.proofs.numbers.digit_count.Given as goal

abbrev pub invariant-loop-k : goal.invariant-loop-k
invariant-loop-k l = digit_count l.bytes ≡ l.k + digit_count (drop l.k l.bytes)
