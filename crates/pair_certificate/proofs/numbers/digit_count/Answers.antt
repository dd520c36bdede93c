use Rattle.std.proofs.Common.{sym, ◌∙◌}
use Rattle.pair_certificate.specs.FirstFields.{digit_count}
use Rattle.pair_certificate.proofs.Digits.{count_end}
use Rattle.pair_certificate.proofs.numbers.digit_count.Goals as goal

pub returns-then-not-is_digit-clause-count : goal.returns-then-not-is_digit-clause-count
returns-then-not-is_digit-clause-count c = count_end c.loop-k.k c.args.bytes.now 0 (digit_count c.args.bytes.now) c.loop-k-test.true (sym c.is_digit.ensures ∙ c.if-not-is_digit.true) c.loop-k.invariant
