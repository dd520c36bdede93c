use Rattle.std.proofs.Common.{◌≡◌, true, take, sym, subst}
use Rattle.std.specs.List.{list_all}
use Rattle.capture_core.specs.Numerals.{is_digit}
use Rattle.pair_certificate.proofs.Digits.{front_digits, number_none, number_past, number_some, rest_whole}
use Rattle.pair_certificate.proofs.numbers.number_at.Goals as goal

pub returns-then-count-eq0-clause-value : goal.returns-then-count-eq0-clause-value
returns-then-count-eq0-clause-value c = number_none c.args.most c.args.bytes.now c.digit_count-count.result c.digit_count-count.ensures.count c.if-count-eq0.true

pub number_within-requires-clause-digits : goal.number_within-requires-clause-digits
number_within-requires-clause-digits c = subst (λ n. list_all is_digit (take n c.args.bytes.now) ≡ true) (sym c.digit_count-count.ensures.count) (front_digits c.args.bytes.now)

pub returns-in-Some-clause-value : goal.returns-in-Some-clause-value
returns-in-Some-clause-value c = rw (rest_whole c.args.bytes.now c.digit_count-count.result) (number_some c.args.most c.args.bytes.now c.digit_count-count.result c.in-Some.number c.digit_count-count.ensures.count c.if-count-eq0.false c.in-Some.ensures.0 c.in-Some.ensures.1)

pub returns-in-None-clause-value : goal.returns-in-None-clause-value
returns-in-None-clause-value c = number_past c.args.most c.args.bytes.now c.digit_count-count.result c.digit_count-count.ensures.count c.in-None.ensures
