use Rattle.std.proofs.Common.{◌≡◌, true, get_or, length, sym, arith}
use Rattle.std.proofs.lemmas.List.Sums.{position_or_len_is}
use Rattle.std.proofs.lemmas.Bool.Decides.{nat_tests}
use Rattle.csv_capture.specs.Times.{is_point}
use Rattle.csv_capture.proofs.time.point.Goals as goal

pub returns-then-text-at-eq46 : goal.returns-then-text-at-eq46
returns-then-text-at-eq46 c =
    let here : is_point (get_or c.args.text.now c.bytes.at 0) ≡ true = grind (arith, nat_tests) in
    sym (position_or_len_is is_point c.args.text.now c.bytes.at 0 (omega arith) c.bytes.invariant (λ _. here))

pub returns : goal.returns
returns c = sym (position_or_len_is is_point c.args.text.now (length c.args.text.now) 0 (omega arith) (λ k h. c.bytes.invariant k (omega arith)) (λ h. absurd (omega arith)))
