use Rattle.std.proofs.Common.{◌≡◌, true, get_or, length, sym, arith}
use Rattle.std.proofs.lemmas.List.Sums.{position_or_len_is}
use Rattle.std.proofs.lemmas.Bool.Decides.{nat_tests}
use Rattle.csv_capture.specs.Times.{is_mark}
use Rattle.csv_capture.proofs.time.mark.Goals as goal

pub returns-then-is_mark : goal.returns-then-is_mark
returns-then-is_mark c =
    let here : is_mark (get_or c.args.text.now c.bytes.at 0) ≡ true = grind (arith, nat_tests) in
    sym (position_or_len_is is_mark c.args.text.now c.bytes.at 0 (omega arith) c.bytes.invariant (λ _. here))

pub returns : goal.returns
returns c = sym (position_or_len_is is_mark c.args.text.now (length c.args.text.now) 0 (omega arith) (λ k h. c.bytes.invariant k (omega arith)) (λ h. absurd (omega arith)))
