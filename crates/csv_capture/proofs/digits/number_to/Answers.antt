use Rattle.std.proofs.Common.{◌≡◌, ◌∙◌, ℕ, ◌<◌, ◌≤◌, ◌-◌, ◌*◌, ◌^◌, ◌++◌, MatchOption, List, length, length-append, take, sym, ap, subst, arith}
use Rattle.std.specs.List.{list_all}
use Rattle.std.proofs.lemmas.Nat.{mul-le}
use Rattle.csv_capture.specs.Digits.{number_to}
use Rattle.capture_core.specs.Numerals.{is_digit, number, number_after}
use Rattle.csv_capture.proofs.Decimals.{ten_pow}
use Rattle.capture_core.proofs.Numerals.{number_after-append, number_after-least}
use Rattle.csv_capture.proofs.Numbers.{digits-take, take-both}
use Rattle.csv_capture.proofs.digits.number_to.Goals as goal

-- the number of the digits before a place, in two parts
two_parts : (whole fraction : List ℕ) (count : ℕ)
    → number_to (whole ++ fraction) count ≡ number_after (number (take count whole)) (take (count - length whole) fraction) * 10 ^ (count - length whole - length fraction)
two_parts whole fraction count =
    let zeros : count - length (whole ++ fraction) ≡ count - length whole - length fraction = omega (arith, length-append whole fraction) in
    let value = ap number (take-both count whole fraction) ∙ number_after-append 0 (take count whole) (take (count - length whole) fraction) in
    ap (λ (x : ℕ). x * 10 ^ (count - length (whole ++ fraction))) value
    ∙ ap (λ (k : ℕ). number_after (number (take count whole)) (take (count - length whole) fraction) * 10 ^ k) zeros

-- a number that is too large stays so
still_large : (n m zeros : ℕ) → 10 ^ 24 < n → n ≤ m → 10 ^ 24 < m * 10 ^ zeros
still_large n m zeros large more = omega (arith, mul-le m 1 m (10 ^ zeros) (omega arith) (ten_pow zeros))

pub number_within-requires-clause-digits : goal.number_within-requires-clause-digits
number_within-requires-clause-digits c = ap (list_all is_digit) c.front.ensures ∙ digits-take c.args.count c.args.whole.now c.requires.whole

pub number_within-requires-2-clause-digits : goal.number_within-requires-2-clause-digits
number_within-requires-2-clause-digits c = ap (list_all is_digit) c.front-2.ensures ∙ digits-take c.saturating_sub-after.result c.args.fraction.now c.requires.fraction

pub returns-in_err-seconds : goal.returns-in_err-seconds
returns-in_err-seconds c =
    let whole = c.args.whole.now in
    let fraction = c.args.fraction.now in
    let first : ℕ = number (take c.args.count whole) in
    let value : number c.front.result.now ≡ first = ap number c.front.ensures in
    let large : 10 ^ 24 < first = omega (arith, c.in_err-seconds.ensures, value) in
    let second : List ℕ = take (c.args.count - length whole) fraction in
    rw c.from_residual.ensures
    (omega (arith, two_parts whole fraction c.args.count, still_large first (number_after first second) (c.args.count - length whole - length fraction) large (number_after-least first second)))

pub returns-in_err-number : goal.returns-in_err-number
returns-in_err-number c =
    let whole = c.args.whole.now in
    let fraction = c.args.fraction.now in
    let n : ℕ = number_after (number (take c.args.count whole)) (take (c.args.count - length whole) fraction) in
    let first : c.in_ok-seconds.seconds ≡ number (take c.args.count whole) = c.in_ok-seconds.ensures.0 ∙ ap number c.front.ensures in
    let second : c.front-2.result.now ≡ take (c.args.count - length whole) fraction = c.front-2.ensures ∙ ap (λ (k : ℕ). take k fraction) c.saturating_sub-after.ensures in
    let value : number_after c.in_ok-seconds.seconds c.front-2.result.now ≡ n = ap (λ (x : ℕ). number_after x c.front-2.result.now) first ∙ ap (number_after (number (take c.args.count whole))) second in
    let large : 10 ^ 24 < n = omega (arith, c.in_err-number.ensures, value) in
    rw c.from_residual-in_err-number.ensures
    (omega (arith, two_parts whole fraction c.args.count, still_large n n (c.args.count - length whole - length fraction) large (omega arith)))

pub returns : goal.returns
returns c =
    let whole = c.args.whole.now in
    let fraction = c.args.fraction.now in
    let first : c.in_ok-seconds.seconds ≡ number (take c.args.count whole) = c.in_ok-seconds.ensures.0 ∙ ap number c.front.ensures in
    let second : c.front-2.result.now ≡ take (c.args.count - length whole) fraction = c.front-2.ensures ∙ ap (λ (k : ℕ). take k fraction) c.saturating_sub-after.ensures in
    let value = c.in_ok-number.ensures.0 ∙ ap (λ (x : ℕ). number_after x c.front-2.result.now) first ∙ ap (number_after (number (take c.args.count whole))) second in
    let zeros = c.saturating_sub-zeros.ensures ∙ ap (λ (k : ℕ). k - length fraction) c.saturating_sub-after.ensures in
    let size : number_to (whole ++ fraction) c.args.count ≡ c.in_ok-number.number * 10 ^ c.saturating_sub-zeros.result =
    two_parts whole fraction c.args.count
    ∙ sym (ap (λ (x : ℕ). x * 10 ^ c.saturating_sub-zeros.result) value ∙ ap (λ (k : ℕ). number_after (number (take c.args.count whole)) (take (c.args.count - length whole) fraction) * 10 ^ k) zeros) in
    subst (λ (x : ℕ). MatchOption c.with_zeros.result (10 ^ 24 < x) (λ n. (n ≡ x) × (n ≤ 10 ^ 24))) (sym size) c.with_zeros.ensures
