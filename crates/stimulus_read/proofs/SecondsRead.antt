-- A time in seconds with 15 decimals reads back.
use Rattle.std.proofs.Common.{◌≡◌, ℕ, zero, suc, ◌+◌, ◌-◌, ◌*◌, ◌/◌, ◌%◌, ◌^◌, ◌<◌, ◌≤◌, ◌&&◌, ◌||◌, ◌==◌, Bool, true, false, cond, not, List, [], ◌∷◌, ◌++◌, length, take, drop, refl, sym, ◌∙◌, ap, subst, arith, rules, ℤ, pos}
use Rattle.std.specs.List.{list_all, list_any, before_first, after_first, position_or_len}
use Rattle.std.specs.Prelude.{decimal, Option, Some, None, Ok, nat_lt}
use Rattle.std.proofs.Math.Seq.{take-append_seam, take-length, drop-append-add}
use Rattle.std.proofs.lemmas.Bool.Decides.{nat_tests}
use Rattle.std.proofs.lemmas.List.Folds.{list_all-append}
use Rattle.capture_core.specs.Numerals.{is_digit, number}
use Rattle.capture_core.proofs.Numerals.{both, number-append}
use Rattle.csv_capture.specs.Times.{Seconds, is_point, is_mark, is_sign, are_digits, unsigned, is_negative, decimal_of, exponent_in, scaled, seconds_of, femtoseconds, femtoseconds_if, with_sign, time_of}
use Rattle.stimulus_files.specs.Files.{last_digits}
use Rattle.stimulus_read.specs.ReadBack.{TimesReadBack}
use Rattle.stimulus_files.proofs.Digits.{AreDigits, of_decimal, of_last_digits}

digit_no_point : (c : ℕ) → is_digit c ≡ true → is_point c ≡ false
digit_no_point c h = grind (arith, nat_tests)

digit_no_mark : (c : ℕ) → is_digit c ≡ true → is_mark c ≡ false
digit_no_mark c h = grind (arith, nat_tests)

digit_no_sign : (c : ℕ) → is_digit c ≡ true → is_sign c ≡ false
digit_no_sign c h = grind (arith, nat_tests)

digit_no_minus : (c : ℕ) → is_digit c ≡ true → (c == 45) ≡ false
digit_no_minus c h = grind (arith, nat_tests)

-- digits have no point and no mark
place_of_point : (xs ys : List ℕ) → AreDigits xs → position_or_len is_point (xs ++ 46 ∷ ys) ≡ length xs
place_of_point [] ys h = refl
place_of_point (x ∷ xs) ys h =
    let b = both (is_digit x) (list_all is_digit xs) h in
    let here : is_point x ≡ false = digit_no_point x b.0 in
    let rest = place_of_point xs ys b.1 in
    let one : 1 + length xs ≡ suc (length xs) = omega arith in
    ap (λ t. cond (not t) (1 + position_or_len is_point (xs ++ 46 ∷ ys)) 0) here ∙ ap (λ n. 1 + n) rest ∙ one

before_point : (xs ys : List ℕ) → AreDigits xs → before_first is_point (xs ++ 46 ∷ ys) ≡ xs
before_point xs ys h = ap (λ n. take n (xs ++ 46 ∷ ys)) (place_of_point xs ys h) ∙ take-append_seam xs (46 ∷ ys)

after_point : (xs ys : List ℕ) → AreDigits xs → after_first is_point (xs ++ 46 ∷ ys) ≡ ys
after_point xs ys h = ap (λ n. drop (n + 1) (xs ++ 46 ∷ ys)) (place_of_point xs ys h) ∙ drop-append-add xs (46 ∷ ys) 1

no_mark : (xs : List ℕ) → AreDigits xs → list_any is_mark xs ≡ false
no_mark [] h = refl
no_mark (x ∷ xs) h = let b = both (is_digit x) (list_all is_digit xs) h in ap (λ t. t || list_any is_mark xs) (digit_no_mark x b.0) ∙ no_mark xs b.1

no_mark_with_point : (xs ys : List ℕ) → AreDigits xs → AreDigits ys → list_any is_mark (xs ++ 46 ∷ ys) ≡ false
no_mark_with_point [] ys h k = no_mark ys k
no_mark_with_point (x ∷ xs) ys h k = let b = both (is_digit x) (list_all is_digit xs) h in ap (λ t. t || list_any is_mark (xs ++ 46 ∷ ys)) (digit_no_mark x b.0) ∙ no_mark_with_point xs ys b.1 k

-- a text without a mark is all before its mark
all_before : (xs : List ℕ) → list_any is_mark xs ≡ false → position_or_len is_mark xs ≡ length xs
all_before [] h = refl
all_before (x ∷ xs) h =
    let b = neither (is_mark x) (list_any is_mark xs) h in
    let one : 1 + length xs ≡ suc (length xs) = omega arith in
    ap (λ t. cond (not t) (1 + position_or_len is_mark xs) 0) b.0 ∙ ap (λ n. 1 + n) (all_before xs b.1) ∙ one
  where
    neither : (a b : Bool) → (a || b) ≡ false → (a ≡ false) × (b ≡ false)
    neither false b h = (refl, h)
    neither true b h = cc

unmarked : (xs : List ℕ) → list_any is_mark xs ≡ false → before_first is_mark xs ≡ xs
unmarked xs h = ap (λ n. take n xs) (all_before xs h) ∙ take-length xs

-- digits of at least one are a number
are_some : (xs : List ℕ) → 0 < length xs → AreDigits xs → are_digits xs ≡ true
are_some [] s h = absurd (omega (arith, s))
are_some (x ∷ xs) s h = h

joined : (a b : Bool) → a ≡ true → b ≡ true → (a && b) ≡ true
joined a b e f = rw (e, f) refl

-- the seconds of digits around a point
pub decimal_of_point : (xs ys : List ℕ) → 0 < length xs → AreDigits xs → AreDigits ys → decimal_of (xs ++ 46 ∷ ys) ≡ Some (record { numerator = number (xs ++ ys); denominator = 10 ^ length ys })
decimal_of_point xs ys s h k =
    let P : List ℕ → List ℕ → Option Seconds = λ a b. cond (are_digits (a ++ b)) (Some (record { numerator = number (a ++ b); denominator = 10 ^ length b })) None in
    let long : length (xs ++ ys) ≡ length xs + length ys = Rattle.std.proofs.Common.length-append xs ys in
    let all : AreDigits (xs ++ ys) = list_all-append is_digit xs ys ∙ joined (list_all is_digit xs) (list_all is_digit ys) h k in
    let some : are_digits (xs ++ ys) ≡ true = are_some (xs ++ ys) (omega (arith, s, long)) all in
    ap (λ a. P a (after_first is_point (xs ++ 46 ∷ ys))) (before_point xs ys h) ∙ ap (P xs) (after_point xs ys h)
    ∙ ap (λ t. cond t (Some (record { numerator = number (xs ++ ys); denominator = 10 ^ length ys })) None) some

pub seconds_of_point : (xs ys : List ℕ) → 0 < length xs → AreDigits xs → AreDigits ys → seconds_of (xs ++ 46 ∷ ys) ≡ Some (record { numerator = number (xs ++ ys) * 10 ^ 0; denominator = 10 ^ length ys })
seconds_of_point xs ys s h k =
    let text = xs ++ 46 ∷ ys in
    let none : list_any is_mark text ≡ false = no_mark_with_point xs ys h k in
    let exponent : exponent_in text ≡ Some (pos 0) = ap (λ t. cond t (Rattle.csv_capture.specs.Times.exponent_of (after_first is_mark text)) (Some (pos 0))) none in
    let number_is : decimal_of (before_first is_mark text) ≡ Some (record { numerator = number (xs ++ ys); denominator = 10 ^ length ys }) = ap decimal_of (unmarked text none) ∙ decimal_of_point xs ys s h k in
    ap (λ d. Rattle.csv_capture.specs.Times.scaled_if d (exponent_in text)) number_is ∙ ap (Rattle.csv_capture.specs.Times.scaled_if (Some (record { numerator = number (xs ++ ys); denominator = 10 ^ length ys }))) exponent

-- a text of digits around a point has no sign
unsigned_point : (xs ys : List ℕ) → 0 < length xs → AreDigits xs → (unsigned (xs ++ 46 ∷ ys) ≡ xs ++ 46 ∷ ys) × (is_negative (xs ++ 46 ∷ ys) ≡ false)
unsigned_point [] ys s h = absurd (omega (arith, s))
unsigned_point (x ∷ xs) ys s h = let b = both (is_digit x) (list_all is_digit xs) h in (ap (λ t. cond t (xs ++ 46 ∷ ys) (x ∷ xs ++ 46 ∷ ys)) (digit_no_sign x b.0), digit_no_minus x b.0)

-- a whole number of femtoseconds
whole : (n : ℕ) → n ≤ 10 ^ 24 → femtoseconds (record { numerator = n * 10 ^ 0; denominator = 10 ^ 15 }) ≡ Ok n
whole n h =
    let small : nat_lt (10 ^ 9 * 10 ^ 15) (n * 10 ^ 0) ≡ false = Rattle.std.proofs.lemmas.Bool.le-ltb (10 ^ 9 * 10 ^ 15) (n * 10 ^ 0) (omega (arith, h)) in
    let none : ((n * 10 ^ 0 * 10 ^ 15) % 10 ^ 15 == 0) ≡ true = Rattle.std.proofs.Common.eq-eqb ((n * 10 ^ 0 * 10 ^ 15) % 10 ^ 15) 0 (omega arith) in
    let value : n * 10 ^ 0 * 10 ^ 15 / 10 ^ 15 ≡ n = omega arith in
    rw (small, none, value) refl

-- so the text of a time reads back
pub time_reads_back : TimesReadBack
time_reads_back t h =
    let q = t / 10 ^ 15 in
    let r = t % 10 ^ 15 in
    let xs = decimal q in
    let ys = last_digits 15 r in
    let w = of_decimal q (omega (arith, h)) in
    let f = of_last_digits 15 r (omega arith) in
    let u = unsigned_point xs ys w.some w.digits in
    let value : number (xs ++ ys) ≡ t = number-append xs ys ∙ ap (λ n. n * 10 ^ length ys + number ys) w.value ∙ ap (λ k. q * 10 ^ k + number ys) f.0 ∙ ap (λ n. q * 10 ^ 15 + n) f.1.1 ∙ (let e : q * 10 ^ 15 + r ≡ t = omega arith in e) in
    let seconds : seconds_of (unsigned (xs ++ 46 ∷ ys)) ≡ Some (record { numerator = t * 10 ^ 0; denominator = 10 ^ 15 }) =
    ap seconds_of u.0 ∙ seconds_of_point xs ys w.some w.digits f.1.0 ∙ ap (λ n. Some (record { numerator = n * 10 ^ 0; denominator = 10 ^ length ys })) value ∙ ap (λ k. Some (record { numerator = t * 10 ^ 0; denominator = 10 ^ k })) f.0 in
    ap (λ b. with_sign b (femtoseconds_if (seconds_of (unsigned (xs ++ 46 ∷ ys))))) u.1 ∙ ap (λ s. with_sign false (femtoseconds_if s)) seconds ∙ ap (with_sign false) (whole t h)
