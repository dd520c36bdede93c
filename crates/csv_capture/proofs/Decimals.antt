-- Seconds in femtoseconds: the whole ones, and the part of one that is left.
use Rattle.std.proofs.Common.{◌≡◌, ◌∙◌, ℕ, suc, ◌≤◌, ◌<◌, ◌+◌, ◌*◌, ◌-◌, ◌^◌, ◌==◌, ◌&&◌, ℤ, pos, negsuc, Bool, true, false, ltb, List, ◌++◌, length, length-append, take, drop, [], Ok, Err, refl, sym, ap, arith}
use Rattle.std.specs.List.{list_all}
use Rattle.std.proofs.Math.Nat.{mul_assoc, add-mul, one-le-pow}
use Rattle.std.proofs.lemmas.List.Folds.{list_all-append}
use Rattle.std.proofs.lemmas.List.{drop_all, length-drop, take_all, take-append-drop}
use Rattle.std.proofs.lemmas.Nat.{pow-add, mul-le, div-mul-add, mod-mul-add}
use Rattle.std.proofs.lemmas.Bool.Decides.{nat_tests}
use Rattle.csv_capture.specs.declared.time.TimeFault.TheVariants.{TooLarge, TooFine}
use Rattle.csv_capture.specs.Digits.{decimal, is_zero, moved_point, number_to}
use Rattle.capture_core.specs.Numerals.{is_digit, number}
use Rattle.csv_capture.specs.Times.{femtoseconds, scaled, Seconds}
use Rattle.capture_core.proofs.Numerals.{number-append, number-below, ten-le}
use Rattle.csv_capture.proofs.Numbers.{digits-after, number-more, number-zeros}

pub ten_pow : (k : ℕ) → 0 < 10 ^ k
ten_pow k = omega (arith, one-le-pow k 10 (omega arith))

-- so many whole femtoseconds, and a rest below one, which is none where they are exact
pub record Parts (s : Seconds) (whole : ℕ) (exact : Bool) : Type 0 where
  pub rest : ℕ
  pub split : s.numerator * 10 ^ 15 ≡ whole * s.denominator + rest
  pub below : rest < s.denominator
  pub none : (rest == 0) ≡ exact

pub femtoseconds-large : (s : Seconds) (whole : ℕ) (exact : Bool) → Parts s whole exact → 10 ^ 24 < whole → femtoseconds s ≡ Err TooLarge
femtoseconds-large s whole exact p h =
    let more : (10 ^ 24 + 1) * s.denominator ≤ whole * s.denominator = mul-le (10 ^ 24 + 1) s.denominator whole s.denominator (omega arith) (omega arith) in
    let over : 10 ^ 9 * s.denominator < s.numerator = omega (arith, more, p.split, p.below) in
    let large : ltb (10 ^ 9 * s.denominator) s.numerator ≡ true = grind (arith, nat_tests) in
    rw large refl

-- a billion seconds, and a part of a femtosecond
pub femtoseconds-over : (s : Seconds) (whole : ℕ) → Parts s whole false → whole ≡ 10 ^ 24 → femtoseconds s ≡ Err TooLarge
femtoseconds-over s whole p h =
    let some : 0 < p.rest = some_rest p.rest p.none in
    let all : whole * s.denominator ≡ 10 ^ 24 * s.denominator = ap (λ (x : ℕ). x * s.denominator) h in
    let over : 10 ^ 9 * s.denominator < s.numerator = omega (arith, all, p.split, some) in
    let large : ltb (10 ^ 9 * s.denominator) s.numerator ≡ true = grind (arith, nat_tests) in
    rw large refl
  where
    some_rest : (r : ℕ) → (r == 0) ≡ false → 0 < r
    some_rest r e = grind (arith, nat_tests)

pub femtoseconds-exact : (s : Seconds) (whole : ℕ) → Parts s whole true → whole ≤ 10 ^ 24 → femtoseconds s ≡ Ok whole
femtoseconds-exact s whole p h =
    let none : p.rest ≡ 0 = no_rest p.rest p.none in
    let few : whole * s.denominator ≤ 10 ^ 24 * s.denominator = mul-le whole s.denominator (10 ^ 24) s.denominator h (omega arith) in
    let within : s.numerator ≤ 10 ^ 9 * s.denominator = omega (arith, few, p.split, none) in
    let not_large : ltb (10 ^ 9 * s.denominator) s.numerator ≡ false = grind (arith, nat_tests) in
    rw (not_large, p.split, mod-mul-add whole s.denominator p.rest p.below, p.none, div-mul-add whole s.denominator p.rest p.below) refl
  where
    no_rest : (r : ℕ) → (r == 0) ≡ true → r ≡ 0
    no_rest r e = grind (arith, nat_tests)

pub femtoseconds-fine : (s : Seconds) (whole : ℕ) → Parts s whole false → whole < 10 ^ 24 → femtoseconds s ≡ Err TooFine
femtoseconds-fine s whole p h =
    let few : (whole + 1) * s.denominator ≤ 10 ^ 24 * s.denominator = mul-le (whole + 1) s.denominator (10 ^ 24) s.denominator (omega arith) (omega arith) in
    let within : s.numerator ≤ 10 ^ 9 * s.denominator = omega (arith, few, add-mul whole 1 s.denominator, p.split, p.below) in
    let not_large : ltb (10 ^ 9 * s.denominator) s.numerator ≡ false = grind (arith, nat_tests) in
    rw (not_large, p.split, mod-mul-add whole s.denominator p.rest p.below, p.none) refl

-- digits after the point of femtoseconds leave a rest, unless they are zeros
parts-back : (s : Seconds) (whole : ℕ) (back : List ℕ) (up down : ℕ) → list_all is_digit back ≡ true → s.numerator * 10 ^ 15 ≡ whole * 10 ^ down + number back * 10 ^ up
    → s.denominator ≡ 10 ^ down → length back + up ≤ down → Parts s whole (list_all is_zero back)
parts-back s whole back up down digits e d few = record {
  rest = number back * 10 ^ up;
  split = e ∙ ap (λ (x : ℕ). whole * x + number back * 10 ^ up) (sym d);
  below =
      let most : (number back + 1) * 10 ^ up ≤ 10 ^ length back * 10 ^ up = mul-le (number back + 1) (10 ^ up) (10 ^ length back) (10 ^ up) (omega (arith, number-below back digits)) (omega arith) in
      omega (arith, most, add-mul (number back) 1 (10 ^ up), pow-add 10 (length back) up, ten-le (length back + up) down few, ten_pow up, d);
  none = by (list_all is_zero back) refl;
}
  where
    by : (zeros : Bool) → list_all is_zero back ≡ zeros → (number back * 10 ^ up == 0) ≡ zeros
    by true z =
        let none : number back * 10 ^ up ≡ 0 = ap (λ (x : ℕ). x * 10 ^ up) (number-zeros back z) ∙ omega arith in
        rw none refl
    by false z =
        let some : 1 * 1 ≤ number back * 10 ^ up = mul-le 1 1 (number back) (10 ^ up) (number-more back digits z) (ten_pow up) in
        grind (arith, nat_tests)

-- all digits stand before that point, with zeros for those that are missing
parts-short : (s : Seconds) (digits : List ℕ) (count up down : ℕ) → s.numerator * 10 ^ 15 ≡ number digits * 10 ^ up → s.denominator ≡ 10 ^ down
    → count + down ≡ length digits + up → length digits ≤ count → Parts s (number_to digits count) (list_all is_zero (drop count digits))
parts-short s digits count up down e d place h =
    let zeros : ℕ = count - length digits in
    let sum : up ≡ zeros + down = omega arith in
    let power : 10 ^ up ≡ 10 ^ zeros * 10 ^ down = ap (λ (x : ℕ). 10 ^ x) sum ∙ pow-add 10 zeros down in
    let split : number digits * 10 ^ up ≡ number digits * 10 ^ zeros * 10 ^ down = ap (λ (x : ℕ). number digits * x) power ∙ sym (mul_assoc (number digits) (10 ^ zeros) (10 ^ down)) in
    rw (take_all count digits h, drop_all count digits h) (parts-back s (number digits * 10 ^ zeros) [] 0 down refl (omega (arith, e, split)) d (omega arith))

-- some of them stand after it
parts-long : (s : Seconds) (digits : List ℕ) (count up down : ℕ) → list_all is_digit digits ≡ true → s.numerator * 10 ^ 15 ≡ number digits * 10 ^ up → s.denominator ≡ 10 ^ down
    → count + down ≡ length digits + up → count < length digits → Parts s (number_to digits count) (list_all is_zero (drop count digits))
parts-long s digits count up down all e d place h =
    let front : List ℕ = take count digits in
    let back : List ℕ = drop count digits in
    let parted : front ++ back ≡ digits = take-append-drop count digits in
    let behind : list_all is_digit back ≡ true = digits-after front back (ap (list_all is_digit) parted ∙ all) in
    let sum : down ≡ length back + up = omega (arith, length-drop count digits) in
    let power : 10 ^ down ≡ 10 ^ length back * 10 ^ up = ap (λ (x : ℕ). 10 ^ x) sum ∙ pow-add 10 (length back) up in
    let value : number digits ≡ number front * 10 ^ length back + number back = ap number (sym parted) ∙ number-append front back in
    let none : count - length digits ≡ 0 = omega arith in
    let whole : number_to digits count ≡ number front = ap (λ (x : ℕ). number front * 10 ^ x) none ∙ omega arith in
    let split : number digits * 10 ^ up ≡ number front * 10 ^ down + number back * 10 ^ up =
    ap (λ (x : ℕ). x * 10 ^ up) value ∙ add-mul (number front * 10 ^ length back) (number back) (10 ^ up)
    ∙ ap (λ (x : ℕ). x + number back * 10 ^ up) (mul_assoc (number front) (10 ^ length back) (10 ^ up) ∙ ap (λ (x : ℕ). number front * x) (sym power)) in
    rw whole (parts-back s (number front) back up down behind (e ∙ split) d (omega arith))

-- all of them do, and zeros before them
parts-past : (s : Seconds) (digits : List ℕ) (up down : ℕ) → list_all is_digit digits ≡ true → s.numerator * 10 ^ 15 ≡ number digits * 10 ^ up → s.denominator ≡ 10 ^ down
    → length digits + up ≤ down → Parts s (number_to digits 0) (list_all is_zero digits)
parts-past s digits up down all e d few = parts-back s (number_to digits 0) digits up down all (omega (arith, e)) d few

-- the digits' number times a power of ten, over another
parts_at : (s : Seconds) (digits : List ℕ) (count up down : ℕ) → list_all is_digit digits ≡ true → s.numerator * 10 ^ 15 ≡ number digits * 10 ^ up → s.denominator ≡ 10 ^ down
    → count + down ≡ length digits + up → Parts s (number_to digits count) (list_all is_zero (drop count digits))
parts_at s digits count up down all e d place = by (ltb count (length digits)) refl
  where
    by : (b : Bool) → ltb count (length digits) ≡ b → Parts s (number_to digits count) (list_all is_zero (drop count digits))
    by true less = parts-long s digits count up down all e d place (grind (arith, nat_tests))
    by false more = parts-short s digits count up down e d place (grind (arith, nat_tests))

-- the whole femtoseconds of digits before and after a point, times a power of ten
pub parts_of : (whole fraction : List ℕ) (exponent : ℤ) → list_all is_digit (whole ++ fraction) ≡ true
    → Parts (scaled (decimal whole fraction) exponent) (number_to (whole ++ fraction) (moved_point (length whole) exponent)) (list_all is_zero (drop (moved_point (length whole) exponent) (whole ++ fraction)))
parts_of whole fraction (pos e) all =
    let digits : List ℕ = whole ++ fraction in
    let power : 10 ^ (e + 15) ≡ 10 ^ e * 10 ^ 15 = pow-add 10 e 15 in
    parts_at _ digits (length whole + 15 + e) (e + 15) (length fraction) all
    (mul_assoc (number digits) (10 ^ e) (10 ^ 15) ∙ ap (λ (x : ℕ). number digits * x) (sym power)) refl (omega (arith, length-append whole fraction))
parts_of whole fraction (negsuc e) all = by (ltb (length whole + 15) (suc e)) refl
  where
    digits : List ℕ
    digits = whole ++ fraction

    count : ℕ
    count = length whole + 15 - suc e

    s : Seconds
    s = scaled (decimal whole fraction) (negsuc e)

    power : s.denominator ≡ 10 ^ (length fraction + suc e)
    power = sym (pow-add 10 (length fraction) (suc e))

    by : (b : Bool) → ltb (length whole + 15) (suc e) ≡ b → Parts s (number_to digits count) (list_all is_zero (drop count digits))
    by true past =
        let none : count ≡ 0 = grind (arith, nat_tests) in
        rw none (parts-past s digits 15 (length fraction + suc e) all refl power (grind (arith, nat_tests, length-append whole fraction)))
    by false within = parts_at s digits count 15 (length fraction + suc e) all refl power (grind (arith, nat_tests, length-append whole fraction))

-- the same, of values that are known by equations
pub parts_known : (whole fraction : List ℕ) (exponent : ℤ) (count size : ℕ) (exact : Bool) → list_all is_digit whole ≡ true → list_all is_digit fraction ≡ true
    → count ≡ moved_point (length whole) exponent → size ≡ number_to (whole ++ fraction) count → exact ≡ list_all is_zero (drop count (whole ++ fraction))
    → Parts (scaled (decimal whole fraction) exponent) size exact
parts_known whole fraction exponent count size exact w f at is zeros =
    let digits : list_all is_digit (whole ++ fraction) ≡ true = list_all-append is_digit whole fraction ∙ ap (λ (b : Bool). b && list_all is_digit fraction) w ∙ f in
    rw (is, zeros, at) (parts_of whole fraction exponent digits)
