-- Numbers that digits spell: zeros, and digits in two parts.
use Rattle.std.proofs.Common.{◌≡◌, ◌∙◌, ℕ, zero, suc, ◌≤◌, ◌<◌, ◌+◌, ◌*◌, ◌-◌, ◌==◌, ◌&&◌, Bool, true, false, List, [], ◌∷◌, ◌++◌, length, take, drop, refl, sym, ap, arith}
use Rattle.std.specs.List.{list_all}
use Rattle.std.proofs.lemmas.Bool.Decides.{nat_tests}
use Rattle.std.proofs.lemmas.List.{take-append-drop}
use Rattle.std.proofs.lemmas.List.Folds.{list_all-append}
use Rattle.csv_capture.specs.Digits.{is_zero}
use Rattle.capture_core.proofs.Numerals.{both, number_after-least}
use Rattle.capture_core.specs.Numerals.{is_digit, number, number_after}
use Rattle.csv_capture.specs.Times.{are_digits}

-- zeros spell zero
pub number-zeros : (ys : List ℕ) → list_all is_zero ys ≡ true → number ys ≡ 0
number-zeros [] h = refl
number-zeros (d ∷ ys) h =
    let (first, rest) = both (is_zero d) (list_all is_zero ys) h in
    let none : 0 * 10 + (d - 48) ≡ 0 = grind (arith, nat_tests) in
    ap (λ (n : ℕ). number_after n ys) none ∙ number-zeros ys rest

-- digits that are not all zeros spell a greater number
pub number-more : (ys : List ℕ) → list_all is_digit ys ≡ true → list_all is_zero ys ≡ false → 0 < number ys
number-more [] h z = cc z
number-more (d ∷ ys) h z =
    let (first, rest) = both (is_digit d) (list_all is_digit ys) h in
    by (is_zero d) refl first (λ more. number-more ys rest more)
  where
    by : (b : Bool) → is_zero d ≡ b → is_digit d ≡ true → (list_all is_zero ys ≡ false → 0 < number ys) → 0 < number (d ∷ ys)
    by true e first more =
        let none : 0 * 10 + (d - 48) ≡ 0 = grind (arith, nat_tests) in
        let rest : list_all is_zero ys ≡ false = rw e at z in
        omega (arith, more rest, ap (λ (n : ℕ). number_after n ys) none)
    by false e first more =
        let some : 1 ≤ 0 * 10 + (d - 48) = grind (arith, nat_tests) in
        omega (arith, number_after-least (0 * 10 + (d - 48)) ys)

-- digits all, and so the last of them
pub digits-after : (xs ys : List ℕ) → list_all is_digit (xs ++ ys) ≡ true → list_all is_digit ys ≡ true
digits-after [] ys h = h
digits-after (d ∷ xs) ys h = digits-after xs ys (both (is_digit d) (list_all is_digit (xs ++ ys)) h).1

-- some digits, and more
pub are_digits-append : (xs ys : List ℕ) → (length xs == 0) ≡ false → are_digits (xs ++ ys) ≡ (list_all is_digit xs && list_all is_digit ys)
are_digits-append [] ys h = cc h
are_digits-append (d ∷ xs) ys h = list_all-append is_digit (d ∷ xs) ys

pub are_digits-none : (xs ys : List ℕ) → (length xs == 0) ≡ true → are_digits (xs ++ ys) ≡ are_digits ys
are_digits-none [] ys h = refl
are_digits-none (d ∷ xs) ys h = absurd (suc_not_zero (length xs) h)
  where
    suc_not_zero : (n : ℕ) → (suc n == 0) ≡ true → ⊥
    suc_not_zero n e = grind (arith, nat_tests)

-- what stands before and after a place in two lists
pub take-both : (n : ℕ) (xs ys : List ℕ) → take n (xs ++ ys) ≡ take n xs ++ take (n - length xs) ys
take-both zero xs ys = let none : 0 - length xs ≡ 0 = omega arith in rw none refl
take-both (suc n) [] ys = let all : suc n - 0 ≡ suc n = omega arith in ap (λ (k : ℕ). take k ys) (sym all)
take-both (suc n) (x ∷ xs) ys =
    let less : suc n - suc (length xs) ≡ n - length xs = omega arith in
    ap (λ (r : List ℕ). x ∷ r) (take-both n xs ys) ∙ ap (λ (k : ℕ). x ∷ take n xs ++ take k ys) (sym less)

pub drop-both : (n : ℕ) (xs ys : List ℕ) → drop n (xs ++ ys) ≡ drop n xs ++ drop (n - length xs) ys
drop-both zero xs ys = let none : 0 - length xs ≡ 0 = omega arith in rw none refl
drop-both (suc n) [] ys = let all : suc n - 0 ≡ suc n = omega arith in ap (λ (k : ℕ). drop k ys) (sym all)
drop-both (suc n) (x ∷ xs) ys =
    let less : suc n - suc (length xs) ≡ n - length xs = omega arith in
    drop-both n xs ys ∙ ap (λ (k : ℕ). drop n xs ++ drop k ys) (sym less)

-- digits all, and so the first of them
pub digits-before : (xs ys : List ℕ) → list_all is_digit (xs ++ ys) ≡ true → list_all is_digit xs ≡ true
digits-before [] ys h = refl
digits-before (d ∷ xs) ys h =
    let (first, rest) = both (is_digit d) (list_all is_digit (xs ++ ys)) h in
    rw first (digits-before xs ys rest)

pub digits-take : (n : ℕ) (xs : List ℕ) → list_all is_digit xs ≡ true → list_all is_digit (take n xs) ≡ true
digits-take n xs h = digits-before (take n xs) (drop n xs) (ap (list_all is_digit) (take-append-drop n xs) ∙ h)

pub some_digits : (text : List ℕ) → are_digits text ≡ true → list_all is_digit text ≡ true
some_digits [] h = cc h
some_digits (b ∷ bytes) h = h
