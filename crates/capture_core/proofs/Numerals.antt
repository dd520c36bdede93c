-- Numbers that digits spell.
use Rattle.std.proofs.Common.{◌≡◌, ◌∙◌, ℕ, suc, ◌≤◌, ◌<◌, ◌+◌, ◌*◌, ◌-◌, ◌^◌, ◌&&◌, Bool, true, false, List, [], ◌∷◌, ◌++◌, length, drop, get_or, refl, ap, arith}
use Rattle.std.specs.List.{list_all}
use Rattle.std.proofs.Math.Nat.{pow-le-pow_right, pow-succ', add-mul, mul_assoc}
use Rattle.std.proofs.Math.Seq.{drop-cons}
use Rattle.std.proofs.lemmas.Nat.{mul-le}
use Rattle.std.proofs.lemmas.Bool.Decides.{nat_tests}
use Rattle.capture_core.specs.Numerals.{is_digit, number, number_after}

pub both : (a b : Bool) → a && b ≡ true → (a ≡ true) × (b ≡ true)
both true b h = (refl, h)
both false b h = cc h

-- more digits make no smaller number
pub number_after-least : (n : ℕ) (digits : List ℕ) → n ≤ number_after n digits
number_after-least n [] = omega arith
number_after-least n (d ∷ digits) = omega (arith, number_after-least (n * 10 + (d - 48)) digits)

-- what stands at a place is at most the number of all that follows
pub next-least : (n i whole : ℕ) (xs : List ℕ) → i < length xs → number_after n (drop i xs) ≡ whole → n * 10 + (get_or xs i 0 - 48) ≤ whole
next-least n i whole xs h e =
    omega (arith, number_after-least (n * 10 + (get_or xs i 0 - 48)) (drop (suc i) xs), ap (number_after n) (drop-cons xs i 0 h), e)

pub ten-le : (i j : ℕ) → i ≤ j → 10 ^ i ≤ 10 ^ j
ten-le i j h = pow-le-pow_right (omega arith) h

pub ruleset numbers = (number_after-least)

-- digits after digits
pub number_after-append : (n : ℕ) (xs ys : List ℕ) → number_after n (xs ++ ys) ≡ number_after (number_after n xs) ys
number_after-append n [] ys = refl
number_after-append n (d ∷ xs) ys = number_after-append (n * 10 + (d - 48)) xs ys

-- digits after a number shift it
pub number_after-shift : (n : ℕ) (ys : List ℕ) → number_after n ys ≡ n * 10 ^ length ys + number ys
number_after-shift n [] = omega arith
number_after-shift n (d ∷ ys) =
    let p : ℕ = 10 ^ length ys in
    let v : ℕ = d - 48 in
    let a = number_after-shift (n * 10 + v) ys in
    let b = number_after-shift (0 * 10 + v) ys in
    let more : 10 ^ suc (length ys) ≡ 10 * p = pow-succ' 10 (length ys) in
    let shifted = ap (λ (x : ℕ). n * x) more in
    omega (arith, a, b, shifted, add-mul (n * 10) v p, add-mul (0 * 10) v p, mul_assoc n 10 p)

pub number-append : (xs ys : List ℕ) → number (xs ++ ys) ≡ number xs * 10 ^ length ys + number ys
number-append xs ys = number_after-append 0 xs ys ∙ number_after-shift (number xs) ys

digit-below : (d : ℕ) → is_digit d ≡ true → d - 48 ≤ 9
digit-below d h = grind (arith, nat_tests)

-- so many digits spell a number below that power of ten
pub number-below : (ys : List ℕ) → list_all is_digit ys ≡ true → number ys < 10 ^ length ys
number-below [] h = omega arith
number-below (d ∷ ys) h =
    let p : ℕ = 10 ^ length ys in
    let v : ℕ = d - 48 in
    let (first, rest) = both (is_digit d) (list_all is_digit ys) h in
    let more : 10 ^ suc (length ys) ≡ 10 * p = pow-succ' 10 (length ys) in
    omega (arith, number_after-shift (0 * 10 + v) ys, number-below ys rest, add-mul (0 * 10) v p, mul-le v p 9 p (digit-below d first) (omega arith), more)

-- and few of them one that 64 bits hold
pub number-short : (ys : List ℕ) → list_all is_digit ys ≡ true → length ys ≤ 18 → number ys < 10 ^ 18
number-short ys h few = omega (arith, number-below ys h, ten-le (length ys) 18 few)
