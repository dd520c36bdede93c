-- Numbers in digits read back.
use Rattle.std.proofs.Common.{◌≡◌, ◌≢◌, ℕ, zero, suc, ◌+◌, ◌-◌, ◌*◌, ◌/◌, ◌%◌, ◌^◌, ◌<◌, ◌≤◌, ◌&&◌, Bool, true, false, List, [], ◌∷◌, ◌++◌, length, refl, sym, ◌∙◌, ap, subst, arith, rules}
use Rattle.std.specs.List.{list_all}
use Rattle.std.specs.Prelude.{decimal}
use Rattle.std.proofs.Math.Nat.{pow-succ'}
use Rattle.std.proofs.lemmas.Bool.Decides.{nat_tests}
use Rattle.std.proofs.lemmas.Fmt.{decimal_is_IsNumeral_wide}
use Rattle.std.proofs.lemmas.List.Folds.{list_all-append}
use Rattle.std.proofs.lemmas.Str.Parse.{IsDigitsTest, FoldsDigits, IsNumeralModel, numerals_by_fold}
use Rattle.std.specs.Int.{IsInRange}
use Rattle.capture_core.specs.Numerals.{is_digit, number, number_after}
use Rattle.capture_core.proofs.Numerals.{both, number-append}
use Rattle.stimulus_files.specs.Files.{last_digits}

abbrev pub AreDigits : List ℕ → Type 0
AreDigits ds = list_all is_digit ds ≡ true

in_range : (c : ℕ) → is_digit c ≡ true → IsInRange 48 57 c
in_range c h = grind (arith, nat_tests)

is_in_range : (c : ℕ) → IsInRange 48 57 c → is_digit c ≡ true
is_in_range c h = grind (arith, nat_tests)

more_digits : (c : ℕ) (cs : List ℕ) → is_digit c ≡ true → AreDigits cs → AreDigits (c ∷ cs)
more_digits c cs h k = rw (h, k) refl

tests : IsDigitsTest AreDigits
tests = record { empty = refl; parts = λ c cs h. let b = both (is_digit c) (list_all is_digit cs) h in (in_range c b.0, b.1); more = λ c cs h k. more_digits c cs (is_in_range c h) k }

folds : FoldsDigits number_after
folds = record { empty = λ n. refl; more = λ n c cs h. refl }

model : IsNumeralModel AreDigits number
model = numerals_by_fold AreDigits tests number_after folds

-- a number's decimal digits
pub record IsNumeralOf (n : ℕ) (ds : List ℕ) : Type 0 where
  pub some : 0 < length ds
  pub digits : AreDigits ds
  pub value : number ds ≡ n

pub of_decimal : (n : ℕ) → n < 10 ^ 64 → IsNumeralOf n (decimal n)
of_decimal n h = let d = decimal_is_IsNumeral_wide n h in record { some = d.0.0; digits = model.from (decimal n) d.0.1; value = model.same (decimal n) d.0.1 ∙ d.1 }

-- the last digits of a number
one_digit : (n : ℕ) → is_digit (48 + n % 10) ≡ true
one_digit n = is_in_range (48 + n % 10) (within (n % 10) (omega arith))
  where
    within : (d : ℕ) → d < 10 → IsInRange 48 57 (48 + d)
    within d h = (omega arith, omega (arith, h))

pub of_last_digits : (k n : ℕ) → n < 10 ^ k → (length (last_digits k n) ≡ k) × (AreDigits (last_digits k n) × (number (last_digits k n) ≡ n))
of_last_digits zero n h = (refl, (refl, none n h))
  where
    none : (n : ℕ) → n < 10 ^ 0 → 0 ≡ n
    none n h = omega (arith, h)
of_last_digits (suc k) n h =
    let more : 10 ^ suc k ≡ 10 * 10 ^ k = pow-succ' 10 k in
    let small : n / 10 < 10 ^ k = omega (arith, h, more) in
    let r = of_last_digits k (n / 10) small in
    let last : List ℕ = (48 + n % 10) ∷ [] in
    let long : length (last_digits k (n / 10) ++ last) ≡ length (last_digits k (n / 10)) + 1 = Rattle.std.proofs.Common.length-append (last_digits k (n / 10)) last in
    let value : number (last_digits k (n / 10) ++ last) ≡ number (last_digits k (n / 10)) * 10 ^ 1 + number last = number-append (last_digits k (n / 10)) last in
    let digit : number last ≡ n % 10 = omega arith in
    let all : list_all is_digit (last_digits k (n / 10) ++ last) ≡ (list_all is_digit (last_digits k (n / 10)) && list_all is_digit last) = list_all-append is_digit (last_digits k (n / 10)) last in
    let here : list_all is_digit last ≡ true = more_digits (48 + n % 10) [] (one_digit n) refl in
    (omega (arith, long, r.0), (all ∙ joined (list_all is_digit (last_digits k (n / 10))) (list_all is_digit last) r.1.0 here, omega (arith, value, digit, r.1.1)))
  where
    joined : (a b : Bool) → a ≡ true → b ≡ true → (a && b) ≡ true
    joined a b e f = rw (e, f) refl
