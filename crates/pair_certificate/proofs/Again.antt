-- What is printed is read again.
use Rattle.std.proofs.Common.{◌≡◌, ℕ, suc, ◌-◌, ◌^◌, ◌<◌, ◌≤◌, Bool, true, false, cond, ◌&&◌, List, [], ◌∷◌, ◌++◌, length, take, ℤ, pos, negsuc, neg_ℤ, ◌≤ℤ◌, refl, sym, ◌∙◌, ap, arith, rules}
use mathlib.Core.List.{append_assoc}
use Rattle.std.proofs.Math.Seq.{take-append_seam, drop-append_seam}
use Rattle.std.proofs.lemmas.Bool.{false≢true}
use Rattle.std.proofs.lemmas.Bool.Decides.{nat_tests}
use Rattle.std.proofs.lemmas.Int.{ints}
use Rattle.std.specs.List.{list_all}
use Rattle.std.specs.Prelude.{Some, None, decimal, codes, nat_eq}
use Rattle.std.specs.Fmt.{signed_decimal}
use Rattle.std.specs.Option.{option_map}
use Rattle.std.proofs.lemmas.Str.Parse.{IsNumeralModel, numerals_by_fold}
use Rattle.std.proofs.lemmas.Fmt.{decimal_is_IsNumeral_wide}
use Rattle.wheel_types.specs.declared.place.Place.{Place}
use Rattle.wheel_types.specs.Texts.{place_text}
use Rattle.capture_core.specs.Numerals.{is_digit, number, number_after}
use Rattle.pair_certificate.specs.FirstFields.{digit_count, number_at, after_text, with_sign, signed_at, place_at}
use Rattle.pair_certificate.specs.Reports.{IsPlaceInRange}
use Rattle.pair_certificate.proofs.Digits.{number_some}

own : IsNumeralModel (λ ds. list_all is_digit ds ≡ true) number
own = numerals_by_fold _ (search rules) number_after (search rules)

-- what follows does not go on with a digit
abbrev pub Stops : List ℕ → Type 0
Stops [] = Unit {0}
Stops (b ∷ bytes) = is_digit b ≡ false

pub parts : (a b : Bool) → a && b ≡ true → (a ≡ true) × (b ≡ true)
parts true b h = (refl, h)
parts false b h = absurd (false≢true h)

counted_none : (rest : List ℕ) → Stops rest → digit_count rest ≡ 0
counted_none [] s = refl
counted_none (b ∷ rest) s = ap (λ x. cond x (suc (digit_count rest)) 0) s

counted : (ds rest : List ℕ) → list_all is_digit ds ≡ true → Stops rest → digit_count (ds ++ rest) ≡ length ds
counted [] rest h s = counted_none rest s
counted (d ∷ ds) rest h s =
    let p = parts (is_digit d) (list_all is_digit ds) h in
    ap (λ x. cond x (suc (digit_count (ds ++ rest))) 0) p.0 ∙ ap suc (counted ds rest p.1 s)

-- the digits of a number
pub record Digits (n : ℕ) : Type 0 where
  pub all : list_all is_digit (decimal n) ≡ true
  pub some : 0 < length (decimal n)
  pub value : number (decimal n) ≡ n

pub digits_of : (n : ℕ) → n < 10 ^ 64 → Digits n
digits_of n h =
    let d = decimal_is_IsNumeral_wide n h in
    record { all = own.from (decimal n) d.0.1; some = d.0.0; value = own.same (decimal n) d.0.1 ∙ d.1 }

pub number_again : (most n : ℕ) (rest : List ℕ) → n ≤ most → n < 10 ^ 64 → Stops rest → number_at most (decimal n ++ rest) ≡ Some (n, rest)
number_again most n rest h few s =
    let d : Digits n = digits_of n few in
    let count : length (decimal n) ≡ digit_count (decimal n ++ rest) = sym (counted (decimal n) rest d.all s) in
    let value : n ≡ number (take (length (decimal n)) (decimal n ++ rest)) = sym (ap number (take-append_seam (decimal n) rest) ∙ d.value) in
    sym (ap (λ r. Some (n, r)) (sym (drop-append_seam (decimal n) rest)) ∙ number_some most (decimal n ++ rest) (length (decimal n)) n count (λ z. absurd (omega (arith, d.some, z))) value h)

minus_there : (xs : List ℕ) → after_text (codes "-") (45 ∷ xs) ≡ Some xs
minus_there xs = refl

no_minus : (d : ℕ) → is_digit d ≡ true → nat_eq 45 d ≡ false
no_minus d h = grind (arith, nat_tests)

none_minus : (xs rest : List ℕ) → list_all is_digit xs ≡ true → 0 < length xs → after_text (codes "-") (xs ++ rest) ≡ None
none_minus [] rest h some = absurd (omega (arith, some))
none_minus (d ∷ xs) rest h some = ap (λ b. cond (b && true) (Some (xs ++ rest)) None) (no_minus d (parts (is_digit d) (list_all is_digit xs) h).0)

pub signed_again : (low high : ℕ) (z : ℤ) (rest : List ℕ) → low < 10 ^ 64 → high < 10 ^ 64 → neg_ℤ (pos low) ≤ℤ z → z ≤ℤ pos high → Stops rest → signed_at low high (signed_decimal z ++ rest) ≡ Some (z, rest)
unfolding signed_at
signed_again low high (pos n) rest l h least most s =
    let few : n ≤ high = omega (arith, ints, most) in
    let d : Digits n = digits_of n (omega (arith, few, h)) in
    ap (with_sign low high (decimal n ++ rest)) (none_minus (decimal n) rest d.all d.some) ∙ ap (option_map (λ (x : ℕ × List ℕ). (pos x.0, x.1))) (number_again high n rest few (omega (arith, few, h)) s)
signed_again low high (negsuc n) rest l h least most s =
    let few : suc n ≤ low = omega (arith, ints, least) in
    ap (with_sign low high (45 ∷ (decimal (suc n) ++ rest))) (minus_there (decimal (suc n) ++ rest)) ∙ ap (option_map (λ (x : ℕ × List ℕ). (neg_ℤ (pos x.0), x.1))) (number_again low (suc n) rest few (omega (arith, few, l)) s)

pub place_again : (p : Place) (rest : List ℕ) → IsPlaceInRange p → Stops rest → place_at (place_text p ++ rest) ≡ Some (p, rest)
unfolding place_at
place_again p rest h s =
    let third : List ℕ = signed_decimal p.n2 ++ rest in
    let second : List ℕ = signed_decimal p.n1 ++ (58 ∷ third) in
    let apart : place_text p ++ rest ≡ decimal p.j ++ (58 ∷ second) = simp append_assoc in
    let small : p.j ≤ 2 ^ 32 - 1 = let j : p.j < 2 ^ 32 = h.j in omega (arith, j) in
    ap place_at apart
    ∙ rw (
      number_again (2 ^ 32 - 1) p.j (58 ∷ second) small (omega (arith, small)) refl,
      signed_again (2 ^ 31) (2 ^ 31 - 1) p.n1 (58 ∷ third) (omega arith) (omega arith) h.n1.0 h.n1.1 refl,
      signed_again (2 ^ 31) (2 ^ 31 - 1) p.n2 rest (omega arith) (omega arith) h.n2.0 h.n2.1 s,
    ) refl
