-- Digits at the front of a line.
use Rattle.std.proofs.Common.{◌≡◌, ℕ, zero, suc, ◌+◌, ◌-◌, ◌<◌, ◌≤◌, Bool, true, false, cond, ◌&&◌, List, [], ◌∷◌, length, take, drop, get_or, refl, sym, ◌∙◌, ap, subst, arith, add-one}
use Rattle.std.proofs.Math.Seq.{drop-cons, take-length}
use Rattle.std.proofs.lemmas.List.{length-drop}
use Rattle.std.proofs.lemmas.Bool.{false≢true}
use Rattle.std.specs.List.{list_all}
use Rattle.std.specs.Prelude.{Option, Some, None, ◌==◌, nat_lt}
use Rattle.std.proofs.lemmas.Bool.Decides.{nat_tests}
use Rattle.capture_core.specs.Numerals.{is_digit, number}
use Rattle.pair_certificate.specs.FirstFields.{digit_count, number_at}

-- one more digit
pub count_more : (k : ℕ) (bytes : List ℕ) (d n : ℕ) → k < length bytes → is_digit (get_or bytes k d) ≡ true → n ≡ k + digit_count (drop k bytes) → n ≡ (k + 1) + digit_count (drop (k + 1) bytes)
count_more k bytes d n h digit e =
    let cut : drop k bytes ≡ get_or bytes k d ∷ drop (suc k) bytes = drop-cons bytes k d h in
    let count : digit_count (drop k bytes) ≡ suc (digit_count (drop (suc k) bytes)) = ap digit_count cut ∙ ap (λ b. cond b (suc (digit_count (drop (suc k) bytes))) 0) digit in
    subst (λ m. n ≡ (k + 1) + digit_count (drop m bytes)) (sym (add-one k)) (omega (arith, e, count))

-- a byte that is none ends them
pub count_end : (k : ℕ) (bytes : List ℕ) (d n : ℕ) → k < length bytes → is_digit (get_or bytes k d) ≡ false → n ≡ k + digit_count (drop k bytes) → k ≡ n
count_end k bytes d n h digit e =
    let cut : drop k bytes ≡ get_or bytes k d ∷ drop (suc k) bytes = drop-cons bytes k d h in
    let count : digit_count (drop k bytes) ≡ 0 = ap digit_count cut ∙ ap (λ b. cond b (suc (digit_count (drop (suc k) bytes))) 0) digit in
    omega (arith, e, count)

drop_all : (bytes : List ℕ) (k : ℕ) → length bytes ≤ k → drop k bytes ≡ []
drop_all [] zero h = refl
drop_all [] (suc k) h = refl
drop_all (b ∷ bytes) zero h = absurd (omega (arith, h))
drop_all (b ∷ bytes) (suc k) h = drop_all bytes k (omega (arith, h))

pub count_all : (k : ℕ) (bytes : List ℕ) (n : ℕ) → length bytes ≤ k → n ≡ k + digit_count (drop k bytes) → k ≡ n
count_all k bytes n h e = let none : digit_count (drop k bytes) ≡ 0 = ap digit_count (drop_all bytes k h) in omega (arith, e, none)

-- what stands there are digits
one_more : (b : ℕ) (bytes : List ℕ) (r : Bool) → r ≡ is_digit b → list_all is_digit (take (digit_count bytes) bytes) ≡ true → list_all is_digit (take (cond r (suc (digit_count bytes)) 0) (b ∷ bytes)) ≡ true
one_more b bytes true e all = ap (λ x. x && list_all is_digit (take (digit_count bytes) bytes)) (sym e) ∙ all
one_more b bytes false e all = refl

pub front_digits : (bytes : List ℕ) → list_all is_digit (take (digit_count bytes) bytes) ≡ true
front_digits [] = refl
front_digits (b ∷ bytes) = one_more b bytes (is_digit b) refl (front_digits bytes)

test_none : (n : ℕ) → (n ≡ 0 → ⊥) → (n == 0) ≡ false
test_none zero h = absurd (h refl)
test_none (suc n) h = grind (arith, nat_tests)

test_less : (m n : ℕ) → n ≤ m → nat_lt m n ≡ false
test_less m n h = grind (arith, nat_tests)

first_no : (a : Bool) (x y : Option (ℕ × List ℕ)) → a ≡ true → y ≡ cond a y x
first_no true x y e = refl
first_no false x y e = absurd (false≢true e)

second_no : (a b : Bool) (x y : Option (ℕ × List ℕ)) → b ≡ true → y ≡ cond a y (cond b y x)
second_no true b x y e = refl
second_no false true x y e = refl
second_no false false x y e = absurd (false≢true e)

neither : (a b : Bool) (x y : Option (ℕ × List ℕ)) → a ≡ false → b ≡ false → x ≡ cond a y (cond b y x)
neither true b x y e f = absurd (false≢true (sym e))
neither false true x y e f = absurd (false≢true (sym f))
neither false false x y e f = refl

pub number_none : (most : ℕ) (bytes : List ℕ) (n : ℕ) → n ≡ digit_count bytes → n ≡ 0 → None ≡ number_at most bytes
unfolding number_at
number_none most bytes n e h = first_no (digit_count bytes == 0) _ None (let z : digit_count bytes ≡ 0 = sym e ∙ h in grind (arith, nat_tests))

pub number_past : (most : ℕ) (bytes : List ℕ) (n : ℕ) → n ≡ digit_count bytes → most < number (take n bytes) → None ≡ number_at most bytes
unfolding number_at
number_past most bytes n e h = second_no (digit_count bytes == 0) (nat_lt most (number (take (digit_count bytes) bytes))) _ None (let z : most < number (take (digit_count bytes) bytes) = subst (λ k. most < number (take k bytes)) e h in grind (arith, nat_tests))

pub number_some : (most : ℕ) (bytes : List ℕ) (n x : ℕ) → n ≡ digit_count bytes → (n ≡ 0 → ⊥) → x ≡ number (take n bytes) → x ≤ most → Some (x, drop n bytes) ≡ number_at most bytes
unfolding number_at
number_some most bytes n x e some is h =
    let v : x ≡ number (take (digit_count bytes) bytes) = is ∙ ap (λ k. number (take k bytes)) e in
    let pair : Some (x, drop n bytes) ≡ Some (number (take (digit_count bytes) bytes), drop (digit_count bytes) bytes) = rw (v, e) refl in
    pair ∙ neither (digit_count bytes == 0) (nat_lt most (number (take (digit_count bytes) bytes))) (Some (number (take (digit_count bytes) bytes), drop (digit_count bytes) bytes)) None
    (test_none (digit_count bytes) (λ z. some (e ∙ z))) (test_less most (number (take (digit_count bytes) bytes)) (subst (λ k. k ≤ most) v h))

-- a rest is all of itself
pub rest_whole : (bytes : List ℕ) (k : ℕ) → take (length bytes - k) (drop k bytes) ≡ drop k bytes
rest_whole bytes k = ap (λ n. take n (drop k bytes)) (sym (length-drop k bytes)) ∙ take-length (drop k bytes)
