-- The last word of a set has no bit past the numbers that the set is of.
use Rattle.std.proofs.Common.{◌≡◌, ℕ, zero, suc, ◌+◌, ◌-◌, ◌*◌, ◌^◌, ◌<◌, ◌≤◌, ◌⊎◌, inl, inr, Bool, false, List, [], ◌∷◌, ◌++◌, get_or, refl, sym, ap, subst, ◌∙◌, cond, arith, nat_lt, length, Some, slice_get}
use Rattle.std.proofs.Math.Nat.{pow-le-pow_right}
use Rattle.std.proofs.lemmas.Bool.{le-ltb}
use Rattle.std.proofs.lemmas.List.{get_or_append_left, get_or-append-add}
use Rattle.std.proofs.lemmas.Bool.{cases_lt}
use Rattle.std.specs.Prelude.{◌&&◌, flat_map}
use Rattle.position_nfa.specs.declared.pair.Pair.{Pair}
use Rattle.place_words.specs.Words.{has, IsSet, words_for, set_of, word_of, words_from}
use Rattle.place_words.proofs.SetOf.{set_of-only, has-true, true-has, word_of-lt, get_or-words_from, fits_all}

le_or_same : (m b : ℕ) → m ≤ suc b → (m ≤ b) ⊎ (m ≡ suc b)
le_or_same m b h = grind arith

word_short : (test : ℕ → Bool) (first b m : ℕ) → m ≤ b → ((i : ℕ) → m ≤ i → test (first + i) ≡ false) → word_of test first b < 2 ^ m
unfolding word_of
word_short test first zero m h none = subst (λ k. 0 < 2 ^ k) (at_zero m h) (omega arith)
  where
    at_zero : (m : ℕ) → m ≤ 0 → 0 ≡ m
    at_zero m h = omega (arith, h)
word_short test first (suc b) m h none = by (λ le. word_short test first b m le none) (le_or_same m b h)
  where
    by : (m ≤ b → word_of test first b < 2 ^ m) → (m ≤ b) ⊎ (m ≡ suc b) → word_of test first b + cond (test (first + b)) (2 ^ b) 0 < 2 ^ m
    by rest (inl le) = let less = rest le in let bit : cond (test (first + b)) (2 ^ b) 0 ≡ 0 = ap (λ t. cond t (2 ^ b) 0) (none b le) in omega (arith, less, bit)
    by rest (inr e) = subst (λ k. word_of test first b + cond (test (first + b)) (2 ^ b) 0 < 2 ^ k) (sym e) (word_of-lt test first (suc b))

none_past : (n at i : ℕ) (t : Bool) → n - at ≤ i → (nat_lt (at + i) n && t) ≡ false
none_past n at i t h = ap (λ b. b && t) (le-ltb (at + i) n (omega (arith, h)))

set_word : (n : ℕ) (test : ℕ → Bool) (j : ℕ) → j < words_for n → get_or (set_of n test) j 0 < 2 ^ (n - 64 * j)
unfolding set_of
set_word n test j lt =
    let small : (n - 64 * j ≤ 64) ⊎ (64 ≤ n - 64 * j) = either (n - 64 * j) in
    let all : ℕ → Bool = λ i. nat_lt i n && test i in
    let word : get_or (words_from all 0 (words_for n)) j 0 ≡ word_of all (0 + 64 * j) 64 = get_or-words_from all 0 (words_for n) j lt in
    subst (λ x. x < 2 ^ (n - 64 * j)) (sym word) (short all small)
  where
    either : (m : ℕ) → (m ≤ 64) ⊎ (64 ≤ m)
    either m = grind arith

    short : (all : ℕ → Bool) → (n - 64 * j ≤ 64) ⊎ (64 ≤ n - 64 * j) → word_of (λ i. nat_lt i n && test i) (0 + 64 * j) 64 < 2 ^ (n - 64 * j)
    short all (inl le) = word_short (λ i. nat_lt i n && test i) (0 + 64 * j) 64 (n - 64 * j) le (λ i past. none_past n (0 + 64 * j) i (test (0 + 64 * j + i)) (omega (arith, past)))
    short all (inr le) =
        let low : word_of (λ i. nat_lt i n && test i) (0 + 64 * j) 64 < 2 ^ 64 = word_of-lt (λ i. nat_lt i n && test i) (0 + 64 * j) 64 in
        let more : 2 ^ 64 ≤ 2 ^ (n - 64 * j) = pow-le-pow_right {n = 2} (omega arith) le in
        omega (arith, low, more)

pub last_word : (n : ℕ) (set : List ℕ) → IsSet n set → 1 ≤ n → get_or set (words_for n - 1) 0 < 2 ^ (n - 64 * (words_for n - 1))
last_word n set is some =
    let e : set ≡ set_of n (has set) = set_of-only n (has set) set is (λ i h. has-true set i h) (λ i lt t. true-has set i t) in
    subst (λ s. get_or s (words_for n - 1) 0 < 2 ^ (n - 64 * (words_for n - 1))) (sym e) (set_word n (has set) (words_for n - 1) (omega (arith, some)))

-- numbers that fit a word, with one more
pub fits_push : (old new : List ℕ) (v : ℕ) → new ≡ old ++ v ∷ [] → v < 2 ^ 64 → ((k : ℕ) → get_or old k 0 < 2 ^ 64) → (k : ℕ) → get_or new k 0 < 2 ^ 64
fits_push old new v e fit before k = subst (λ (l : List ℕ). get_or l k 0 < 2 ^ 64) (sym e) (pushed old k before)
  where
    pushed : (xs : List ℕ) (k : ℕ) → ((k : ℕ) → get_or xs k 0 < 2 ^ 64) → get_or (xs ++ v ∷ []) k 0 < 2 ^ 64
    pushed [] zero h = fit
    pushed [] (suc k) h = omega arith
    pushed (x ∷ xs) zero h = h 0
    pushed (x ∷ xs) (suc k) h = pushed xs k (λ i. h (suc i))

-- the words of sets fit
pub sets_fit : (n : ℕ) (states : List Pair) → ((q : ℕ) (x : Pair) → slice_get states q ≡ Some x → IsSet n x.set) → (k : ℕ) → get_or (flat_map {A = ℕ} (λ (p : Pair). p.set) states) k 0 < 2 ^ 64
sets_fit n [] each k = omega arith
sets_fit n (y ∷ ys) each k = elim (cases_lt k (length y.set)) [
  | inl lt ↦ subst (λ x. x < 2 ^ 64) (sym (get_or_append_left y.set (flat_map {A = ℕ} (λ (p : Pair). p.set) ys) 0 k lt)) (fits_all y.set (each 0 y refl).fits k)
  | inr past ↦
      let place : k ≡ length y.set + (k - length y.set) = omega (arith, past) in
      let e = ap (λ i. get_or (y.set ++ flat_map {A = ℕ} (λ (p : Pair). p.set) ys) i 0) place ∙ get_or-append-add y.set (flat_map {A = ℕ} (λ (p : Pair). p.set) ys) (k - length y.set) 0 in
      subst (λ x. x < 2 ^ 64) (sym e) (sets_fit n ys (λ q x h. each (suc q) x h) (k - length y.set))
]
