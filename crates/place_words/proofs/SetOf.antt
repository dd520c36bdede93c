-- The set of the numbers that pass a test.
use Rattle.std.proofs.Common.{◌≡◌, ℕ, zero, suc, ◌+◌, ◌-◌, ◌*◌, ◌/◌, ◌%◌, ◌^◌, ◌<◌, ◌≤◌, inl, inr, Bool, true, false, cond, ◌&&◌, List, length, get_or, refl, sym, ap, ◌∙◌, arith, eq-eqb, eqb-true, true≢false, replicate}
use Rattle.std.proofs.Math.Nat.{pow-succ'}
use Rattle.std.proofs.lemmas.Bool.{cases_eq, cases_lt, and_parts, ltb-true, lt-ltb}
use Rattle.std.proofs.lemmas.Nat.Bits.{bit_at_cat_low, bit_at_cat_high}
use Rattle.std.specs.Prelude.{All, nat_lt}
use Rattle.std.specs.Int.{bit_at}
use Rattle.std.proofs.lemmas.List.{get_or_past, length-replicate}
use Rattle.std.proofs.lemmas.List.Elements.{All-from_get_or, All-get_or, All-replicate}
use Rattle.place_words.specs.Words.{Has, has, IsSet, words_for, word_of, words_from, set_of, has_none}
use Rattle.place_words.proofs.WordLaws.{same_words, has_within, has_none_tests, empty_zeros}

at_suc : (t : Bool) (w b : ℕ) → w + cond t (2 ^ b) 0 ≡ cond t 1 0 * 2 ^ b + w
at_suc true w b = omega arith
at_suc false w b = omega arith

bit_le : (t : Bool) → cond t 1 0 ≤ 1
bit_le true = omega arith
bit_le false = omega arith

bit_of_bit : (t : Bool) → bit_at (cond t 1 0) 0 ≡ cond t 1 0
bit_of_bit true = refl
bit_of_bit false = refl

word_lt : (t w p : ℕ) → t ≤ 1 → w < p → t * p + w < 2 * p
word_lt zero w p le lt = omega arith
word_lt (suc zero) w p le lt = omega arith
word_lt (suc (suc t)) w p le lt = absurd (omega arith)

pub word_of-lt : (test : ℕ → Bool) (first b : ℕ) → word_of test first b < 2 ^ b
unfolding word_of
word_of-lt test first zero = omega arith
word_of-lt test first (suc b) =
    let t : ℕ = cond (test (first + b)) 1 0 in
    rw (at_suc (test (first + b)) (word_of test first b) b, pow-succ' 2 b) (word_lt t (word_of test first b) (2 ^ b) (bit_le (test (first + b))) (word_of-lt test first b))

-- bit i of the word is the test of `first + i`
pub bit_at-word_of : (test : ℕ → Bool) (first b i : ℕ) → i < b → bit_at (word_of test first b) i ≡ cond (test (first + i)) 1 0
unfolding word_of
bit_at-word_of test first zero i lt = absurd (omega arith)
bit_at-word_of test first (suc b) i lt =
    let t : ℕ = cond (test (first + b)) 1 0 in
    let w : ℕ = word_of test first b in
    let e : bit_at (w + cond (test (first + b)) (2 ^ b) 0) i ≡ bit_at (t * 2 ^ b + w) i = ap (λ v. bit_at v i) (at_suc (test (first + b)) w b) in
    elim (cases_eq i b) [
      | inl same ↦ e ∙ (bit_at_cat_high t b w i (word_of-lt test first b) (omega arith) ∙ (ap (bit_at t) (sub_same i b same) ∙ (bit_of_bit (test (first + b)) ∙ ap (λ k. cond (test (first + k)) 1 0) (sym same))))
      | inr other ↦ e ∙ (bit_at_cat_low t b w i (omega arith) ∙ bit_at-word_of test first b i (omega arith))
    ]
  where
    sub_same : (i b : ℕ) → i ≡ b → i - b ≡ 0
    sub_same i b e = omega arith

pub length-words_from : (test : ℕ → Bool) (first m : ℕ) → length (words_from test first m) ≡ m
unfolding words_from
length-words_from test first zero = refl
length-words_from test first (suc m) = ap suc (length-words_from test (first + 64) m)

pub get_or-words_from : (test : ℕ → Bool) (first m j : ℕ) → j < m → get_or (words_from test first m) j 0 ≡ word_of test (first + 64 * j) 64
unfolding words_from
get_or-words_from test first zero j lt = absurd (omega arith)
get_or-words_from test first (suc m) zero lt = let e : first ≡ first + 64 * 0 = omega arith in ap (λ k. word_of test k 64) e
get_or-words_from test first (suc m) (suc j) lt =
    let e : first + 64 + 64 * j ≡ first + 64 * suc j = omega arith in
    get_or-words_from test (first + 64) m j (omega arith) ∙ ap (λ k. word_of test k 64) e

module _ (n : ℕ) (test : ℕ → Bool) where
  abbrev Inside : ℕ → Bool
  Inside i = nat_lt i n && test i

  pub length-set_of : length (set_of n test) ≡ words_for n
  unfolding set_of
  length-set_of = length-words_from Inside 0 (words_for n)

  word_at : (j : ℕ) → j < words_for n → get_or (set_of n test) j 0 ≡ word_of Inside (64 * j) 64
  unfolding set_of
  word_at j lt = let e : 0 + 64 * j ≡ 64 * j = omega arith in get_or-words_from Inside 0 (words_for n) j lt ∙ ap (λ k. word_of Inside k 64) e

  bit_here : (i : ℕ) → i / 64 < words_for n → bit_at (get_or (set_of n test) (i / 64) 0) (i % 64) ≡ cond (Inside i) 1 0
  bit_here i lt =
      let e : 64 * (i / 64) + i % 64 ≡ i = omega arith in
      ap (λ w. bit_at w (i % 64)) (word_at (i / 64) lt) ∙ (bit_at-word_of Inside (64 * (i / 64)) 64 (i % 64) (omega arith) ∙ ap (λ k. cond (Inside k) 1 0) e)

  one_true : (t : Bool) → ◌≡◌ {A = ℕ} (cond t 1 0) 1 → t ≡ true
  one_true true h = refl
  one_true false h = absurd (omega arith)

  -- the set has exactly the numbers below n that pass
  pub has-set_of : (i : ℕ) → i < n → test i ≡ true → Has (set_of n test) i
  unfolding Has
  has-set_of i lt pass =
      let inside : Inside i ≡ true = rw (lt-ltb i n lt, pass) refl in
      bit_here i (omega arith) ∙ ap (λ t. cond t 1 0) inside

  pub set_of-has : (i : ℕ) → Has (set_of n test) i → (i < n) × (test i ≡ true)
  unfolding Has
  set_of-has i h =
      let within : i < 64 * length (set_of n test) = has_within (set_of n test) i h in
      let lens : length (set_of n test) ≡ words_for n = length-set_of in
      let lt : i / 64 < words_for n = omega arith in
      let inside : Inside i ≡ true = one_true (Inside i) (sym (bit_here i lt) ∙ h) in
      let parts = and_parts (nat_lt i n) (test i) inside in
      (ltb-true i n parts.0, parts.1)

  word_fits : (j : ℕ) → j < words_for n → get_or (set_of n test) j 0 < 2 ^ 64
  word_fits j lt = rw (word_at j lt) (word_of-lt Inside (64 * j) 64)

  pub is_set : IsSet n (set_of n test)
  is_set = record {
    words = length-set_of;
    fits = All-from_get_or (λ w. w < 2 ^ 64) (set_of n test) 0 (λ j lt. word_fits j (rw length-set_of at lt));
    inside = λ i h. (set_of-has i h).0;
  }

  -- a set of numbers below n that has exactly those that pass is this one
  pub set_of-only : (set : List ℕ) → IsSet n set → ((i : ℕ) → Has set i → test i ≡ true) → ((i : ℕ) → i < n → test i ≡ true → Has set i) → set ≡ set_of n test
  set_of-only set is sound whole = same_words n set (set_of n test) is is_set (λ i h. has-set_of i (is.inside i h) (sound i h)) (λ i h. let p = set_of-has i h in whole i p.0 p.1)

-- tests that agree below n give one set
pub set_of-same : (n : ℕ) (p q : ℕ → Bool) → ((i : ℕ) → i < n → p i ≡ q i) → set_of n p ≡ set_of n q
set_of-same n p q agree = set_of-only n q (set_of n p) (is_set n p)
    (λ i h. let r = set_of-has n p i h in sym (agree i r.0) ∙ r.1)
    (λ i lt h. has-set_of n p i lt (agree i lt ∙ h))

pub fits_all : (set : List ℕ) → All (λ w. w < 2 ^ 64) set → (k : ℕ) → get_or set k 0 < 2 ^ 64
fits_all set fits k = elim (cases_lt k (length set)) [
  | inl lt ↦ All-get_or (λ w. w < 2 ^ 64) set k 0 lt fits
  | inr past ↦ rw (get_or_past set k 0 past) (omega arith)
]

-- the set of nothing is empty
pub has_none-set_of : (n : ℕ) → has_none (set_of n (λ i. false)) ≡ true
has_none-set_of n = (has_none_tests (set_of n (λ i. false)) (fits_all (set_of n (λ i. false)) (is_set n (λ i. false)).fits)).1 (λ k h. true≢false (sym (set_of-has n (λ i. false) k h).1))

-- an empty set
pub set_of-empty : (n : ℕ) (set : List ℕ) → IsSet n set → has_none set ≡ true → set ≡ set_of n (λ i. false)
set_of-empty n set is none = set_of-only n (λ i. false) set is (λ i h. absurd ((has_none_tests set (fits_all set is.fits)).0 none i h)) (λ i lt h. absurd (true≢false (sym h)))

pub has-true : (set : List ℕ) (i : ℕ) → Has set i → has set i ≡ true
unfolding Has
has-true set i h = eq-eqb _ 1 h

pub true-has : (set : List ℕ) (i : ℕ) → has set i ≡ true → Has set i
unfolding Has
true-has set i h = eqb-true _ 1 h

-- words of zeros are the set of nothing
pub zeros-set_of : (n m : ℕ) → m ≡ words_for n → replicate m 0 ≡ set_of n (λ i. false)
zeros-set_of n m e = set_of-only n (λ i. false) (replicate m 0)
    (record { words = length-replicate m 0 ∙ e; fits = All-replicate (λ w. w < 2 ^ 64) m 0 (omega arith); inside = λ i h. absurd (empty_zeros m i h) })
    (λ i h. absurd (empty_zeros m i h)) (λ i lt h. absurd (true≢false (sym h)))
