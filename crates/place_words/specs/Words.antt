-- Sets of numbers in words of 64 bits: bit i of word k is the number 64k + i.
use Rattle.std.specs.Prelude.{◌≡◌, ℕ, zero, suc, ◌+◌, ◌/◌, ◌%◌, ◌^◌, ◌<◌, ◌⊎◌, Bool, cond, ◌&&◌, ◌==◌, nat_lt}
use Rattle.std.specs.Prelude.{List, [], ◌∷◌, slice_index, length, All}
use Rattle.std.specs.Int.{bit_at}
use Rattle.std.specs.List.{list_all}

-- the set has the number
unfoldable pub Has : List ℕ → ℕ → Type 0
Has set i = bit_at (slice_index set (i / 64)) (i % 64) ≡ 1

-- the new set has what the old one has, and i
pub record IsWith (old : List ℕ) (i : ℕ) (new : List ℕ) : Type 0 where
  pub keeps : (k : ℕ) → Has old k → Has new k
  pub has : Has new i
  pub only : (k : ℕ) → Has new k → Has old k ⊎ (k ≡ i)

-- the set has what both have
pub record IsBoth (a b set : List ℕ) : Type 0 where
  pub has : (k : ℕ) → Has a k → Has b k → Has set k
  pub first : (k : ℕ) → Has set k → Has a k
  pub second : (k : ℕ) → Has set k → Has b k

-- the words that hold a set of n numbers
abbrev pub words_for : ℕ → ℕ
words_for n = (n + 63) / 64

-- the words are a set of numbers below n
pub record IsSet (n : ℕ) (set : List ℕ) : Type 0 where
  pub words : length set ≡ words_for n
  pub fits : All (λ w. w < 2 ^ 64) set
  pub inside : (i : ℕ) → Has set i → i < n

-- the test that the set is empty: each word is 0
abbrev pub has_none : List ℕ → Bool
has_none set = list_all (λ w. w == 0) set

-- the test that the set has the number
abbrev pub has : List ℕ → ℕ → Bool
has set i = bit_at (slice_index set (i / 64)) (i % 64) == 1

-- the first b bits of a word: bit i says whether the number `first + i` passes the test
unfoldable pub word_of : (ℕ → Bool) → ℕ → ℕ → ℕ
word_of test first zero = 0
word_of test first (suc b) = word_of test first b + cond (test (first + b)) (2 ^ b) 0

-- so many words, the bits of the first one from the number `first` on
unfoldable pub words_from : (ℕ → Bool) → ℕ → ℕ → List ℕ
words_from test first zero = []
words_from test first (suc m) = word_of test first 64 ∷ words_from test (first + 64) m

-- the set of the numbers below n that pass the test
unfoldable pub set_of : ℕ → (ℕ → Bool) → List ℕ
set_of n test = words_from (λ i. nat_lt i n && test i) 0 (words_for n)
