-- Other than five words ask for no stimulus.
use Rattle.std.proofs.Common.{◌≡◌, ℕ, ◌<◌, ◌≤◌, true, false, List, [], ◌∷◌, length, map, string_bytes, String, Global, nat_lt, None, refl, arith}
use Rattle.std.proofs.lemmas.Bool.Decides.{nat_tests}
use Rattle.command_words.specs.Words.{stim_by}

is_less : (m n : ℕ) → nat_lt m n ≡ true → m < n
is_less m n h = grind (arith, nat_tests)

is_not_less : (m n : ℕ) → nat_lt m n ≡ false → n ≤ m
is_not_less m n h = grind (arith, nat_tests)

none_of_few : (words : List (String Global)) → length words < 5 → None ≡ stim_by (map string_bytes words)
none_of_few [] h = refl
none_of_few (a ∷ []) h = refl
none_of_few (a ∷ b ∷ []) h = refl
none_of_few (a ∷ b ∷ c ∷ []) h = refl
none_of_few (a ∷ b ∷ c ∷ d ∷ []) h = refl
none_of_few (a ∷ b ∷ c ∷ d ∷ e ∷ words) h = absurd (omega (arith, h))

none_of_many : (words : List (String Global)) → 5 < length words → None ≡ stim_by (map string_bytes words)
none_of_many [] h = refl
none_of_many (a ∷ []) h = refl
none_of_many (a ∷ b ∷ []) h = refl
none_of_many (a ∷ b ∷ c ∷ []) h = refl
none_of_many (a ∷ b ∷ c ∷ d ∷ []) h = refl
none_of_many (a ∷ b ∷ c ∷ d ∷ e ∷ []) h = absurd (omega (arith, h))
none_of_many (a ∷ b ∷ c ∷ d ∷ e ∷ g ∷ words) h = refl

pub fewer : (words : List (String Global)) → nat_lt (length words) 5 ≡ true → None ≡ stim_by (map string_bytes words)
fewer words h = none_of_few words (is_less (length words) 5 h)

pub more : (words : List (String Global)) → nat_lt (length words) 6 ≡ false → None ≡ stim_by (map string_bytes words)
more words h = none_of_many words (is_not_less (length words) 6 h)
