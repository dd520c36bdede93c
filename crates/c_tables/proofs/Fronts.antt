-- What stands at the front of the rest of a source, by the tests of it.
use Rattle.std.proofs.Common.{◌≡◌, ℕ, true, ◌⊎◌, inl, inr, List, [], ◌∷◌, ◌++◌, drop, length, refl}
use Rattle.std.proofs.lemmas.Bool.{or_cases}
use Rattle.std.proofs.lemmas.Bool.Decides.{Decides-eqb}
use Rattle.std.proofs.lemmas.Slice.Eq.{starts_is}
use Rattle.c_tables.specs.Tokens.{begins, ends_line}

-- the bytes that stand at the front
pub begins-is : (front rest : List ℕ) → begins front rest ≡ true → rest ≡ front ++ drop (length front) rest
begins-is front rest = (starts_is Decides-eqb rest front (begins front rest) refl).0

-- a line ends with one byte or two
pub line_bytes : (rest : List ℕ) → ends_line rest ≡ true → (rest ≡ 10 ∷ drop 1 rest) ⊎ (rest ≡ 13 ∷ 10 ∷ drop 2 rest)
line_bytes rest h = elim (or_cases (begins (10 ∷ []) rest) (begins (13 ∷ 10 ∷ []) rest) h) [
  | inl feed ↦ inl (begins-is (10 ∷ []) rest feed)
  | inr both ↦ inr (begins-is (13 ∷ 10 ∷ []) rest both)
]
