-- Laws of the tokens of a C source.
use Rattle.std.specs.Prelude.{◌≡◌, ℕ, ◌+◌, ◌≤◌, List, [], ◌∷◌, length, take, drop, All}
use Rattle.c_tables.specs.Tokens.{Token, tokens}

-- the token's bytes stand at its place
abbrev pub StandsIn : List ℕ → Token → Type 0
StandsIn bytes t = take (length t.text) (drop t.at bytes) ≡ t.text

-- each token begins where the one before has its end, or later
abbrev pub AreApart : List Token → Type 0
AreApart [] = Unit {0}
AreApart (t ∷ ts) = All (λ u. t.at + length t.text ≤ u.at) ts × AreApart ts

-- every token of a source is a piece of it, and no two have a byte in common
pub record TokensArePieces : Type 0 where
  pub stand : (bytes : List ℕ) → All (StandsIn bytes) (tokens bytes)
  pub apart : (bytes : List ℕ) → AreApart (tokens bytes)
