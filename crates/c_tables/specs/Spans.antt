-- Tokens as spans of a source.
use Rattle.std.specs.Prelude.{◌≡◌, ℕ, ◌+◌, ◌<◌, ◌≤◌, List, ◌∷◌, drop, length, slice_range}
use Rattle.c_tables.specs.declared.tokens.Span.{Span}
use Rattle.c_tables.specs.Tokens.{Token, Mode, outside, run, tokens_from}

-- the token that fills a span of a source
abbrev pub token_at : List ℕ → Span → Token
token_at source span = record { text = slice_range source span.at span.end; at = span.at }

-- the tokens that begin from a place on, where nothing stands open there
abbrev pub left : List ℕ → ℕ → List Token
left source at = tokens_from outside at (drop at source)

-- what stands open at a place ends at another, so that the tokens from there on are those that begin outside
pub record Closes (source : List ℕ) (mode : Mode) (from to : ℕ) : Type 0 where
  pub later : from ≤ to
  pub within : to ≤ length source
  pub left : tokens_from mode from (drop from source) ≡ left source to

-- a token that stands open at a place has its last byte before another
pub record Ends (source : List ℕ) (mode : Mode) (from to : ℕ) : Type 0 where
  pub closes : Closes source mode from to
  pub text : from + length (run mode (drop from source)) ≡ to

-- the first token from a place on fills this span
pub record IsNext (source : List ℕ) (from : ℕ) (span : Span) : Type 0 where
  pub later : from ≤ span.at
  pub filled : span.at < span.end
  pub within : span.end ≤ length source
  pub left : left source from ≡ token_at source span ∷ left source span.end
