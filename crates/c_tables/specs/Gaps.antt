-- What stands between the tokens of a C source: white space and comments alone; and words are the longest runs of their bytes.
use Rattle.std.specs.Prelude.{◌≡◌, ℕ, ◌+◌, Bool, true, false, List, [], ◌∷◌, ◌++◌, length, codes}
use Rattle.std.specs.List.{list_all}
use Rattle.c_tables.specs.Tokens.{Token, tokens, is_white, is_word, begins, ends_line}

-- what stands open in a gap: nothing, a comment up to the end of its line, or one up to its last two bytes
pub data Inside : Type 0 where
  code : Inside
  line : Inside
  block : Inside

-- bytes that are white space and comments alone, before those that come after them. A backslash directly before a line end is
-- white space, a comment of a line leaves its end out, and one that nothing ends goes to the end of the source
pub data IsGap (after : List ℕ) : Inside → List ℕ → Type 0 where
  none : IsGap after code []
  white : (b : ℕ) (gap : List ℕ) → is_white b ≡ true → IsGap after code gap → IsGap after code (b ∷ gap)
  joint : (gap : List ℕ) → ends_line (gap ++ after) ≡ true → IsGap after code gap → IsGap after code (92 ∷ gap)
  line_begins : (b : ℕ) (gap : List ℕ) → begins (codes "//") (b ∷ (gap ++ after)) ≡ true → IsGap after line gap → IsGap after code (b ∷ gap)
  line_goes_on : (b : ℕ) (gap : List ℕ) → ends_line (b ∷ (gap ++ after)) ≡ false → IsGap after line gap → IsGap after line (b ∷ gap)
  line_ends : (gap : List ℕ) → ends_line (gap ++ after) ≡ true → IsGap after code gap → IsGap after line gap
  block_begins : (gap : List ℕ) → IsGap after block gap → IsGap after code (47 ∷ 42 ∷ gap)
  block_goes_on : (b : ℕ) (gap : List ℕ) → begins (codes "*/") (b ∷ (gap ++ after)) ≡ false → IsGap after block gap
      → IsGap after block (b ∷ gap)
  block_ends : (gap : List ℕ) → IsGap after code gap → IsGap after block (42 ∷ 47 ∷ gap)
  source_ends : (inside : Inside) → after ≡ [] → IsGap after inside []

-- the first of the bytes is one of a word
abbrev pub starts_word : List ℕ → Bool
starts_word [] = false
starts_word (b ∷ bytes) = is_word b

-- a token that begins with a word's byte has only such bytes, and none comes after it
pub record IsLongest (text after : List ℕ) : Type 0 where
  pub word : starts_word text ≡ true → list_all is_word text ≡ true
  pub ends : starts_word text ≡ true → starts_word after ≡ false

-- a token stands behind a gap, and these bytes come after it
pub record StandsBehind (at : ℕ) (inside : Inside) (bytes : List ℕ) (t : Token) (gap after : List ℕ) : Type 0 where
  pub all : bytes ≡ gap ++ (t.text ++ after)
  pub place : t.at ≡ at + length gap
  pub behind : IsGap (t.text ++ after) inside gap
  pub longest : IsLongest t.text after

-- bytes from a place on are these tokens, with gaps before, between and behind them
abbrev pub AreLaid : ℕ → Inside → List ℕ → List Token → Type 0
AreLaid at inside bytes [] = IsGap [] inside bytes
AreLaid at inside bytes (t ∷ ts) =
    (gap : List ℕ) × (after : List ℕ) × StandsBehind at inside bytes t gap after × AreLaid (t.at + length t.text) code after ts

-- every source is its tokens and gaps alone
abbrev pub SourcesAreLaid : Type 0
SourcesAreLaid = (bytes : List ℕ) → AreLaid 0 code bytes (tokens bytes)
