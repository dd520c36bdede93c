-- The tokens of a C source.
use Rattle.std.specs.Prelude.{ℕ, ◌+◌, Bool, false, ◌||◌, ◌&&◌, not, ◌==◌, nat_eq, nat_le, if◌then◌else◌, List, [], ◌∷◌, ◌++◌, codes}
use Rattle.std.specs.List.{starts_with}

-- a token: its bytes, and how many bytes of the source stand before them
pub record Token : Type 0 where
  pub text : List ℕ
  pub at : ℕ

-- space, tab, line feed, carriage return
abbrev pub is_white : ℕ → Bool
is_white b = (b == 32) || (b == 9) || (b == 10) || (b == 13)

-- a digit
abbrev pub is_digit : ℕ → Bool
is_digit b = nat_le 48 b && nat_le b 57

-- an ASCII letter, a digit or `_`
abbrev pub is_word : ℕ → Bool
is_word b = (nat_le 97 b && nat_le b 122) || (nat_le 65 b && nat_le b 90) || is_digit b || (b == 95)

-- `"` or `'`
abbrev pub is_mark : ℕ → Bool
is_mark b = (b == 34) || (b == 39)

-- these bytes stand at the front of the rest
abbrev pub begins : List ℕ → List ℕ → Bool
begins front rest = starts_with nat_eq rest front

-- a line ends here: at a line feed, or at a carriage return directly followed by one
abbrev pub ends_line : List ℕ → Bool
ends_line rest = begins (10 ∷ []) rest || begins (13 ∷ 10 ∷ []) rest

-- a backslash that stands directly before a line end
abbrev pub is_joint : List ℕ → Bool
is_joint [] = false
is_joint (b ∷ rest) = (b == 92) && ends_line rest

-- what stands open before a byte: nothing, a word, a text with its mark and whether the byte is escaped, a comment, or the first of the two bytes that begin or end a block comment
pub data Mode : Type 0 where
  outside : Mode
  in_word : Mode
  in_text : ℕ → Bool → Mode
  in_line_comment : Mode
  opening : Mode
  in_block_comment : Mode
  closing : Mode

-- what a byte opens where nothing stood open, or only a word that it does not go on with
abbrev pub opened : ℕ → List ℕ → Mode
opened b rest =
    if begins (codes "/*") (b ∷ rest) then opening
    else if begins (codes "//") (b ∷ rest) then in_line_comment
    else if is_word b then in_word
    else if is_mark b then in_text b false
    else outside

-- what stands open after the first byte of a rest
abbrev pub mode_after : Mode → ℕ → List ℕ → Mode
mode_after outside b rest = opened b rest
mode_after in_word b rest = if is_word b then in_word else opened b rest
mode_after (in_text mark escaped) b rest =
    if ends_line (b ∷ rest) || ((b == mark) && not escaped) then outside else in_text mark ((b == 92) && not escaped)
mode_after in_line_comment b rest = if ends_line (b ∷ rest) then outside else in_line_comment
mode_after opening b rest = in_block_comment
mode_after in_block_comment b rest = if begins (codes "*/") (b ∷ rest) then closing else in_block_comment
mode_after closing b rest = outside

-- white space, or what is skipped like it, begins with the first byte of a rest
abbrev pub begins_gap : ℕ → List ℕ → Bool
begins_gap b rest = is_white b || is_joint (b ∷ rest) || begins (codes "/*") (b ∷ rest) || begins (codes "//") (b ∷ rest)

-- a token begins with the first byte of a rest
abbrev pub begins_token : Mode → ℕ → List ℕ → Bool
begins_token outside b rest = not (begins_gap b rest)
begins_token in_word b rest = not (is_word b) && not (begins_gap b rest)
begins_token mode b rest = false

-- the token that stands open goes on with the first byte of a rest
abbrev pub goes_on : Mode → ℕ → List ℕ → Bool
goes_on in_word b rest = is_word b
goes_on (in_text mark escaped) b rest = not (ends_line (b ∷ rest))
goes_on mode b rest = false

-- the bytes with which the token that stands open goes on
abbrev pub run : Mode → List ℕ → List ℕ
run mode [] = []
run mode (b ∷ rest) = if goes_on mode b rest then b ∷ run (mode_after mode b rest) rest else []

-- the token that begins with the first byte of a rest
abbrev pub token_from : ℕ → ℕ → List ℕ → Token
token_from at b rest = record { text = b ∷ run (opened b rest) rest; at = at }

-- the tokens that begin in the rest of a source from this place on
abbrev pub tokens_from : Mode → ℕ → List ℕ → List Token
tokens_from mode at [] = []
tokens_from mode at (b ∷ rest) =
    (if begins_token mode b rest then token_from at b rest ∷ [] else []) ++ tokens_from (mode_after mode b rest) (at + 1) rest

-- the tokens of a source
abbrev pub tokens : List ℕ → List Token
tokens bytes = tokens_from outside 0 bytes
