-- The texts of tokens, as lists of bytes.
use Rattle.std.specs.Prelude.{ℕ, Bool, false, ◌&&◌, ◌==◌, nat_le, nat_eq, List, [], ◌∷◌, codes}
use Rattle.std.specs.Cmp.Lexicographic.{pointwise}

abbrev pub same : List ℕ → List ℕ → Bool
same a b = pointwise nat_eq a b

-- the keyword that ends a section
abbrev pub is_end : List ℕ → Bool
is_end text = same text (codes "$end")

-- it begins with a dollar sign
abbrev pub is_keyword : List ℕ → Bool
is_keyword [] = false
is_keyword (b ∷ bytes) = b == 36

-- from `!` to `~`
abbrev pub is_code_byte : ℕ → Bool
is_code_byte b = nat_le 33 b && nat_le b 126
