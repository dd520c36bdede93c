-- Words by their bytes.
use Rattle.std.specs.Prelude.{ℕ, Bool, true, false, not, ◌&&◌, ◌==◌, List, [], ◌∷◌, nat_eq}
use Rattle.std.specs.Cmp.Lexicographic.{pointwise}

-- whether two words are the same
abbrev pub same : List ℕ → List ℕ → Bool
same a b = pointwise nat_eq a b

-- whether a word begins with two dashes
abbrev pub is_option : List ℕ → Bool
is_option [] = false
is_option (a ∷ []) = false
is_option (a ∷ b ∷ rest) = (a == 45) && (b == 45)

-- whether a word is an operand: it is not empty and no option
abbrev pub is_operand : List ℕ → Bool
is_operand [] = false
is_operand (a ∷ []) = true
is_operand (a ∷ b ∷ rest) = not ((a == 45) && (b == 45))
