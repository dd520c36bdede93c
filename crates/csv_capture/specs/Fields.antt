-- The fields of a row.
use Rattle.std.specs.Prelude.{ℕ, Bool, true, false, ◌||◌, ◌==◌, nat_eq, if◌then◌else◌, List, [], ◌∷◌, reverse, Option, Some, None, codes}
use Rattle.std.specs.Cmp.Lexicographic.{pointwise}
use Rattle.csv.specs.Records.{field_at}

-- a space or a tab
abbrev pub is_blank : ℕ → Bool
is_blank b = (b == 32) || (b == 9)

-- a text without the spaces and tabs at its front
abbrev pub trimmed_front : List ℕ → List ℕ
trimmed_front [] = []
trimmed_front (b ∷ bytes) = if is_blank b then trimmed_front bytes else b ∷ bytes

-- a text without the spaces and tabs at its end
abbrev pub trimmed_back : List ℕ → List ℕ
trimmed_back text = reverse (trimmed_front (reverse text))

-- a text without the spaces and tabs around it
abbrev pub trimmed : List ℕ → List ℕ
trimmed text = trimmed_back (trimmed_front text)

-- the bytes are the same
abbrev pub same : List ℕ → List ℕ → Bool
same a b = pointwise nat_eq a b

-- a field without the spaces and tabs around it, where there is one
abbrev pub text_of : Option (List ℕ) → List ℕ
text_of None = []
text_of (Some field) = trimmed field

-- the text of a row's field at this place, from 0
abbrev pub field_text : List (List ℕ) → ℕ → List ℕ
field_text row at = text_of (field_at row at)

-- the level that a field gives
abbrev pub level_of : List ℕ → Option Bool
level_of text = if same text (codes "0") then Some false else if same text (codes "1") then Some true else None
