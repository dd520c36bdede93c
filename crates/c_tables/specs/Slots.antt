-- The line of a wheel file that lists slots.
use Rattle.std.specs.Prelude.{ℕ, List, [], ◌∷◌, ◌++◌, codes, decimal}

-- numbers, each after a comma and a blank
abbrev pub listed_after : List ℕ → List ℕ
listed_after [] = []
listed_after (n ∷ ns) = codes ", " ++ decimal n ++ listed_after ns

-- numbers with a comma and a blank between two of them
abbrev pub listed : List ℕ → List ℕ
listed [] = []
listed (n ∷ ns) = decimal n ++ listed_after ns

-- the line that gives the slots in the full form
abbrev pub slots_text : List ℕ → List ℕ
slots_text slots = codes "slots = [" ++ listed slots ++ codes "]\n"
