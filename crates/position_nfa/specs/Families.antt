-- The family of a set automaton: its states and their numbers.
use Rattle.std.specs.Prelude.{◌≡◌, ℕ, List, Option, Contains}
use Rattle.std.specs.List.{IsDistinct}
use Rattle.position_nfa.specs.declared.pair.Pair.{Pair}
use Rattle.position_nfa.specs.Alphabets.{Alphabet, width}
use Rattle.position_nfa.specs.Step.{same, next_state, dead_state, start_state}
use Rattle.position_nfa.specs.Family as family

-- some word of letters leads from the start to the state, where words have their last letter first
abbrev pub IsReached : Alphabet → Pair → Type 0
IsReached a p = (word : List ℕ) × family.Reaches same (next_state a) (width a) (dead_state a) (start_state a) word p

-- the states are those that some word of letters reaches, each once
pub record IsLeastFamily (a : Alphabet) (states : List Pair) : Type 0 where
  pub once : IsDistinct same states
  pub sound : (p : Pair) → Contains states p → IsReached a p
  pub whole : (p : Pair) → IsReached a p → Contains states p

-- the states in the order of their numbers: to take the letters of them all adds none
abbrev pub IsNumbering : Alphabet → List Pair → Type 0
IsNumbering a states = family.IsNumbering same (next_state a) (width a) (dead_state a) (start_state a) states

-- the states that have a number once the letters of the first n of them were taken
abbrev pub explored : Alphabet → ℕ → List Pair
explored a n = family.explored same (next_state a) (width a) (dead_state a) (start_state a) n

-- the states after the letters of the first columns of the state q
abbrev pub taken : Alphabet → List Pair → Pair → ℕ → List Pair
taken a states q column = family.taken same (next_state a) (width a) (dead_state a) (start_state a) states q column

-- the states with this one, which gets the next number if it has none
abbrev pub numbered : Alphabet → List Pair → Pair → List Pair
numbered a states p = family.numbered same (next_state a) (width a) (dead_state a) (start_state a) states p

-- the same where a letter leads to one
abbrev pub numbered_if : Alphabet → List Pair → Option Pair → List Pair
numbered_if a states o = family.numbered_if same (next_state a) (width a) (dead_state a) (start_state a) states o
