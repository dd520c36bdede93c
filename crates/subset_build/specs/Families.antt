-- What fills the limit of a family.
use Rattle.std.specs.Prelude.{◌≡◌, ℕ, ◌<◌, ◌≤◌, false, List, length, Option, Some, Contains}
use Rattle.std.specs.List.{list_any, IsDistinct}
use Rattle.position_nfa.specs.declared.pair.Pair.{Pair}
use Rattle.position_nfa.specs.Alphabets.{Alphabet, width}
use Rattle.position_nfa.specs.Step.{same, next_state, dead_state, start_state}
use Rattle.position_nfa.specs.Family as family
use Rattle.position_nfa.specs.Families.{IsReached, taken}

-- more states than the limit are reached
pub record HasMore (a : Alphabet) (limit : ℕ) : Type 0 where
  pub states : List Pair
  pub once : IsDistinct same states
  pub sound : (p : Pair) → Contains states p → IsReached a p
  pub many : limit < length states

-- the state has no number, and there is no room for one
pub record IsFull (states : List Pair) (limit : ℕ) (p : Pair) : Type 0 where
  pub absent : list_any (same p) states ≡ false
  pub full : limit ≤ length states

-- the column is a letter of the state q that leads to one without a number, and there is no room for one
pub record LeadsToFull (a : Alphabet) (states : List Pair) (limit : ℕ) (q : Pair) (column : ℕ) : Type 0 where
  pub next : Pair
  pub leads : next_state a q column ≡ Some next
  pub full : IsFull states limit next

-- so does one of the letters of q, once those before it were taken
pub record FillsUp (a : Alphabet) (states : List Pair) (limit : ℕ) (q : Pair) : Type 0 where
  pub column : ℕ
  pub within : column < width a
  pub full : LeadsToFull a (taken a states q column) limit q column

-- the states are the empty set and those that some word reaches, each once
abbrev pub IsFamily : Alphabet → List Pair → Type 0
IsFamily a states = family.IsFamily same (next_state a) (width a) (dead_state a) (start_state a) states

-- the family has more states than the limit: so many of its members are known
abbrev pub IsPastLimit : Alphabet → ℕ → Type 0
IsPastLimit a limit =
    (states : List Pair) × family.IsPart same (next_state a) (width a) (dead_state a) (start_state a) states × (limit < length states)
