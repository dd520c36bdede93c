-- The walk over the rows of an image: which states it finds.
use Rattle.std.specs.Prelude.{◌≡◌, ◌⊎◌, ℕ, ◌<◌, List, slice_get, Some, Contains}
use Rattle.image_layout.specs.Layout.{state_total, row_width}
use Rattle.image_layout.specs.Fields.{entry_at}

-- the entries of a list keep their places in another
abbrev pub Keeps : List ℕ → List ℕ → Type 0
Keeps old new = (i x : ℕ) → slice_get old i ≡ Some x → slice_get new i ≡ Some x

-- a state was added, where it was not there
pub record AddsOne (old : List ℕ) (state : ℕ) (new : List ℕ) : Type 0 where
  pub keeps : Keeps old new
  pub has : Contains new state
  pub only : (to : ℕ) → Contains new to → Contains old to ⊎ (to ≡ state)

-- the entries of the row of state q before a column are among the states found
abbrev pub HasRowTo : List ℕ → List ℕ → ℕ → ℕ → Type 0
HasRowTo b found q n = (c : ℕ) → c < n → Contains found (entry_at b q c)

-- a state is an entry of the row of state q before a column
abbrev pub IsEntryTo : List ℕ → ℕ → ℕ → ℕ → Type 0
IsEntryTo b q n to = (c : ℕ) × ((c < n) × (to ≡ entry_at b q c))

-- the entries of the row of state q before a column were added
pub record AddsRowTo (b : List ℕ) (q n : ℕ) (old new : List ℕ) : Type 0 where
  pub keeps : Keeps old new
  pub row : HasRowTo b new q n
  pub only : (to : ℕ) → Contains new to → Contains old to ⊎ IsEntryTo b q n to

-- a walk of entries leads from state 0 or state 1 to a state
pub data IsFound (b : List ℕ) : ℕ → Type 0 where
  AtFirst : (n : ℕ) → (n ≡ 0) ⊎ (n ≡ 1) → IsFound b n
  AtEntry : (q n : ℕ) → q < state_total b → IsFound b q → IsEntryTo b q (row_width b) n → IsFound b n

-- the states found, where the rows of the first n of them were added
pub record AreFound (b : List ℕ) (n : ℕ) (found : List ℕ) : Type 0 where
  pub dead : Contains found 0
  pub start : Contains found 1
  pub within : (q : ℕ) → Contains found q → q < state_total b
  pub sound : (q : ℕ) → Contains found q → IsFound b q
  pub rows : (i q : ℕ) → i < n → slice_get found i ≡ Some q → HasRowTo b found q (row_width b)

-- the states found, all that a walk finds
pub record AreAllFound (b : List ℕ) (found : List ℕ) : Type 0 where
  pub dead : Contains found 0
  pub start : Contains found 1
  pub sound : (q : ℕ) → Contains found q → IsFound b q
  pub rows : (q : ℕ) → Contains found q → HasRowTo b found q (row_width b)
