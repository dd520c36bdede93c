-- The least family of states that holds the dead state and the start and is closed under letters, and its numbering.
use Rattle.std.specs.Prelude.{◌≡◌, ℕ, zero, suc, ◌<◌, ◌⊎◌, Bool, if◌then◌else◌, Option, Some, None}
use Rattle.std.specs.Prelude.{List, [], ◌∷◌, ◌++◌, length, slice_get, Contains}
use Rattle.std.specs.List.{list_any, IsDistinct}

-- `next q c` is where letter c leads from the state q, if it is a letter of that state; letters are below `width`
module _ {X : Type 0} (same : X → X → Bool) (next : X → ℕ → Option X) (width : ℕ) (dead start : X) where
  -- the word, its last letter first, leads from the start to p
  abbrev pub Reaches : List ℕ → X → Type 0
  Reaches [] p = p ≡ start
  Reaches (c ∷ word) p = (q : X) × Reaches word q × (c < width) × (next q c ≡ Some p)

  -- the dead state, or one that some word reaches
  abbrev pub IsMember : X → Type 0
  IsMember p = (p ≡ dead) ⊎ ((word : List ℕ) × Reaches word p)

  -- some of the members, each once
  pub record IsPart (states : List X) : Type 0 where
    pub once : IsDistinct same states
    pub sound : (p : X) → Contains states p → IsMember p

  -- the members, each once
  pub record IsFamily (states : List X) : Type 0 where
    pub once : IsDistinct same states
    pub sound : (p : X) → Contains states p → IsMember p
    pub whole : (p : X) → IsMember p → Contains states p

  -- a state without a number gets the next one
  abbrev pub numbered : List X → X → List X
  numbered states p = if list_any (same p) states then states else states ++ p ∷ []

  -- the same where there is one
  abbrev pub numbered_if : List X → Option X → List X
  numbered_if states None = states
  numbered_if states (Some p) = numbered states p

  -- after the first c letters of the state q were taken
  abbrev pub taken : List X → X → ℕ → List X
  taken states q zero = states
  taken states q (suc c) = numbered_if (taken states q c) (next q c)

  -- after all letters of the state were taken, where there is one
  abbrev pub taken_if : List X → Option X → List X
  taken_if states None = states
  taken_if states (Some q) = taken states q width

  -- after the letters of the first n states were taken, in the order of their numbers
  abbrev pub explored : ℕ → List X
  explored zero = numbered (dead ∷ []) start
  explored (suc n) = taken_if (explored n) (slice_get (explored n) n)

  -- the states in the order of their numbers: to take the letters of them all adds none
  abbrev pub IsNumbering : List X → Type 0
  IsNumbering states = explored (length states) ≡ states
