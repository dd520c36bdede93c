-- The parts of a wheel's table, as lists, and when they are those of the wheel.
use Rattle.std.specs.Prelude.{◌≡◌, ◌≢◌, ℕ, ◌+◌, ◌*◌, ◌<◌, ◌≤◌, List, length, map, slice_get, slice_index, slice_index_or, Option, Some, None}
use Rattle.wheel_types.specs.declared.place.Place.{Place}
use Rattle.wheel_types.specs.declared.parts.WheelParts.{WheelParts}
use Rattle.gap_thresholds.specs.declared.cut.Cut.{Cut}
use Rattle.gap_thresholds.specs.Classes.{times_of, ratios_of}
use Rattle.place_words.specs.Words.{Has}
use Rattle.position_nfa.specs.declared.pair.Pair.{Pair}
use Rattle.position_nfa.specs.Alphabets.{Alphabet, IsAlphabetOf, count, place, width}
use Rattle.position_nfa.specs.Step.{next_state, dead_state, start_state}
use Rattle.position_nfa.specs.Families.{IsLeastFamily}

-- what a state says of the engine's position: no motion is left, the last crank edge passed is edge j, or it is open between the places
-- of two numbers
pub data Says : Type 0 where
  Nothing : Says
  At : ℕ → Says
  Open : ℕ → ℕ → Says

-- the place of this number is in the set
abbrev pub IsMember : Alphabet → List ℕ → ℕ → Type 0
IsMember a set i = (i < count a) × Has set i

-- and its position is another than j
abbrev pub IsElsewhere : Alphabet → List ℕ → ℕ → ℕ → Type 0
IsElsewhere a set j i = IsMember a set i × ((place a i).j ≢ j)

-- the least number with the property
pub record IsLeast (P : ℕ → Type 0) (i : ℕ) : Type 0 where
  pub holds : P i
  pub least : (k : ℕ) → P k → i ≤ k

-- what the members of a set say: the position that they all have, or else the least member and the least one at another position
abbrev pub SetSays : Alphabet → List ℕ → Says → Type 0
SetSays a set Nothing = (i : ℕ) → IsMember a set i → ⊥
SetSays a set (At j) = ((i : ℕ) × IsMember a set i) × ((i : ℕ) → IsMember a set i → (place a i).j ≡ j)
SetSays a set (Open e f) = IsLeast (IsMember a set) e × IsLeast (IsElsewhere a set (place a e).j) f

-- the number of the state that a letter leads to, and 0 where it leads nowhere
abbrev pub IsDue : List Pair → Option Pair → ℕ → Type 0
IsDue states None n = n ≡ 0
IsDue states (Some p) n = slice_get states n ≡ Some p

-- the entries of the rows, state after state, are the numbers of the states that the letters lead to
abbrev pub AreDue : Alphabet → List Pair → List ℕ → Type 0
AreDue a states rows =
    (q column : ℕ) (p : Pair) → slice_get states q ≡ Some p → column < width a → q * width a + column < length rows
    → IsDue states (next_state a p column) (slice_index rows (q * width a + column))

-- the parts of a table: the places, the cuts, the states by their phases and sets, what each says, and the rows, state after state
pub record TableParts : Type 0 where
  pub places : List Place
  pub time_cuts : List ℕ
  pub ratio_cuts : List (ℕ × ℕ)
  pub states : List Pair
  pub says : List Says
  pub rows : List ℕ

-- the parts are those of the alphabet: its places and cuts, the states that words reach, with the empty set first and the start second,
-- what the members of each set say, and each entry due
pub record AreSoundOver (a : Alphabet) (t : TableParts) : Type 0 where
  pub places : t.places ≡ a.places
  pub time_cuts : t.time_cuts ≡ map (λ (c : Cut). c.top) (times_of a.cuts)
  pub ratio_cuts : t.ratio_cuts ≡ map (λ (c : Cut). (c.top, c.bottom)) (ratios_of a.cuts)
  pub family : IsLeastFamily a t.states
  pub dead : slice_get t.states 0 ≡ Some (dead_state a)
  pub start : slice_get t.states 1 ≡ Some (start_state a)
  pub all_say : length t.says ≡ length t.states
  pub says : (q : ℕ) (p : Pair) → slice_get t.states q ≡ Some p → SetSays a p.set (slice_index_or t.says q Nothing)
  pub entries : length t.rows ≡ length t.states * width a
  pub due : AreDue a t.states t.rows

-- the parts are sound for the wheel
abbrev pub AreSound : WheelParts → TableParts → Type 0
AreSound w t = (a : Alphabet) × (IsAlphabetOf w a × AreSoundOver a t)
