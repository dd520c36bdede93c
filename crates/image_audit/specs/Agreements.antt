-- In what the table of an image agrees with that of an alphabet, part by part, in the order in which they are compared.
use Rattle.std.specs.Prelude.{◌≡◌, ◌≢◌, ℕ, ◌<◌, List, map}
use Rattle.gap_thresholds.specs.declared.cut.Cut.{Cut}
use Rattle.gap_thresholds.specs.Classes.{times_of, ratios_of}
use Rattle.image_layout.specs.Layout.{state_total}
use Rattle.image_layout.specs.Fields.{kind_at, entry_at}
use Rattle.position_nfa.specs.declared.pair.Pair.{Pair}
use Rattle.position_nfa.specs.Alphabets.{Alphabet, width}
use Rattle.position_nfa.specs.Families.{IsReached}
use Rattle.position_nfa.specs.Sets.{all_places}
use Rattle.position_nfa.specs.Sound.{IsDue, SetSays}
use Rattle.position_nfa.specs.Step.{next_state, state_of}
use Rattle.table_images.specs.Images.{set_at, state_at, table_of}
use Rattle.table_images.specs.Kinds.{says_of}

-- the time cuts of the alphabet, in femtoseconds
abbrev pub time_cuts : Alphabet → List ℕ
time_cuts a = map (λ (c : Cut). c.top) (times_of a.cuts)

-- its ratio cuts, as top and bottom
abbrev pub ratio_cuts : Alphabet → List (ℕ × ℕ)
ratio_cuts a = map (λ (c : Cut). (c.top, c.bottom)) (ratios_of a.cuts)

-- state q, where the empty sets of all phases are one
abbrev pub named : List ℕ → ℕ → Pair
named b q = state_of (state_at b q)

-- the first n states are different ones
abbrev pub OnceTo : List ℕ → ℕ → Type 0
OnceTo b n = (k q : ℕ) → k < q → q < n → named b k ≢ named b q

-- the kinds of the first n states say what their sets say
abbrev pub KindsTo : Alphabet → List ℕ → ℕ → Type 0
KindsTo a b n = (q : ℕ) → q < n → SetSays a (set_at b q) (says_of (kind_at b q))

-- the entry of a state's row is the number of the state that the column's letter leads to, 0 where it leads nowhere
abbrev pub EntryIsDue : Alphabet → List ℕ → ℕ → ℕ → Type 0
EntryIsDue a b q column = IsDue (table_of b).states (next_state a (state_at b q) column) (entry_at b q column)

-- so it is of the rows before that of state q, and of the columns of its row before this one
pub record EntriesTo (a : Alphabet) (b : List ℕ) (q column : ℕ) : Type 0 where
  pub rows : (r c : ℕ) → r < q → c < width a → EntryIsDue a b r c
  pub columns : (c : ℕ) → c < column → EntryIsDue a b q c

-- some word of letters reaches each of the first n states
abbrev pub ReachedTo : Alphabet → List ℕ → ℕ → Type 0
ReachedTo a b n = (q : ℕ) → q < n → IsReached a (state_at b q)

-- the places and cuts are those of the alphabet
pub record AgreesInLists (a : Alphabet) (b : List ℕ) : Type 0 where
  pub places : (table_of b).places ≡ a.places
  pub times : (table_of b).time_cuts ≡ time_cuts a
  pub ratios : (table_of b).ratio_cuts ≡ ratio_cuts a

-- and state 1 has all places
pub record AgreesInStart (a : Alphabet) (b : List ℕ) : Type 0 where
  pub lists : AgreesInLists a b
  pub start : set_at b 1 ≡ all_places a

-- and the states are different ones
pub record AgreesInStates (a : Alphabet) (b : List ℕ) : Type 0 where
  pub started : AgreesInStart a b
  pub once : OnceTo b (state_total b)

-- and the kinds say what the sets say
pub record AgreesInKinds (a : Alphabet) (b : List ℕ) : Type 0 where
  pub states : AgreesInStates a b
  pub kinds : KindsTo a b (state_total b)

-- and each entry is due
pub record AgreesInRows (a : Alphabet) (b : List ℕ) : Type 0 where
  pub kinds : AgreesInKinds a b
  pub entries : (q c : ℕ) → q < state_total b → c < width a → EntryIsDue a b q c

-- and each state is reached: the table of the image is that of the alphabet
pub record Agrees (a : Alphabet) (b : List ℕ) : Type 0 where
  pub rows : AgreesInRows a b
  pub reached : ReachedTo a b (state_total b)
