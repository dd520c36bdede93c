-- The rules of the layout, said of an image's parts and not of its bytes.
use Rattle.std.specs.Prelude.{◌≡◌, ◌⊎◌, ℕ, ◌+◌, ◌-◌, ◌*◌, ◌^◌, ◌≤◌, ◌<◌, IsTrue, length, slice_index, slice_index_or, pos}
use Rattle.wheel_types.specs.declared.channel.Channel.TheVariants.{Crank}
use Rattle.wheel_types.specs.declared.place.Place.{Place}
use Rattle.wheel_types.specs.Edges.{edge_count}
use Rattle.wheel_types.specs.Wheels.{IsWheel}
use Rattle.image_layout.specs.declared.kind.Kind.{Kind}
use Rattle.image_layout.specs.declared.kind.Kind.TheVariants.{Dead, At, Open}
use Rattle.image_layout.specs.declared.parts.ImageParts.{ImageParts}
use Rattle.image_layout.specs.Layout.{words_for, width_for}
use Rattle.image_layout.specs.Letters.{letter_of, leads_to}
use Rattle.image_layout.specs.Parts.{AreSmall}
use Rattle.image_layout.specs.Tables.{IsBelow, IsPlace}

-- how many states there are, the dead one among them
abbrev pub states_of : ImageParts → ℕ
states_of p = length p.phases.items

-- the words of each set
abbrev pub words_of : ImageParts → ℕ
words_of p = words_for (length p.places.items)

-- the columns of each row
abbrev pub width_of : ImageParts → ℕ
width_of p = width_for (length p.time_cuts.items) (length p.ratio_cuts.items)

-- place k
abbrev pub place_of : ImageParts → ℕ → Place
place_of p k = slice_index_or p.places.items k (record { j = 0; n1 = pos 0; n2 = pos 0 })

-- time cut k, in femtoseconds
abbrev pub time_cut_of : ImageParts → ℕ → ℕ
time_cut_of p k = slice_index p.time_cuts.items k

-- ratio cut k, its top and its bottom
abbrev pub ratio_cut_of : ImageParts → ℕ → ℕ × ℕ
ratio_cut_of p k = slice_index_or p.ratio_cuts.items k (0, 0)

-- the phase of state q
abbrev pub phase_of : ImageParts → ℕ → ℕ
phase_of p q = slice_index p.phases.items q

-- the kind of state q
abbrev pub kind_of : ImageParts → ℕ → Kind
kind_of p q = slice_index_or p.kinds.items q Dead

-- word w of the set of state q, whose bit i is place 64 * w + i
abbrev pub member_of : ImageParts → ℕ → ℕ → ℕ
member_of p q w = slice_index p.members.items (q * words_of p + w)

-- the state that a column leads to from state q
abbrev pub entry_of : ImageParts → ℕ → ℕ → ℕ
entry_of p q column = slice_index p.rows.items (q * width_of p + column)

-- no list is too long, there are a place and two states, and each state has a set and a row
pub record KeepsSizes (p : ImageParts) : Type 0 where
  pub small : AreSmall p
  pub some_places : 1 ≤ length p.places.items
  pub some_states : 2 ≤ states_of p
  pub sets : length p.members.items ≡ states_of p * words_of p
  pub entries : length p.rows.items ≡ states_of p * width_of p

-- the places are in range and rise
pub record KeepsPlaces (p : ImageParts) : Type 0 where
  pub range : (k : ℕ) → k < length p.places.items → IsPlace (edge_count p.wheel Crank) (place_of p k)
  pub ascend : (k : ℕ) → k + 1 < length p.places.items → IsBelow (place_of p k) (place_of p (k + 1))

-- the time cuts are at least 1, fit 64 bits and rise
pub record KeepsTimeCuts (p : ImageParts) : Type 0 where
  pub some : (k : ℕ) → k < length p.time_cuts.items → 1 ≤ time_cut_of p k
  pub fit : (k : ℕ) → k < length p.time_cuts.items → time_cut_of p k < 2 ^ 64
  pub ascend : (k : ℕ) → k + 1 < length p.time_cuts.items → time_cut_of p k < time_cut_of p (k + 1)

-- a ratio cut is below another as a fraction, by cross products
abbrev pub IsBelowAsFraction : ℕ × ℕ → ℕ × ℕ → Type 0
IsBelowAsFraction x y = x.0 * y.1 < y.0 * x.1

-- the ratio cuts have numbers of at least 1 that fit 32 bits, and rise as fractions
pub record KeepsRatioCuts (p : ImageParts) : Type 0 where
  pub some : (k : ℕ) → k < length p.ratio_cuts.items → (1 ≤ (ratio_cut_of p k).0) × (1 ≤ (ratio_cut_of p k).1)
  pub fit : (k : ℕ) → k < length p.ratio_cuts.items → ((ratio_cut_of p k).0 < 2 ^ 32) × ((ratio_cut_of p k).1 < 2 ^ 32)
  pub ascend : (k : ℕ) → k + 1 < length p.ratio_cuts.items → IsBelowAsFraction (ratio_cut_of p k) (ratio_cut_of p (k + 1))

-- what a state past 0 says: that it is at a crank edge, or open between two places of different positions, the lesser first
abbrev pub Says : ImageParts → Kind → Type 0
Says p Dead = ⊥
Says p (At j) = j < edge_count p.wheel Crank
Says p (Open e f) = (e < f) × (f < length p.places.items) × ((place_of p e).j ≡ (place_of p f).j → ⊥)

-- state 0 is dead and of phase 0, state 1 is of phase 0, and every state past 0 has a phase and a kind
pub record KeepsStates (p : ImageParts) : Type 0 where
  pub dead : (phase_of p 0 ≡ 0) × (kind_of p 0 ≡ Dead)
  pub start : phase_of p 1 ≡ 0
  pub phases : (q : ℕ) → 1 ≤ q → q < states_of p → phase_of p q ≤ 5
  pub kinds : (q : ℕ) → 1 ≤ q → q < states_of p → Says p (kind_of p q)

-- the words of sets fit 64 bits, no set has a member past the places, which only its last word could hold, and that of state 0 has none
pub record KeepsMembers (p : ImageParts) : Type 0 where
  pub fit : (k : ℕ) → k < length p.members.items → slice_index p.members.items k < 2 ^ 64
  pub places : (q : ℕ) → q < states_of p → member_of p q (words_of p - 1) < 2 ^ (length p.places.items - 64 * (words_of p - 1))
  pub dead : (w : ℕ) → w < words_of p → member_of p 0 w ≡ 0

-- state q leads nowhere by a column, or to a state of the phase that the column leads to
abbrev pub Leads : ImageParts → ℕ → ℕ → Type 0
Leads p q column =
    (entry_of p q column ≡ 0)
    ⊎ IsTrue (leads_to (letter_of (length p.time_cuts.items) (length p.ratio_cuts.items) column) (phase_of p q) (phase_of p (entry_of p q column)))

-- the row of state 0 is zeros, and every entry is a state of the phase that its column leads to
pub record KeepsRows (p : ImageParts) : Type 0 where
  pub dead : (column : ℕ) → column < width_of p → entry_of p 0 column ≡ 0
  pub range : (q column : ℕ) → q < states_of p → column < width_of p → entry_of p q column < states_of p
  pub leads : (q column : ℕ) → q < states_of p → column < width_of p → Leads p q column

-- the parts keep the rules, list by list
pub record KeepsRules (p : ImageParts) : Type 0 where
  pub wheel : IsWheel p.wheel
  pub sizes : KeepsSizes p
  pub places : KeepsPlaces p
  pub time_cuts : KeepsTimeCuts p
  pub ratio_cuts : KeepsRatioCuts p
  pub states : KeepsStates p
  pub members : KeepsMembers p
  pub rows : KeepsRows p
