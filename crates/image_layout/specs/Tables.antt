-- What it is for bytes to be an image: the table of the layout, as plain facts.
use Rattle.std.specs.Prelude.{◌≡◌, ◌⊎◌, ℕ, ◌+◌, ◌-◌, ◌*◌, ◌^◌, ◌≤◌, ◌<◌, ◌<ℤ◌, IsTrue, List, length, slice_index, unsigned_abs}
use Rattle.wheel_types.specs.declared.place.Place.{Place}
use Rattle.image_layout.specs.Layout.{word_at, slot_total, place_total, time_total, ratio_total, state_total, set_words, row_width, slots_begin, places_begin, times_begin, members_begin, rows_end, image_end}
use Rattle.image_layout.specs.Fields.{kept_at, slot_at, place_at, time_cut_at, ratio_top_at, ratio_bottom_at, kind_word_at, phase_at, member_at, entry_at, crank_total}
use Rattle.image_layout.specs.Letters.{letter_of, leads_to}
use Rattle.image_layout.specs.Keeps.{AreCounts}

-- the bytes from a place to another are zero
abbrev pub AreZero : List ℕ → ℕ → ℕ → Type 0
AreZero b from to = (at : ℕ) → from ≤ at → at < to → slice_index b at ≡ 0

-- the words of the header keep its table
pub record KeepsHeader (b : List ℕ) : Type 0 where
  pub front : 72 ≤ length b
  pub magic : word_at b 0 ≡ 0x4e595357
  pub version : word_at b 4 ≡ 1
  pub whole : length b ≡ image_end b
  pub told : word_at b 8 ≡ image_end b
  pub counts : AreCounts b
  pub degrees : (word_at b 32 ≡ 360) ⊎ (word_at b 32 ≡ 720)
  pub keep : word_at b 36 < 64
  pub crank : 1 ≤ kept_at b 1
  pub cam1 : 1 ≤ kept_at b 4
  pub cam2 : 1 ≤ kept_at b 16
  pub phasing1 : word_at b 40 + word_at b 44 < 1000 * word_at b 32
  pub phasing2 : word_at b 48 + word_at b 52 < 1000 * word_at b 32
  pub rpm : (1 ≤ word_at b 56) × (word_at b 56 ≤ word_at b 60) × (word_at b 60 ≤ 30000)
  pub ratio : (1 ≤ word_at b 68) × (word_at b 68 ≤ word_at b 64) × (word_at b 64 ≤ 65535)

-- the slots have three bits each, keep an edge of the crank, and zeros stand behind them
pub record KeepsSlots (b : List ℕ) : Type 0 where
  pub values : (k : ℕ) → k < slot_total b → slot_at b k ≤ 7
  pub crank_edge : 1 ≤ crank_total b
  pub padding : AreZero b (slots_begin b + slot_total b) (places_begin b)

-- a place is below another, in the order of j, n1 and n2
abbrev pub IsBelow : Place → Place → Type 0
IsBelow p q = (p.j < q.j) ⊎ ((p.j ≡ q.j) × ((p.n1 <ℤ q.n1) ⊎ ((p.n1 ≡ q.n1) × (p.n2 <ℤ q.n2))))

-- a place's position is one of so many crank edges, and its cam indices are below 2 to the 20 in size
abbrev pub IsPlace : ℕ → Place → Type 0
IsPlace cranks p = (p.j < cranks) × (unsigned_abs p.n1 < 1048576) × (unsigned_abs p.n2 < 1048576)

-- the places are in range and rise, and zeros stand behind them
pub record KeepsPlaces (b : List ℕ) : Type 0 where
  pub range : (k : ℕ) → k < place_total b → IsPlace (crank_total b) (place_at b k)
  pub ascend : (k : ℕ) → k + 1 < place_total b → IsBelow (place_at b k) (place_at b (k + 1))
  pub padding : AreZero b (places_begin b + 12 * place_total b) (times_begin b)

-- the time cuts are at least 1 and rise
pub record KeepsTimeCuts (b : List ℕ) : Type 0 where
  pub range : (k : ℕ) → k < time_total b → 1 ≤ time_cut_at b k
  pub ascend : (k : ℕ) → k + 1 < time_total b → time_cut_at b k < time_cut_at b (k + 1)

-- the ratio cuts have numbers of at least 1, and rise as fractions
pub record KeepsRatioCuts (b : List ℕ) : Type 0 where
  pub range : (k : ℕ) → k < ratio_total b → (1 ≤ ratio_top_at b k) × (1 ≤ ratio_bottom_at b k)
  pub ascend : (k : ℕ) → k + 1 < ratio_total b →
      ratio_top_at b k * ratio_bottom_at b (k + 1) < ratio_top_at b (k + 1) * ratio_bottom_at b k

-- a state's kind is `at` its first number, a position
abbrev pub IsAt : List ℕ → ℕ → Type 0
IsAt b q = (kind_word_at b q 1 ≡ 1) × (kind_word_at b q 2 < crank_total b) × (kind_word_at b q 3 ≡ 0)

-- a state's kind is `open` between two places of different positions
abbrev pub IsOpen : List ℕ → ℕ → Type 0
IsOpen b q =
    (kind_word_at b q 1 ≡ 2) × (kind_word_at b q 2 < kind_word_at b q 3) × (kind_word_at b q 3 < place_total b)
    × ((place_at b (kind_word_at b q 2)).j ≡ (place_at b (kind_word_at b q 3)).j → ⊥)

-- state 0 is dead, state 1 is of phase 0, and every state past 0 has a phase and a kind
pub record KeepsKinds (b : List ℕ) : Type 0 where
  pub dead : (phase_at b 0 ≡ 0) × (kind_word_at b 0 1 ≡ 0) × (kind_word_at b 0 2 ≡ 0) × (kind_word_at b 0 3 ≡ 0)
  pub phases : (q : ℕ) → 1 ≤ q → q < state_total b → phase_at b q ≤ 5
  pub start : phase_at b 1 ≡ 0
  pub kinds : (q : ℕ) → 1 ≤ q → q < state_total b → IsAt b q ⊎ IsOpen b q

-- no set has a member past the places, which only its last word could hold, and that of state 0 has none
pub record KeepsMembers (b : List ℕ) : Type 0 where
  pub places : (q : ℕ) → q < state_total b → member_at b q (set_words b - 1) < 2 ^ (place_total b - 64 * (set_words b - 1))
  pub dead : AreZero b (members_begin b) (members_begin b + 8 * set_words b)

-- state q leads nowhere by a column, or to a state of the phase that the column leads to
abbrev pub Leads : List ℕ → ℕ → ℕ → Type 0
Leads b q column =
    (entry_at b q column ≡ 0)
    ⊎ IsTrue (leads_to (letter_of (time_total b) (ratio_total b) column) (phase_at b q) (phase_at b (entry_at b q column)))

-- the row of state 0 is zeros, every entry is a state of the phase that its column leads to, and zeros stand behind the rows
pub record KeepsRows (b : List ℕ) : Type 0 where
  pub dead : (column : ℕ) → column < row_width b → entry_at b 0 column ≡ 0
  pub range : (q column : ℕ) → q < state_total b → column < row_width b → entry_at b q column < state_total b
  pub leads : (q column : ℕ) → q < state_total b → column < row_width b → Leads b q column
  pub padding : AreZero b (rows_end b) (image_end b)

-- the bytes keep the table, section by section
pub record KeepsLayout (b : List ℕ) : Type 0 where
  pub header : KeepsHeader b
  pub slots : KeepsSlots b
  pub places : KeepsPlaces b
  pub time_cuts : KeepsTimeCuts b
  pub ratio_cuts : KeepsRatioCuts b
  pub kinds : KeepsKinds b
  pub members : KeepsMembers b
  pub rows : KeepsRows b
