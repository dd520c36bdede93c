-- Where the letters lead.
use Rattle.std.specs.Prelude.{ℕ, Bool, ◌&&◌, ◌==◌, nat_eq, if◌then◌else◌, List, Option, Some, None}
use Rattle.std.specs.Cmp.Lexicographic.{pointwise}
use Rattle.place_words.specs.Words.{has_none}
use Rattle.position_nfa.specs.declared.pair.Pair.{Pair}
use Rattle.position_nfa.specs.Alphabets.{Alphabet, time_classes, ratio_classes}
use Rattle.position_nfa.specs.Letters.{leads}
use Rattle.position_nfa.specs.Sets.{all_places, no_places, effect}

-- the empty set of every phase
abbrev pub dead_state : Alphabet → Pair
dead_state a = record { phase = 0; set = no_places a }

-- all places, before any crank edge
abbrev pub start_state : Alphabet → Pair
start_state a = record { phase = 0; set = all_places a }

-- the phase of a state: an empty set has phase 0
abbrev pub phase_of : ℕ → List ℕ → ℕ
phase_of to set = if has_none set then 0 else to

-- the empty sets of all phases are one state
abbrev pub state_of : Pair → Pair
state_of p = record { phase = phase_of p.phase p.set; set = p.set }

-- the state that is reached where the column's letter leads to a phase
abbrev pub state_if : Alphabet → Option ℕ → ℕ → Pair → Option Pair
state_if a None column p = None
state_if a (Some to) column p = Some (state_of (record { phase = to; set = effect a column p.set }))

-- where the column's letter leads from the state
abbrev pub next_state : Alphabet → Pair → ℕ → Option Pair
next_state a p column = state_if a (leads (time_classes a) (ratio_classes a) p.phase column) column p

-- the test whether two states are the same
abbrev pub same : Pair → Pair → Bool
same p q = (p.phase == q.phase) && pointwise nat_eq p.set q.set
