-- The first difference between the table of an image and that of an alphabet.
--
-- The parts are compared in the order of the faults: a part is looked at where all parts before it agree, and in it the entries from the front.
use Rattle.std.specs.Prelude.{◌≡◌, ◌≢◌, ℕ, ◌<◌, ⊤, List, slice_get, Option, Some, None}
use Rattle.wheel_types.specs.declared.place.Place.{Place}
use Rattle.image_layout.specs.declared.kind.Kind.{Kind}
use Rattle.image_layout.specs.Layout.{state_total, row_width}
use Rattle.image_layout.specs.Fields.{kind_at, entry_at}
use Rattle.position_nfa.specs.declared.pair.Pair.{Pair}
use Rattle.position_nfa.specs.Alphabets.{Alphabet}
use Rattle.position_nfa.specs.Families.{IsReached}
use Rattle.position_nfa.specs.Sets.{all_places}
use Rattle.position_nfa.specs.Sound.{IsDue, SetSays}
use Rattle.position_nfa.specs.Step.{next_state}
use Rattle.table_images.specs.Images.{set_at, state_at, table_of}
use Rattle.table_images.specs.Kinds.{says_of}
use Rattle.audit_faults.specs.declared.fault.AuditFault.{AuditFault}
use Rattle.audit_faults.specs.declared.fault.AuditFault.TheVariants as faults
use Rattle.image_audit.specs.Agreements.{time_cuts, ratio_cuts, named, OnceTo, KindsTo, EntriesTo, ReachedTo, AgreesInLists, AgreesInStart, AgreesInStates, AgreesInKinds, AgreesInRows}

-- two lists are the same before a place, and at it one has another entry than the other, or none
pub record DifferFirst (X : Type 0) (xs ys : List X) (at : ℕ) (f d : Option X) : Type 0 where
  pub before : (k : ℕ) → k < at → slice_get xs k ≡ slice_get ys k
  pub found : f ≡ slice_get xs at
  pub due : d ≡ slice_get ys at
  pub differ : f ≢ d

-- the states before this one are different ones, and it is the first of them again
pub record IsRepeat (b : List ℕ) (first state : ℕ) : Type 0 where
  pub before : OnceTo b state
  pub within : state < state_total b
  pub earlier : first < state
  pub equal : named b first ≡ named b state

-- the kinds of the states before this one say what their sets say, and it has another kind than the due one
pub record IsOtherKind (a : Alphabet) (b : List ℕ) (state : ℕ) (f d : Kind) : Type 0 where
  pub before : KindsTo a b state
  pub within : state < state_total b
  pub found : f ≡ kind_at b state
  pub due : SetSays a (set_at b state) (says_of d)
  pub differ : f ≢ d

-- the number of the due state, None where no state is the due one
abbrev pub IsDueNumber : List Pair → Option Pair → Option ℕ → Type 0
IsDueNumber states next (Some n) = IsDue states next n
IsDueNumber states next None = (n : ℕ) → IsDue states next n → ⊥

-- the entries before this one are due, and it is another than the due one
pub record IsOtherEntry (a : Alphabet) (b : List ℕ) (state letter f : ℕ) (d : Option ℕ) : Type 0 where
  pub before : EntriesTo a b state letter
  pub within : state < state_total b
  pub column : letter < row_width b
  pub found : f ≡ entry_at b state letter
  pub due : IsDueNumber (table_of b).states (next_state a (state_at b state) letter) d
  pub differ : Some f ≢ d

-- words reach the states before this one, and none reaches it
pub record IsCutOff (a : Alphabet) (b : List ℕ) (state : ℕ) : Type 0 where
  pub before : ReachedTo a b state
  pub within : state < state_total b
  pub unreached : IsReached a (state_at b state) → ⊥

-- the fault is the first difference; want of memory tells none
abbrev pub IsFirst : Alphabet → List ℕ → AuditFault → Type 0
IsFirst a b faults.TooManyPlaces = ⊥
IsFirst a b (faults.Places at f d) = DifferFirst Place (table_of b).places a.places at f d
IsFirst a b (faults.TimeCut at f d) = ((table_of b).places ≡ a.places) × DifferFirst ℕ (table_of b).time_cuts (time_cuts a) at f d
IsFirst a b (faults.RatioCut at f d) =
    ((table_of b).places ≡ a.places) × ((table_of b).time_cuts ≡ time_cuts a) × DifferFirst (ℕ × ℕ) (table_of b).ratio_cuts (ratio_cuts a) at f d
IsFirst a b (faults.Start word f d) = AgreesInLists a b × DifferFirst ℕ (set_at b 1) (all_places a) word (Some f) (Some d)
IsFirst a b (faults.Twice first state) = AgreesInStart a b × IsRepeat b first state
IsFirst a b (faults.Kind state f d) = AgreesInStates a b × IsOtherKind a b state f d
IsFirst a b (faults.Mismatch state letter f d) = AgreesInKinds a b × IsOtherEntry a b state letter f d
IsFirst a b (faults.Unreached state) = AgreesInRows a b × IsCutOff a b state
IsFirst a b faults.Memory = ⊤
