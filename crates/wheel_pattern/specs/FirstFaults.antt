-- Which key a fault names: the first that is missing, and the first whose value is bad.
use Rattle.std.specs.Prelude.{◌≡◌, ◌↔◌, ℕ, ◌&&◌, not, Bool, true, false, List, Option, Some, None, is_some, is_none, unwrap_or, option_and_then, find}
use Rattle.toml.specs.Data.{Data, Members}
use Rattle.wheel_pattern.specs.declared.keys.Key.{Key}
use Rattle.wheel_pattern.specs.declared.keys.Key.TheVariants.{Degrees, Slots, Teeth, Missing, Cam1High, Cam2High, Crank, Cam1, Cam2, Cam1Early, Cam1Late, Cam2Early, Cam2Late, RpmLow, RpmHigh, Ratio}
use Rattle.wheel_pattern.specs.declared.fault.PatternFault.TheVariants.{MissingKey, BadValue}
use Rattle.wheel_pattern.specs.Keys.{all_keys, required_keys, has_only}
use Rattle.wheel_pattern.specs.Lookups.{Lookup, IsDocumentOf, values_of, is_short}
use Rattle.wheel_pattern.specs.ToothPattern.{slots_high}
use Rattle.wheel_pattern.specs.Values.{whole, whole_below, count_below, slot_values, pair_of, keep_in}
use Rattle.wheel_pattern.specs.WheelFile.{HasFault}

-- the degrees that a file gives, or 360 where it gives none
abbrev pub degrees_in : Lookup → ℕ
degrees_in at = unwrap_or (option_and_then whole (at Degrees)) 360

-- the number of teeth that a file gives, or none
abbrev pub teeth_in : Lookup → ℕ
teeth_in at = unwrap_or (option_and_then (count_below 2049) (at Teeth)) 0

-- a value is of the key's kind and range, beside these degrees and so many teeth
abbrev pub is_right : ℕ → ℕ → Key → Data → Bool
is_right degrees teeth Degrees = λ d. is_some (whole d)
is_right degrees teeth Slots = λ d. is_some (slot_values d)
is_right degrees teeth Teeth = λ d. is_some (count_below 2049 d)
is_right degrees teeth Missing = λ d. is_some (whole_below teeth d)
is_right degrees teeth Cam1High = λ d. is_some (slots_high degrees teeth d)
is_right degrees teeth Cam2High = λ d. is_some (slots_high degrees teeth d)
is_right degrees teeth Crank = λ d. is_some (keep_in d)
is_right degrees teeth Cam1 = λ d. is_some (keep_in d)
is_right degrees teeth Cam2 = λ d. is_some (keep_in d)
is_right degrees teeth Cam1Early = λ d. is_some (whole d)
is_right degrees teeth Cam1Late = λ d. is_some (whole d)
is_right degrees teeth Cam2Early = λ d. is_some (whole d)
is_right degrees teeth Cam2Late = λ d. is_some (whole d)
is_right degrees teeth RpmLow = λ d. is_some (whole d)
is_right degrees teeth RpmHigh = λ d. is_some (whole d)
is_right degrees teeth Ratio = λ d. is_some (pair_of whole whole d)

-- something stands there that is not right
abbrev pub stands_wrong : (Data → Bool) → Option Data → Bool
stands_wrong right None = false
stands_wrong right (Some d) = not (right d)

-- the value at a key is bad: something stands there that is not of the key's kind and range
abbrev pub is_bad : Lookup → Key → Bool
is_bad at key = stands_wrong (is_right (degrees_in at) (teeth_in at) key) (at key)

-- the first key that a file must have and has not
abbrev pub first_missing : Lookup → Option Key
first_missing at = find (λ key. is_none (at key)) (required_keys (is_short at))

-- the first of all keys whose value is bad
abbrev pub first_bad : Lookup → Option Key
first_bad at = find (is_bad at) all_keys

-- a document of known keys, in the full form or in the short one
pub record IsInOneForm (bytes : List ℕ) (ms : Members) : Type 0 where
  pub document : IsDocumentOf bytes ms
  pub known : has_only all_keys ms ≡ true
  pub one : (is_short (values_of ms) && is_some (values_of ms Slots)) ≡ false

-- a document in one form lacks this key, and has those before it that it must have
pub record LacksFirst (bytes : List ℕ) (key : Key) (ms : Members) : Type 0 where
  pub form : IsInOneForm bytes ms
  pub first : first_missing (values_of ms) ≡ Some key

-- a document in one form lacks nothing; this key's value is bad, and those of all keys before it are good
pub record IsBadFirst (bytes : List ℕ) (key : Key) (ms : Members) : Type 0 where
  pub form : IsInOneForm bytes ms
  pub none_missing : first_missing (values_of ms) ≡ None
  pub first : first_bad (values_of ms) ≡ Some key

-- a key is told exactly where it is the first that is missing, or the first whose value is bad
pub record FirstKeysAreTold : Type 0 where
  pub missing : (bytes : List ℕ) (key : Key) → HasFault bytes (MissingKey key) ↔ ((ms : Members) × LacksFirst bytes key ms)
  pub bad : (bytes : List ℕ) (key : Key) → HasFault bytes (BadValue key) ↔ ((ms : Members) × IsBadFirst bytes key ms)
