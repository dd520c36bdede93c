-- The keys of a wheel file.
use Rattle.std.specs.Prelude.{ℕ, Bool, true, false, ◌&&◌, List, [], ◌∷◌, codes, bytes_eq}
use Rattle.std.specs.List.{list_any}
use Rattle.toml.specs.Data.{Members, no_members, member}
use Rattle.wheel_pattern.specs.declared.keys.Key.{Key}
use Rattle.wheel_pattern.specs.declared.keys.Key.TheVariants.{Degrees, Slots, Teeth, Missing, Cam1High, Cam2High, Crank, Cam1, Cam2, Cam1Early, Cam1Late, Cam2Early, Cam2Late, RpmLow, RpmHigh, Ratio}

-- the text of a key
abbrev pub text_of : Key → List ℕ
text_of Degrees = codes "degrees"
text_of Slots = codes "slots"
text_of Teeth = codes "teeth"
text_of Missing = codes "missing"
text_of Cam1High = codes "cam1_high"
text_of Cam2High = codes "cam2_high"
text_of Crank = codes "crank"
text_of Cam1 = codes "cam1"
text_of Cam2 = codes "cam2"
text_of Cam1Early = codes "cam1_early"
text_of Cam1Late = codes "cam1_late"
text_of Cam2Early = codes "cam2_early"
text_of Cam2Late = codes "cam2_late"
text_of RpmLow = codes "rpm_low"
text_of RpmHigh = codes "rpm_high"
text_of Ratio = codes "ratio"

-- every key of a wheel file
abbrev pub all_keys : List Key
all_keys = Degrees ∷ Slots ∷ Teeth ∷ Missing ∷ Cam1High ∷ Cam2High ∷ Crank ∷ Cam1 ∷ Cam2 ∷ Cam1Early ∷ Cam1Late ∷ Cam2Early ∷ Cam2Late ∷ RpmLow ∷ RpmHigh ∷ Ratio ∷ []

-- the keys that a file must have, in the short form and in the full one
abbrev pub required_keys : Bool → List Key
required_keys true = Teeth ∷ Missing ∷ RpmLow ∷ RpmHigh ∷ Ratio ∷ []
required_keys false = Degrees ∷ Slots ∷ RpmLow ∷ RpmHigh ∷ Ratio ∷ []

-- whether a name is the text of one of these keys
abbrev pub is_named : List Key → List ℕ → Bool
is_named keys name = list_any (λ k. bytes_eq name (text_of k)) keys

-- whether each name at the top of a document is the text of one of these keys
abbrev pub has_only : List Key → Members → Bool
has_only keys no_members = true
has_only keys (member name d ms) = is_named keys name && has_only keys ms
