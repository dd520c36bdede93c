-- What the bytes of a wheel file mean.
use Rattle.std.specs.Prelude.{◌≡◌, ℕ, ◌⊎◌, ◌&&◌, if◌then◌else◌, List, Option, Some, None, is_some, is_none, find, Result, Ok, Err}
use Rattle.toml.specs.Data.{Members}
use Rattle.wheel_types.specs.declared.channel.Keep.TheVariants.{Rising}
use Rattle.wheel_types.specs.declared.parts.WheelParts.{WheelParts}
use Rattle.wheel_types.specs.Wheels.{IsWheel}
use Rattle.wheel_types.specs.Faults.{BreaksFirst}
use Rattle.wheel_pattern.specs.declared.keys.Key.{Key}
use Rattle.wheel_pattern.specs.declared.keys.Key.TheVariants.{Degrees, Slots, Teeth, Missing, Cam1High, Cam2High, Crank, Cam1, Cam2, Cam1Early, Cam1Late, Cam2Early, Cam2Late, RpmLow, RpmHigh, Ratio}
use Rattle.wheel_pattern.specs.declared.fault.PatternFault.{PatternFault}
use Rattle.wheel_pattern.specs.declared.fault.PatternFault.TheVariants as fault
use Rattle.wheel_pattern.specs.declared.fault.PatternFault.TheVariants.{NotToml, UnknownKey, BothForms, MissingKey}
use Rattle.wheel_pattern.specs.Keys.{all_keys, required_keys, has_only}
use Rattle.wheel_pattern.specs.Lookups.{Lookup, IsDocumentOf, IsDocument, values_of, is_short, ◌>>=◌, given, optional}
use Rattle.wheel_pattern.specs.ToothPattern.{slots_of_teeth, slots_high, crank_levels, pattern_slots}
use Rattle.wheel_pattern.specs.Values.{whole, whole_below, count_below, slot_values, pair_of, keep_in}

-- the parts with these degrees and slots, the rest from what stands at the keys
abbrev pub with_limits : Lookup → ℕ → List ℕ → Result WheelParts PatternFault
with_limits at degrees slots =
    optional Rising at Crank keep_in >>= λ crank.
    optional Rising at Cam1 keep_in >>= λ cam1.
    optional Rising at Cam2 keep_in >>= λ cam2.
    optional 0 at Cam1Early whole >>= λ cam1_early.
    optional 0 at Cam1Late whole >>= λ cam1_late.
    optional 0 at Cam2Early whole >>= λ cam2_early.
    optional 0 at Cam2Late whole >>= λ cam2_late.
    given at RpmLow whole >>= λ rpm_low.
    given at RpmHigh whole >>= λ rpm_high.
    given at Ratio (pair_of whole whole) >>= λ ratio.
    Ok (record {
      degrees = degrees;
      slots = slots;
      crank = crank;
      cam1 = cam1;
      cam2 = cam2;
      cam1_early = cam1_early;
      cam1_late = cam1_late;
      cam2_early = cam2_early;
      cam2_late = cam2_late;
      rpm_low = rpm_low;
      rpm_high = rpm_high;
      rn = ratio.0;
      rd = ratio.1;
    })

-- the parts of a file in the full form, which lists its slots
abbrev pub full_parts : Lookup → Result WheelParts PatternFault
full_parts at =
    given at Degrees whole >>= λ degrees.
    given at Slots slot_values >>= λ slots.
    with_limits at degrees slots

-- the parts of a file in the short form, which tells its teeth and where its cams are high, if anywhere
abbrev pub short_parts : Lookup → Result WheelParts PatternFault
short_parts at =
    optional 360 at Degrees whole >>= λ degrees.
    given at Teeth (count_below 2049) >>= λ teeth.
    given at Missing (whole_below teeth) >>= λ missing.
    optional (0, 0) at Cam1High (slots_high degrees teeth) >>= λ high1.
    optional (0, 0) at Cam2High (slots_high degrees teeth) >>= λ high2.
    with_limits at degrees (pattern_slots (slots_of_teeth degrees teeth) (crank_levels degrees teeth missing) high1 high2)

-- the parts, or the first missing key
abbrev pub unless_missing : Option Key → Result WheelParts PatternFault → Result WheelParts PatternFault
unless_missing (Some key) parts = Err (MissingKey key)
unless_missing None parts = parts

-- the parts that known keys give, or the first fault
abbrev pub parts_at : Lookup → Result WheelParts PatternFault
parts_at at =
    if is_short at && is_some (at Slots) then Err BothForms
    else unless_missing (find (λ key. is_none (at key)) (required_keys (is_short at)))
    (if is_short at then short_parts at else full_parts at)

-- the parts that the members of a document give, or the first fault
abbrev pub parts_of : Members → Result WheelParts PatternFault
parts_of ms = if has_only all_keys ms then parts_at (values_of ms) else Err UnknownKey

-- what the bytes of a file give, before a wheel's own rules are asked: `NotToml` where they are no document
abbrev pub Gives : List ℕ → Result WheelParts PatternFault → Type 0
Gives bytes result =
    (¬ IsDocument bytes × (result ≡ Err NotToml)) ⊎ ((ms : Members) × IsDocumentOf bytes ms × (result ≡ parts_of ms))

-- the bytes are a wheel file of these parts
pub record MeansWheel (bytes : List ℕ) (parts : WheelParts) : Type 0 where
  pub given : Gives bytes (Ok parts)
  pub wheel : IsWheel parts

-- why the bytes are no wheel file: the first fault of the document, or the first rule of a wheel that its parts break
abbrev pub HasFault : List ℕ → PatternFault → Type 0
HasFault bytes (fault.Wheel f) = (parts : WheelParts) × (Gives bytes (Ok parts) × BreaksFirst parts f)
HasFault bytes fault.Memory = ⊥
HasFault bytes f = Gives bytes (Err f)
