-- The faults of a file's document alone are neither a wheel's nor want of memory.
use Rattle.std.proofs.Common.{ℕ, Bool, true, false, List, Option, Some, None, Result, Ok, Err, ok_or, inl, inr}
use Rattle.std.specs.Prelude.{⊤, if◌then◌else◌, option_and_then, is_none, find}
use Rattle.toml.specs.Data.{Data, Members}
use Rattle.wheel_types.specs.declared.channel.Keep.TheVariants.{Rising}
use Rattle.wheel_types.specs.declared.parts.WheelParts.{WheelParts}
use Rattle.wheel_pattern.specs.declared.keys.Key.{Key}
use Rattle.wheel_pattern.specs.declared.keys.Key.TheVariants.{Degrees, Slots, Teeth, Missing, Cam1High, Cam2High, Crank, Cam1, Cam2, Cam1Early, Cam1Late, Cam2Early, Cam2Late, RpmLow, RpmHigh, Ratio}
use Rattle.wheel_pattern.specs.declared.fault.PatternFault.{PatternFault}
use Rattle.wheel_pattern.specs.declared.fault.PatternFault.TheVariants as fault
use Rattle.wheel_pattern.specs.declared.fault.PatternFault.TheVariants.{NotToml, UnknownKey, BothForms, MissingKey, BadValue}
use Rattle.wheel_pattern.specs.Keys.{all_keys, required_keys, has_only}
use Rattle.wheel_pattern.specs.Lookups.{Lookup, values_of, is_short, ◌>>=◌, given, optional}
use Rattle.wheel_pattern.specs.ToothPattern.{slots_high}
use Rattle.wheel_pattern.specs.Values.{whole, whole_below, count_below, slot_values, pair_of, keep_in}
use Rattle.wheel_pattern.specs.WheelFile.{with_limits, full_parts, short_parts, unless_missing, parts_at, parts_of, Gives, HasFault}

-- a fault, if it is one, is one of a document
IsOfFile : {T : Type 0} → Result T PatternFault → Type 0
IsOfFile (Ok t) = ⊤
IsOfFile (Err NotToml) = ⊤
IsOfFile (Err UnknownKey) = ⊤
IsOfFile (Err BothForms) = ⊤
IsOfFile (Err (MissingKey key)) = ⊤
IsOfFile (Err (BadValue key)) = ⊤
IsOfFile (Err (fault.Wheel f)) = ⊥
IsOfFile (Err fault.Memory) = ⊥

-- a step after one whose faults are the document's adds none of another kind
then-of_file : {T U : Type 0} (r : Result T PatternFault) (next : T → Result U PatternFault) → IsOfFile r → ((t : T) → IsOfFile (next t)) → IsOfFile (r >>= next)
unfolding IsOfFile
then-of_file (Ok t) next a b = b t
then-of_file (Err NotToml) next a b = tt
then-of_file (Err UnknownKey) next a b = tt
then-of_file (Err BothForms) next a b = tt
then-of_file (Err (MissingKey key)) next a b = tt
then-of_file (Err (BadValue key)) next a b = tt
then-of_file (Err (fault.Wheel f)) next a b = a
then-of_file (Err fault.Memory) next a b = a

-- a value that is not read is the document's fault
read-of_file : {T : Type 0} (o : Option T) (key : Key) → IsOfFile (ok_or o (BadValue key))
unfolding IsOfFile
read-of_file None key = tt
read-of_file (Some t) key = tt

-- so it is of a value that must stand
given-of_file : {T : Type 0} (at : Lookup) (key : Key) (read : Data → Option T) → IsOfFile (given at key read)
given-of_file at key read = read-of_file (option_and_then read (at key)) key

-- of two results the chosen one
either-of_file : {T : Type 0} (b : Bool) (x y : Result T PatternFault) → IsOfFile x → IsOfFile y → IsOfFile (if b then x else y)
either-of_file true x y a b = a
either-of_file false x y a b = b

-- parts are no fault
ok-of_file : {T : Type 0} (t : T) → IsOfFile (Ok t)
unfolding IsOfFile
ok-of_file t = tt

-- a value that may be left out, too, is at most the document's fault
optional-of_file : {T : Type 0} (usual : T) (at : Lookup) (key : Key) (read : Data → Option T) → IsOfFile (optional usual at key read)
optional-of_file usual at key read = either-of_file (is_none (at key)) (Ok usual) (given at key read) (ok-of_file usual) (given-of_file at key read)

-- the limits give no fault of another kind
limits-of_file : (at : Lookup) (degrees : ℕ) (slots : List ℕ) → IsOfFile (with_limits at degrees slots)
limits-of_file at degrees slots =
    then-of_file (optional Rising at Crank keep_in) _ (optional-of_file Rising at Crank keep_in) (λ crank.
    then-of_file (optional Rising at Cam1 keep_in) _ (optional-of_file Rising at Cam1 keep_in) (λ cam1.
    then-of_file (optional Rising at Cam2 keep_in) _ (optional-of_file Rising at Cam2 keep_in) (λ cam2.
    then-of_file (optional 0 at Cam1Early whole) _ (optional-of_file 0 at Cam1Early whole) (λ cam1_early.
    then-of_file (optional 0 at Cam1Late whole) _ (optional-of_file 0 at Cam1Late whole) (λ cam1_late.
    then-of_file (optional 0 at Cam2Early whole) _ (optional-of_file 0 at Cam2Early whole) (λ cam2_early.
    then-of_file (optional 0 at Cam2Late whole) _ (optional-of_file 0 at Cam2Late whole) (λ cam2_late.
    then-of_file (given at RpmLow whole) _ (given-of_file at RpmLow whole) (λ rpm_low.
    then-of_file (given at RpmHigh whole) _ (given-of_file at RpmHigh whole) (λ rpm_high.
    then-of_file (given at Ratio (pair_of whole whole)) _ (given-of_file at Ratio (pair_of whole whole)) (λ ratio. ok-of_file _))))))))))

-- nor do the parts of the full form
full-of_file : (at : Lookup) → IsOfFile (full_parts at)
full-of_file at =
    then-of_file (given at Degrees whole) _ (given-of_file at Degrees whole) (λ degrees.
    then-of_file (given at Slots slot_values) _ (given-of_file at Slots slot_values) (λ slots. limits-of_file at degrees slots))

-- nor those of the short form
short-of_file : (at : Lookup) → IsOfFile (short_parts at)
short-of_file at =
    then-of_file (optional 360 at Degrees whole) _ (optional-of_file 360 at Degrees whole) (λ degrees.
    then-of_file (given at Teeth (count_below 2049)) _ (given-of_file at Teeth (count_below 2049)) (λ teeth.
    then-of_file (given at Missing (whole_below teeth)) _ (given-of_file at Missing (whole_below teeth)) (λ missing.
    then-of_file (optional (0, 0) at Cam1High (slots_high degrees teeth)) _ (optional-of_file (0, 0) at Cam1High (slots_high degrees teeth)) (λ high1.
    then-of_file (optional (0, 0) at Cam2High (slots_high degrees teeth)) _ (optional-of_file (0, 0) at Cam2High (slots_high degrees teeth)) (λ high2.
    limits-of_file at degrees _)))))

-- nor does a missing key
unless-of_file : (o : Option Key) (parts : Result WheelParts PatternFault) → IsOfFile parts → IsOfFile (unless_missing o parts)
unfolding IsOfFile
unless-of_file None parts h = h
unless-of_file (Some key) parts h = tt

-- a document's fault that the bytes give is the file's
fault-of_file : (f : PatternFault) → IsOfFile {T = WheelParts} (Err f) → (bytes : List ℕ) → Gives bytes (Err f) → HasFault bytes f
unfolding IsOfFile
fault-of_file NotToml h bytes g = g
fault-of_file UnknownKey h bytes g = g
fault-of_file BothForms h bytes g = g
fault-of_file (MissingKey key) h bytes g = g
fault-of_file (BadValue key) h bytes g = g
fault-of_file (fault.Wheel f) h bytes g = absurd h
fault-of_file fault.Memory h bytes g = absurd h

-- both forms are the document's fault
both-of_file : IsOfFile {T = WheelParts} (Err BothForms)
unfolding IsOfFile
both-of_file = tt

-- so is an unknown key
unknown-of_file : IsOfFile {T = WheelParts} (Err UnknownKey)
unfolding IsOfFile
unknown-of_file = tt

-- and that there is no document
no_toml-of_file : IsOfFile {T = WheelParts} (Err NotToml)
unfolding IsOfFile
no_toml-of_file = tt

-- the parts at known keys give no fault of another kind
at-of_file : (at : Lookup) → IsOfFile (parts_at at)
at-of_file at = either-of_file _ (Err BothForms) _ both-of_file
    (unless-of_file (find (λ key. is_none (at key)) (required_keys (is_short at))) _
    (either-of_file (is_short at) (short_parts at) (full_parts at) (short-of_file at) (full-of_file at)))

-- nor do the parts of members
parts-of_file : (ms : Members) → IsOfFile (parts_of ms)
parts-of_file ms = either-of_file (has_only all_keys ms) (parts_at (values_of ms)) (Err UnknownKey) (at-of_file (values_of ms)) unknown-of_file

-- nor does what the bytes give
given_fault-of_file : (bytes : List ℕ) (r : Result WheelParts PatternFault) → Gives bytes r → IsOfFile r
given_fault-of_file bytes r (inl none) = rw none.1 no_toml-of_file
given_fault-of_file bytes r (inr document) = rw document.2 (parts-of_file document.0)

-- the fault that the bytes give is the file's
pub given_fault : (bytes : List ℕ) (f : PatternFault) → Gives bytes (Err f) → HasFault bytes f
given_fault bytes f g = fault-of_file f (given_fault-of_file bytes (Err f) g) bytes g
