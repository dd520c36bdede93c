-- The parts of a file follow its first bad key: they are told exactly where no value is bad, else that key's fault.
use Rattle.std.proofs.Common.{◌≡◌, ℕ, Bool, true, false, not, ◌&&◌, ◌||◌, List, [], ◌∷◌, Option, Some, None, Result, Ok, Err, ok_or, unwrap_or, refl, ap, sym, subst}
use Rattle.std.specs.Prelude.{if◌then◌else◌, option_and_then, is_some, is_none, find}
use Rattle.std.proofs.lemmas.Bool.{or_parts, false≢true}
use Rattle.toml.specs.Data.{Data}
use Rattle.wheel_types.specs.declared.channel.Keep.TheVariants.{Rising}
use Rattle.wheel_pattern.specs.declared.keys.Key.{Key}
use Rattle.wheel_pattern.specs.declared.keys.Key.TheVariants.{Degrees, Slots, Teeth, Missing, Cam1High, Cam2High, Crank, Cam1, Cam2, Cam1Early, Cam1Late, Cam2Early, Cam2Late, RpmLow, RpmHigh, Ratio}
use Rattle.wheel_pattern.specs.declared.fault.PatternFault.{PatternFault}
use Rattle.wheel_pattern.specs.declared.fault.PatternFault.TheVariants.{BothForms, BadValue}
use Rattle.wheel_pattern.specs.Keys.{all_keys, required_keys}
use Rattle.wheel_pattern.specs.Lookups.{Lookup, is_short, ◌>>=◌, given, optional}
use Rattle.wheel_pattern.specs.ToothPattern.{slots_high}
use Rattle.wheel_pattern.specs.Values.{whole, whole_below, count_below, slot_values, pair_of, keep_in}
use Rattle.wheel_pattern.specs.WheelFile.{with_limits, full_parts, short_parts, unless_missing, parts_at}
use Rattle.wheel_pattern.specs.FirstFaults.{degrees_in, teeth_in, stands_wrong, is_bad, first_missing, first_bad}

-- a result is this key's fault, or a value where there is no such key
abbrev pub Tells : {T : Type 0} → Option Key → Result T PatternFault → Type 0
Tells (Some key) r = r ≡ Err (BadValue key)
Tells {T} None r = (t : T) × (r ≡ Ok t)

-- a result is the fault of the first of these keys that fails, or a value where none does
Follows : {T : Type 0} → (Key → Bool) → List Key → Result T PatternFault → Type 0
Follows p keys r = Tells (find p keys) r

-- a result is the key's fault where its value is bad, and else a value
abbrev Reads : {T : Type 0} → Bool → Key → Result T PatternFault → Type 0
Reads true key r = r ≡ Err (BadValue key)
Reads {T} false key r = (t : T) × (r ≡ Ok t)

-- the value that is read decides, then the keys that follow
tested : {T U : Type 0} (p : Key → Bool) (key : Key) (keys : List Key) (r : Result T PatternFault) (next : T → Result U PatternFault) (b : Bool)
    → Reads b key r → ((t : T) → r ≡ Ok t → Follows p keys (next t)) → Tells (if b then Some key else find p keys) (r >>= next)
unfolding Follows
tested p key keys r next true is more = rw is refl
tested p key keys r next false is more = subst (λ x. Tells (find p keys) (x >>= next)) (sym is.1) (more is.0 is.1)

-- so it is for a key in front of others
in_front : {T U : Type 0} (p : Key → Bool) (key : Key) (keys : List Key) (r : Result T PatternFault) (next : T → Result U PatternFault)
    → Reads (p key) key r → ((t : T) → r ≡ Ok t → Follows p keys (next t)) → Follows p (key ∷ keys) (r >>= next)
unfolding Follows
in_front p key keys r next = tested p key keys r next (p key)

-- a key whose value is not bad is passed
passed : {T : Type 0} (p : Key → Bool) (key : Key) (keys : List Key) (r : Result T PatternFault) → p key ≡ false → Follows p keys r → Follows p (key ∷ keys) r
unfolding Follows
passed p key keys r good more = subst (λ b. Tells (if b then Some key else find p keys) r) (sym good) more

-- a value that stands is read, or is bad
value_reads : {T : Type 0} (key : Key) (o : Option T) → Reads (not (is_some o)) key (ok_or o (BadValue key))
value_reads key None = refl
value_reads key (Some t) = (t, refl)

-- a value that may be left out is read, or is bad
may_reads : {T : Type 0} (usual : T) (key : Key) (read : Data → Option T) (o : Option Data)
    → Reads (stands_wrong (λ d. is_some (read d)) o) key (if is_none o then Ok usual else ok_or (option_and_then read o) (BadValue key))
may_reads usual key read None = (usual, refl)
may_reads usual key read (Some d) = value_reads key (read d)

optional_reads : {T : Type 0} (usual : T) (at : Lookup) (key : Key) (read : Data → Option T)
    → Reads (stands_wrong (λ d. is_some (read d)) (at key)) key (optional usual at key read)
optional_reads usual at key read = may_reads usual key read (at key)

-- so is one that must stand and does
must_reads : {T : Type 0} (key : Key) (read : Data → Option T) (o : Option Data) → is_none o ≡ false
    → Reads (stands_wrong (λ d. is_some (read d)) o) key (ok_or (option_and_then read o) (BadValue key))
must_reads key read None stands = absurd (false≢true (sym stands))
must_reads key read (Some d) stands = value_reads key (read d)

given_reads : {T : Type 0} (at : Lookup) (key : Key) (read : Data → Option T) → is_none (at key) ≡ false
    → Reads (stands_wrong (λ d. is_some (read d)) (at key)) key (given at key read)
given_reads at key read stands = must_reads key read (at key) stands

-- nothing that is bad stands at a key that is left out
absent : (right : Data → Bool) (o : Option Data) → is_none o ≡ true → stands_wrong right o ≡ false
absent right None none = refl
absent right (Some d) none = absurd (false≢true none)

not_some : {T : Type 0} (o : Option T) → is_some o ≡ false → is_none o ≡ true
not_some None h = refl
not_some (Some t) h = absurd (false≢true (sym h))

-- the value that was read is the one that is spoken of
value_is : {T : Type 0} (usual t : T) (o : Option T) (fault : PatternFault) → ok_or o fault ≡ Ok t → unwrap_or o usual ≡ t
value_is usual t None fault is = absurd (cc)
value_is usual t (Some x) fault is = ap (λ r. elim r [ Ok y ↦ y | Err e ↦ usual ]) is

value_or_is : {T : Type 0} (usual t : T) (read : Data → Option T) (o : Option Data) (fault : PatternFault)
    → (if is_none o then Ok usual else ok_or (option_and_then read o) fault) ≡ Ok t → unwrap_or (option_and_then read o) usual ≡ t
value_or_is usual t read None fault is = ap (λ r. elim r [ Ok y ↦ y | Err e ↦ usual ]) is
value_or_is usual t read (Some d) fault is = value_is usual t (read d) fault is

-- the keys that stand where none is missing
record Stand (at : Lookup) (a b : Key) : Type 0 where
  first : is_none (at a) ≡ false
  second : is_none (at b) ≡ false
  low : is_none (at RpmLow) ≡ false
  high : is_none (at RpmHigh) ≡ false
  ratio : is_none (at Ratio) ≡ false

-- where the first that passes is none, the first does not pass, nor does one after it
none_first : (b : Bool) (key : Key) (o : Option Key) → (if b then Some key else o) ≡ None → (b ≡ false) × (o ≡ None)
none_first true key o h = absurd (cc)
none_first false key o h = (refl, h)

all_stand : (at : Lookup) (a b : Key) → find (λ key. is_none (at key)) (a ∷ b ∷ RpmLow ∷ RpmHigh ∷ Ratio ∷ []) ≡ None → Stand at a b
all_stand at a b h =
    let first = none_first (is_none (at a)) a _ h in
    let second = none_first (is_none (at b)) b _ first.1 in
    let low = none_first (is_none (at RpmLow)) RpmLow _ second.1 in
    let high = none_first (is_none (at RpmHigh)) RpmHigh _ low.1 in
    let ratio = none_first (is_none (at Ratio)) Ratio _ high.1 in
    record { first = first.0; second = second.0; low = low.0; high = high.0; ratio = ratio.0 }

-- a value follows no bad key
value-follows : {T : Type 0} (p : Key → Bool) (t : T) → Follows p [] (Ok t)
unfolding Follows
value-follows p t = (t, refl)

-- the keys of the limits
abbrev limit_keys : List Key
limit_keys = Crank ∷ Cam1 ∷ Cam2 ∷ Cam1Early ∷ Cam1Late ∷ Cam2Early ∷ Cam2Late ∷ RpmLow ∷ RpmHigh ∷ Ratio ∷ []

limits_follow : (at : Lookup) (a b : Key) (degrees : ℕ) (slots : List ℕ) → Stand at a b → Follows (is_bad at) limit_keys (with_limits at degrees slots)
limits_follow at a b degrees slots stand =
    in_front (is_bad at) Crank _ (optional Rising at Crank keep_in) _ (optional_reads Rising at Crank keep_in) (λ crank is.
    in_front (is_bad at) Cam1 _ (optional Rising at Cam1 keep_in) _ (optional_reads Rising at Cam1 keep_in) (λ cam1 is.
    in_front (is_bad at) Cam2 _ (optional Rising at Cam2 keep_in) _ (optional_reads Rising at Cam2 keep_in) (λ cam2 is.
    in_front (is_bad at) Cam1Early _ (optional 0 at Cam1Early whole) _ (optional_reads 0 at Cam1Early whole) (λ cam1_early is.
    in_front (is_bad at) Cam1Late _ (optional 0 at Cam1Late whole) _ (optional_reads 0 at Cam1Late whole) (λ cam1_late is.
    in_front (is_bad at) Cam2Early _ (optional 0 at Cam2Early whole) _ (optional_reads 0 at Cam2Early whole) (λ cam2_early is.
    in_front (is_bad at) Cam2Late _ (optional 0 at Cam2Late whole) _ (optional_reads 0 at Cam2Late whole) (λ cam2_late is.
    in_front (is_bad at) RpmLow _ (given at RpmLow whole) _ (given_reads at RpmLow whole stand.low) (λ rpm_low is.
    in_front (is_bad at) RpmHigh _ (given at RpmHigh whole) _ (given_reads at RpmHigh whole stand.high) (λ rpm_high is.
    in_front (is_bad at) Ratio _ (given at Ratio (pair_of whole whole)) _ (given_reads at Ratio (pair_of whole whole) stand.ratio) (λ ratio is. value-follows (is_bad at) _))))))))))

-- the keys of a tooth pattern are left out
record AreLeftOut (at : Lookup) : Type 0 where
  teeth : is_some (at Teeth) ≡ false
  missing : is_some (at Missing) ≡ false
  high1 : is_some (at Cam1High) ≡ false
  high2 : is_some (at Cam2High) ≡ false

left_out : (at : Lookup) → is_short at ≡ false → AreLeftOut at
left_out at h =
    let halves = or_parts (is_some (at Teeth) || is_some (at Missing)) (is_some (at Cam1High) || is_some (at Cam2High)) h in
    let low = or_parts (is_some (at Teeth)) (is_some (at Missing)) halves.0 in
    let high = or_parts (is_some (at Cam1High)) (is_some (at Cam2High)) halves.1 in
    record { teeth = low.0; missing = low.1; high1 = high.0; high2 = high.1 }

-- the parts of the full form
full_follow : (at : Lookup) → is_short at ≡ false → Stand at Degrees Slots → Follows (is_bad at) all_keys (full_parts at)
full_follow at long stand =
    let out = left_out at long in
    in_front (is_bad at) Degrees _ (given at Degrees whole) _ (given_reads at Degrees whole stand.first) (λ degrees is.
    in_front (is_bad at) Slots _ (given at Slots slot_values) _ (given_reads at Slots slot_values stand.second) (λ slots is.
    passed (is_bad at) Teeth _ _ (absent _ (at Teeth) (not_some (at Teeth) out.teeth))
    (passed (is_bad at) Missing _ _ (absent _ (at Missing) (not_some (at Missing) out.missing))
    (passed (is_bad at) Cam1High _ _ (absent _ (at Cam1High) (not_some (at Cam1High) out.high1))
    (passed (is_bad at) Cam2High _ _ (absent _ (at Cam2High) (not_some (at Cam2High) out.high2))
    (limits_follow at Degrees Slots degrees slots stand))))))

-- the number of missing teeth is read beside the number of teeth
missing_reads : (at : Lookup) (teeth : ℕ) → teeth_in at ≡ teeth → is_none (at Missing) ≡ false → Reads (is_bad at Missing) Missing (given at Missing (whole_below teeth))
missing_reads at teeth is stands = subst (λ n. Reads (is_bad at Missing) Missing (given at Missing (whole_below n))) is (given_reads at Missing (whole_below (teeth_in at)) stands)

-- where a cam is high is read beside the degrees and the number of teeth
high1_reads : (at : Lookup) (degrees teeth : ℕ) → degrees_in at ≡ degrees → teeth_in at ≡ teeth → Reads (is_bad at Cam1High) Cam1High (optional (0, 0) at Cam1High (slots_high degrees teeth))
high1_reads at degrees teeth d t = subst (λ n. Reads (is_bad at Cam1High) Cam1High (optional (0, 0) at Cam1High (slots_high n teeth))) d
    (subst (λ n. Reads (is_bad at Cam1High) Cam1High (optional (0, 0) at Cam1High (slots_high (degrees_in at) n))) t
    (optional_reads (0, 0) at Cam1High (slots_high (degrees_in at) (teeth_in at))))

high2_reads : (at : Lookup) (degrees teeth : ℕ) → degrees_in at ≡ degrees → teeth_in at ≡ teeth → Reads (is_bad at Cam2High) Cam2High (optional (0, 0) at Cam2High (slots_high degrees teeth))
high2_reads at degrees teeth d t = subst (λ n. Reads (is_bad at Cam2High) Cam2High (optional (0, 0) at Cam2High (slots_high n teeth))) d
    (subst (λ n. Reads (is_bad at Cam2High) Cam2High (optional (0, 0) at Cam2High (slots_high (degrees_in at) n))) t
    (optional_reads (0, 0) at Cam2High (slots_high (degrees_in at) (teeth_in at))))

-- the parts of the short form
short_follow : (at : Lookup) → is_some (at Slots) ≡ false → Stand at Teeth Missing → Follows (is_bad at) all_keys (short_parts at)
short_follow at no_slots stand =
    in_front (is_bad at) Degrees _ (optional 360 at Degrees whole) _ (optional_reads 360 at Degrees whole) (λ degrees degrees_are.
    passed (is_bad at) Slots _ _ (absent _ (at Slots) (not_some (at Slots) no_slots))
    (in_front (is_bad at) Teeth _ (given at Teeth (count_below 2049)) _ (given_reads at Teeth (count_below 2049) stand.first) (λ teeth teeth_are.
    let d : degrees_in at ≡ degrees = value_or_is 360 degrees whole (at Degrees) (BadValue Degrees) degrees_are in
    let t : teeth_in at ≡ teeth = value_is 0 teeth (option_and_then (count_below 2049) (at Teeth)) (BadValue Teeth) teeth_are in
    in_front (is_bad at) Missing _ (given at Missing (whole_below teeth)) _ (missing_reads at teeth t stand.second) (λ missing is.
    in_front (is_bad at) Cam1High _ (optional (0, 0) at Cam1High (slots_high degrees teeth)) _ (high1_reads at degrees teeth d t) (λ high1 is.
    in_front (is_bad at) Cam2High _ (optional (0, 0) at Cam2High (slots_high degrees teeth)) _ (high2_reads at degrees teeth d t) (λ high2 is.
    limits_follow at Teeth Missing degrees _ stand))))))

-- the parts at the keys of one form, where none is missing
either_follow : (at : Lookup) (short : Bool) → is_short at ≡ short → (short && is_some (at Slots)) ≡ false
    → find (λ key. is_none (at key)) (required_keys short) ≡ None → Follows (is_bad at) all_keys (if short then short_parts at else full_parts at)
either_follow at true is one none = short_follow at one (all_stand at Teeth Missing none)
either_follow at false is one none = full_follow at is (all_stand at Degrees Slots none)

-- the parts of a file in one form of which nothing is missing follow its first bad key
pub parts-follow : (at : Lookup) → (is_short at && is_some (at Slots)) ≡ false → first_missing at ≡ None → Tells (first_bad at) (parts_at at)
unfolding Follows
parts-follow at one none =
    subst (λ both. Tells (first_bad at) (if both then Err BothForms else unless_missing (first_missing at) (if is_short at then short_parts at else full_parts at))) (sym one)
    (subst (λ missing. Tells (first_bad at) (unless_missing missing (if is_short at then short_parts at else full_parts at))) (sym none)
    (either_follow at (is_short at) refl one none))
