-- A key is told exactly where it is the first that is missing, or the first whose value is bad.
use Rattle.std.proofs.Common.{◌≡◌, ℕ, true, false, ◌&&◌, List, Option, Some, None, Ok, Err, inl, inr, refl, ap, sym, ◌∙◌, subst}
use Rattle.std.specs.Prelude.{if◌then◌else◌, is_some}
use Rattle.std.proofs.lemmas.Bool.{cases_Bool}
use Rattle.toml.specs.Data.{Members}
use Rattle.wheel_types.specs.declared.parts.WheelParts.{WheelParts}
use Rattle.wheel_pattern.specs.declared.keys.Key.{Key}
use Rattle.wheel_pattern.specs.declared.keys.Key.TheVariants.{Slots}
use Rattle.wheel_pattern.specs.declared.fault.PatternFault.TheVariants.{UnknownKey, BothForms, MissingKey, BadValue}
use Rattle.wheel_pattern.specs.Keys.{all_keys, has_only}
use Rattle.wheel_pattern.specs.Lookups.{Lookup, IsDocumentOf, values_of, is_short}
use Rattle.wheel_pattern.specs.WheelFile.{full_parts, short_parts, unless_missing, parts_at, parts_of, Gives}
use Rattle.wheel_pattern.specs.FirstFaults.{first_missing, first_bad, LacksFirst, IsBadFirst, FirstKeysAreTold}
use Rattle.wheel_pattern.proofs.FirstKeys.{Tells, parts-follow}

-- the keys are known and those of one form
record AreOfOneForm (ms : Members) : Type 0 where
  known : has_only all_keys ms ≡ true
  one : (is_short (values_of ms) && is_some (values_of ms Slots)) ≡ false

-- what the members of a document give, and why
data Cause (ms : Members) : Type 0 where
  unknown : parts_of ms ≡ Err UnknownKey → Cause ms
  both : parts_of ms ≡ Err BothForms → Cause ms
  lacks : AreOfOneForm ms → (key : Key) → first_missing (values_of ms) ≡ Some key → parts_of ms ≡ Err (MissingKey key) → Cause ms
  bad : AreOfOneForm ms → first_missing (values_of ms) ≡ None → (key : Key) → first_bad (values_of ms) ≡ Some key → parts_of ms ≡ Err (BadValue key) → Cause ms
  good : (w : WheelParts) → parts_of ms ≡ Ok w → Cause ms

-- the parts of known keys are told by what stands at them
known-parts : (ms : Members) → has_only all_keys ms ≡ true → parts_of ms ≡ parts_at (values_of ms)
known-parts ms known = ap (λ known. if known then parts_at (values_of ms) else Err UnknownKey) known

-- those of keys of one form, too, unless one is missing
form-parts : (at : Lookup) (missing : Option Key) → (is_short at && is_some (at Slots)) ≡ false → first_missing at ≡ missing
    → parts_at at ≡ unless_missing missing (if is_short at then short_parts at else full_parts at)
form-parts at missing one is =
    ap (λ both. if both then Err BothForms else unless_missing (first_missing at) (if is_short at then short_parts at else full_parts at)) one
    ∙ ap (λ missing. unless_missing missing (if is_short at then short_parts at else full_parts at)) is

-- nothing is missing, and this is the first bad key
cause-bad : (ms : Members) (o : Option Key) → AreOfOneForm ms → first_missing (values_of ms) ≡ None → first_bad (values_of ms) ≡ o → Tells o (parts_at (values_of ms)) → Cause ms
cause-bad ms (Some key) form none is told = bad form none key is (known-parts ms form.known ∙ told)
cause-bad ms None form none is told = good told.0 (known-parts ms form.known ∙ told.1)

-- the keys are of one form, and this is the first missing one
cause-missing : (ms : Members) (o : Option Key) → AreOfOneForm ms → first_missing (values_of ms) ≡ o → Cause ms
cause-missing ms (Some key) form is = lacks form key is (known-parts ms form.known ∙ form-parts (values_of ms) (Some key) form.one is)
cause-missing ms None form is = cause-bad ms (first_bad (values_of ms)) form is refl (parts-follow (values_of ms) form.one is)

cause : (ms : Members) → Cause ms
cause ms = elim (cases_Bool (has_only all_keys ms)) [
  | inr strange ↦ unknown (ap (λ known. if known then parts_at (values_of ms) else Err UnknownKey) strange)
  | inl known ↦ elim (cases_Bool (is_short (values_of ms) && is_some (values_of ms Slots))) [
    | inl two ↦ both (known-parts ms known ∙ ap (λ both. if both then Err BothForms else unless_missing (first_missing (values_of ms)) (if is_short (values_of ms) then short_parts (values_of ms) else full_parts (values_of ms))) two)
    | inr one ↦ cause-missing ms (first_missing (values_of ms)) (record { known = known; one = one }) refl
  ]
]

-- the document of which a missing key is told lacks it first
lacks-it : (bytes : List ℕ) (key : Key) (ms : Members) → IsDocumentOf bytes ms → Err (MissingKey key) ≡ parts_of ms → Cause ms → LacksFirst bytes key ms
lacks-it bytes key ms document told (unknown is) = absurd (let e = told ∙ is in cc)
lacks-it bytes key ms document told (both is) = absurd (let e = told ∙ is in cc)
lacks-it bytes key ms document told (lacks form other first is) = record {
  form = record { document = document; known = form.known; one = form.one };
  first = let e = told ∙ is in cc;
}
lacks-it bytes key ms document told (bad form none other first is) = absurd (let e = told ∙ is in cc)
lacks-it bytes key ms document told (good w is) = absurd (let e = told ∙ is in cc)

missing-told : (bytes : List ℕ) (key : Key) → Gives bytes (Err (MissingKey key)) → (ms : Members) × LacksFirst bytes key ms
missing-told bytes key (inl none) = absurd (let e = none.1 in cc)
missing-told bytes key (inr given) = (given.0, lacks-it bytes key given.0 given.1 given.2 (cause given.0))

told-missing : (bytes : List ℕ) (key : Key) → ((ms : Members) × LacksFirst bytes key ms) → Gives bytes (Err (MissingKey key))
told-missing bytes key (ms, h) = inr (ms, h.form.document, sym (known-parts ms h.form.known ∙ form-parts (values_of ms) (Some key) h.form.one h.first))

-- the document of which a bad value is told has it first
is-bad : (bytes : List ℕ) (key : Key) (ms : Members) → IsDocumentOf bytes ms → Err (BadValue key) ≡ parts_of ms → Cause ms → IsBadFirst bytes key ms
is-bad bytes key ms document told (unknown is) = absurd (let e = told ∙ is in cc)
is-bad bytes key ms document told (both is) = absurd (let e = told ∙ is in cc)
is-bad bytes key ms document told (lacks form other first is) = absurd (let e = told ∙ is in cc)
is-bad bytes key ms document told (bad form none other first is) = record {
  form = record { document = document; known = form.known; one = form.one };
  none_missing = none;
  first = let e = told ∙ is in cc;
}
is-bad bytes key ms document told (good w is) = absurd (let e = told ∙ is in cc)

bad-told : (bytes : List ℕ) (key : Key) → Gives bytes (Err (BadValue key)) → (ms : Members) × IsBadFirst bytes key ms
bad-told bytes key (inl none) = absurd (let e = none.1 in cc)
bad-told bytes key (inr given) = (given.0, is-bad bytes key given.0 given.1 given.2 (cause given.0))

told-bad : (bytes : List ℕ) (key : Key) → ((ms : Members) × IsBadFirst bytes key ms) → Gives bytes (Err (BadValue key))
told-bad bytes key (ms, h) = inr (
  ms,
  h.form.document,
  sym (known-parts ms h.form.known
      ∙ subst (λ o. Tells o (parts_at (values_of ms))) h.first (parts-follow (values_of ms) h.form.one h.none_missing)),
)

-- a missing key and a bad value are told of the first key
pub first_keys-told : FirstKeysAreTold
first_keys-told = record {
  missing = λ bytes key. (missing-told bytes key, told-missing bytes key);
  bad = λ bytes key. (bad-told bytes key, told-bad bytes key);
}
