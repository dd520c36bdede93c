-- Where an audit tells a difference the image is not sound.
use Rattle.std.proofs.Common.{◌≡◌, ◌≢◌, ℕ, List, length, Option, Some, None, true≢false, refl, sym, ap, ◌∙◌, arith}
use Rattle.wheel_types.specs.declared.place.Place.{Place}
use Rattle.cam_ranges.specs.Places.{HasTooMany}
use Rattle.cam_ranges.proofs.FewPlaces.{not_too_many}
use Rattle.image_layout.specs.Layout.{place_total}
use Rattle.image_layout.specs.Fields.{place_at, wheel_parts_of}
use Rattle.std.specs.Prelude.{Result, Ok, Err, OnOk, IfErr, IsNone}
use Rattle.position_nfa.specs.Alphabets.{Alphabet, IsAlphabetOf}
use Rattle.table_images.specs.Images.{IsSoundImage}
use Rattle.audit_faults.specs.declared.fault.AuditFault.{AuditFault}
use Rattle.audit_faults.specs.declared.fault.AuditFault.TheVariants as faults
use Rattle.image_audit.specs.Differences.{IsFirst}
use Rattle.image_audit.specs.Audits.{IsFirstOfWheel, IsAuditFault}
use Rattle.image_audit.proofs.Sizes.{length-listed}
use Rattle.image_audit.proofs.Faultless.{no_difference}
use Rattle.image_audit.proofs.OneSound.{sound_over}

module _ (b : List ℕ) (image : IsSoundImage b) where
  few_places : HasTooMany (wheel_parts_of b) → ⊥
  few_places many =
      let a : Alphabet = image.sound.0 in
      let is = image.sound.1.0 in
      let e : place_total b ≡ length a.places = sym (length-listed (place_at b) (place_total b)) ∙ ap (λ (l : List Place). length l) image.sound.1.1.places in
      let few = image.layout.header.counts.places.1 in
      not_too_many (wheel_parts_of b) a.places is.ascend (λ p h. (is.places p).1 h) (omega (arith, few, e)) many

  other : (f : AuditFault) → f ≢ faults.Memory → IsFirstOfWheel b f → ⊥
  other f ne (a, (is, first)) = no_difference a b image.layout (sound_over b a is image) f ne first

  pub not_sound : (f : AuditFault) → f ≢ faults.Memory → IsAuditFault b f → ⊥
  not_sound faults.TooManyPlaces ne h = few_places h
  not_sound (faults.Places at f d) ne h = other (faults.Places at f d) ne h
  not_sound (faults.TimeCut at f d) ne h = other (faults.TimeCut at f d) ne h
  not_sound (faults.RatioCut at f d) ne h = other (faults.RatioCut at f d) ne h
  not_sound (faults.Start word f d) ne h = other (faults.Start word f d) ne h
  not_sound (faults.Twice first state) ne h = other (faults.Twice first state) ne h
  not_sound (faults.Kind state f d) ne h = other (faults.Kind state f d) ne h
  not_sound (faults.Mismatch state letter f d) ne h = other (faults.Mismatch state letter f d) ne h
  not_sound (faults.Unreached state) ne h = other (faults.Unreached state) ne h
  not_sound faults.Memory ne h = ne refl

-- no fault is none
pub none_is : {X : Type 0} (o : Option X) → IsNone o → o ≡ None
none_is None h = refl
none_is (Some x) h = absurd (true≢false h)

-- what holds of a result, by its cases
pub on_ok : {X F : Type 0} (A B : Type 0) (r : Result X F) → (A → B) → OnOk r A → OnOk r B
on_ok A B (Ok x) f h = f h
on_ok A B (Err e) f h = h

pub if_err : {X F : Type 0} (P Q : F → Type 0) (r : Result X F) → ((e : F) → P e → Q e) → IfErr r P → IfErr r Q
if_err P Q (Ok x) f h = h
if_err P Q (Err e) f h = f e h

-- a first difference is what an audit tells
pub audit_first : (b : List ℕ) (a : Alphabet) → IsAlphabetOf (wheel_parts_of b) a → (f : AuditFault) → IsFirst a b f → IsAuditFault b f
audit_first b a is faults.TooManyPlaces h = absurd h
audit_first b a is (faults.Places at f d) h = (a, (is, h))
audit_first b a is (faults.TimeCut at f d) h = (a, (is, h))
audit_first b a is (faults.RatioCut at f d) h = (a, (is, h))
audit_first b a is (faults.Start word f d) h = (a, (is, h))
audit_first b a is (faults.Twice first state) h = (a, (is, h))
audit_first b a is (faults.Kind state f d) h = (a, (is, h))
audit_first b a is (faults.Mismatch state letter f d) h = (a, (is, h))
audit_first b a is (faults.Unreached state) h = (a, (is, h))
audit_first b a is faults.Memory h = h
