-- The bytes of a file determine what it gives.
use Rattle.std.proofs.Common.{◌≡◌, ℕ, List, Some, unwrap_or, Result, Ok, Err, inl, inr, ap, sym, subst, ◌∙◌}
use Rattle.std.specs.Result.{result_ok}
use Rattle.toml.specs.Data.{Members}
use Rattle.wheel_types.specs.declared.parts.WheelParts.{WheelParts}
use Rattle.wheel_pattern.specs.declared.fault.PatternFault.{PatternFault}
use Rattle.wheel_types.specs.Wheels.{IsWheel}
use Rattle.wheel_types.proofs.FirstFault.{wheel_breaks_none}
use Rattle.wheel_pattern.specs.declared.fault.PatternFault.TheVariants as fault
use Rattle.wheel_pattern.specs.Lookups.{IsDocumentOf}
use Rattle.wheel_pattern.specs.WheelFile.{parts_of, Gives, MeansWheel, HasFault}

same_some : {T : Type 0} (x y : T) → Some x ≡ Some y → x ≡ y
same_some x y e = ap (λ o. unwrap_or o x) e

-- a result that is a value is that value
pub ok_is : {T E : Type 0} (r : Result T E) (x : T) → result_ok r ≡ Some x → r ≡ Ok x
ok_is (Ok y) x e = ap Ok (same_some y x e)
ok_is (Err f) x e = absurd (cc)

pub one_document : {bytes : List ℕ} (ms ns : Members) → IsDocumentOf bytes ms → IsDocumentOf bytes ns → ms ≡ ns
one_document ms ns a b = same_some ms ns (sym a.1 ∙ b.1)

pub gives_one : (bytes : List ℕ) (r q : Result WheelParts PatternFault) → Gives bytes r → Gives bytes q → r ≡ q
gives_one bytes r q (inl left) (inl right) = left.1 ∙ sym right.1
gives_one bytes r q (inl left) (inr right) = absurd (left.0 (right.0, right.1))
gives_one bytes r q (inr right) (inl left) = absurd (left.0 (right.0, right.1))
gives_one bytes r q (inr a) (inr b) = a.2 ∙ ap parts_of (one_document a.0 b.0 a.1 b.1) ∙ sym b.2

-- a file is a wheel file of one list of parts
pub one_wheel : (bytes : List ℕ) (p q : WheelParts) → MeansWheel bytes p → MeansWheel bytes q → p ≡ q
one_wheel bytes p q a b = same_some p q (ap result_ok (gives_one bytes (Ok p) (Ok q) a.given b.given))

ok_not_err : (w : WheelParts) (f : PatternFault) (bytes : List ℕ) → Gives bytes (Ok w) → Gives bytes (Err f) → ⊥
ok_not_err w f bytes a b = let e : Ok w ≡ Err f = gives_one bytes (Ok w) (Err f) a b in cc

-- a wheel file has no fault
pub not_both : (bytes : List ℕ) (w : WheelParts) (f : PatternFault) → MeansWheel bytes w → HasFault bytes f → ⊥
not_both bytes w fault.NotToml a b = ok_not_err w fault.NotToml bytes a.given b
not_both bytes w fault.UnknownKey a b = ok_not_err w fault.UnknownKey bytes a.given b
not_both bytes w fault.BothForms a b = ok_not_err w fault.BothForms bytes a.given b
not_both bytes w (fault.MissingKey key) a b = ok_not_err w (fault.MissingKey key) bytes a.given b
not_both bytes w (fault.BadValue key) a b = ok_not_err w (fault.BadValue key) bytes a.given b
not_both bytes w (fault.Wheel f) a (parts, (given, breaks)) =
    wheel_breaks_none parts f breaks (subst IsWheel (let e : Ok w ≡ Ok parts = gives_one bytes (Ok w) (Ok parts) a.given given in cc) a.wheel)
not_both bytes w fault.Memory a b = b
