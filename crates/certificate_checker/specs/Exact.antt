-- The exact certificate. Lists of instants, verdicts and lines have the last one first.
use Rattle.std.specs.Prelude.{◌≡◌, ℕ, ◌+◌, List, [], ◌∷◌, length, ⊤}
use Rattle.wheel_types.specs.declared.place.Place.{Place}
use Rattle.wheel_types.specs.declared.instant.Instant.{Instant}
use Rattle.wheel_types.specs.declared.parts.WheelParts.{WheelParts}
use Rattle.wheel_types.specs.declared.verdict.Verdict.{Verdict}
use Rattle.wheel_types.specs.declared.verdict.Verdict.TheVariants.{At, Open, Lost}
use Rattle.wheel_types.specs.Verdicts.{EndsAt, IsLeast, Leads, IsVerdict, IsNextWindow}
use Rattle.plain_motion.specs.EndPlaces.{AreEndsOf}
use Rattle.pair_certificate.specs.declared.line.CertKind.{CertKind}
use Rattle.pair_certificate.specs.declared.line.CertKind.TheVariants as kind
use Rattle.pair_certificate.specs.declared.line.CertLine.{CertLine}

-- the line names the start of the motions that end at the least place, and where the verdict is open the verdict's two places
abbrev pub HasExactKind : WheelParts → List Instant → Verdict → CertKind → Type 0
HasExactKind w since (At j slot) (kind.At a) = (e : Place) × (IsLeast (EndsAt w since) e × Leads w since a e)
HasExactKind w since (Open x y) (kind.Open a b) = (a ≡ x) × (b ≡ y)
HasExactKind w since Lost kind.Lost = ⊤
HasExactKind w since (At j slot) (kind.Open a b) = ⊥
HasExactKind w since (At j slot) kind.Lost = ⊥
HasExactKind w since (Open x y) (kind.At a) = ⊥
HasExactKind w since (Open x y) kind.Lost = ⊥
HasExactKind w since Lost (kind.At a) = ⊥
HasExactKind w since Lost (kind.Open a b) = ⊥

-- the line of the instant of this index, with this verdict of the window's instants since its last reset. The cover is that of the
-- window that the next instant comes into
pub record IsExactLine (w : WheelParts) (number : ℕ) (since : List Instant) (v : Verdict) (next : List Instant) (c : CertLine)
    : Type 0 where
  pub index : c.index ≡ number
  pub kind : HasExactKind w since v c.kind
  pub cover : AreEndsOf w next c.cover

-- the verdicts of the instants, the lines of their exact certificate, and the instants of the window that the next one comes into
abbrev pub AreExactLines : WheelParts → List Instant → List Verdict → List CertLine → List Instant → Type 0
AreExactLines w [] [] [] window = window ≡ []
AreExactLines w (i ∷ past) (v ∷ vs) (c ∷ cs) window =
    (before : List Instant) × (AreExactLines w past vs cs before × (IsVerdict w (i ∷ before) v
    × (IsNextWindow w i before v window × IsExactLine w (length past + 1) (i ∷ before) v window c)))
AreExactLines w [] [] (c ∷ cs) window = ⊥
AreExactLines w [] (v ∷ vs) cs window = ⊥
AreExactLines w (i ∷ past) [] cs window = ⊥
AreExactLines w (i ∷ past) (v ∷ vs) [] window = ⊥
