-- Laws of verdicts, start places and end places.
use Rattle.std.specs.Prelude.{◌≡◌, ◌<◌, List, ◌∷◌, reverse, ◌↔◌}
use Rattle.wheel_types.specs.declared.channel.Channel.TheVariants.{Crank}
use Rattle.wheel_types.specs.declared.place.Place.{Place}
use Rattle.wheel_types.specs.declared.instant.Instant.{Instant}
use Rattle.wheel_types.specs.declared.verdict.Verdict.{Verdict}
use Rattle.wheel_types.specs.declared.verdict.Verdict.TheVariants.{At, Open, Lost}
use Rattle.wheel_types.specs.declared.parts.WheelParts.{WheelParts}
use Rattle.wheel_types.specs.Wheels.{IsWheel}
use Rattle.wheel_types.specs.Edges.{edge_count}
use Rattle.wheel_types.specs.Verdicts.{EndsAt, Leads, IsVerdict, AreVerdicts, AllEarlier, IsRising}
use Rattle.wheel_types.specs.Steps.{IsLegalStep}
use Rattle.wheel_types.specs.Starts.{start_of}

-- two verdicts of the same instants are of one kind, and at one position
abbrev pub SameKind : Verdict → Verdict → Type 0
SameKind (At j slot) (At k other) = (j ≡ k) × (slot ≡ other)
SameKind (Open a b) (Open c d) = Unit {0}
SameKind Lost Lost = Unit {0}
SameKind (At j slot) (Open a b) = ⊥
SameKind (At j slot) Lost = ⊥
SameKind (Open a b) (At j slot) = ⊥
SameKind (Open a b) Lost = ⊥
SameKind Lost (At j slot) = ⊥
SameKind Lost (Open a b) = ⊥

-- two verdicts of the same instants are of one kind
abbrev pub OneKind : Type 0
OneKind = (w : WheelParts) (past : List Instant) (v u : Verdict) → IsVerdict w past v → IsVerdict w past u → SameKind v u

-- the instants determine the window that the next one comes into
abbrev pub OneWindow : Type 0
OneWindow =
    (w : WheelParts) (past : List Instant) (vs us : List Verdict) (g h : List Instant)
    → AreVerdicts w past vs g → AreVerdicts w past us h → g ≡ h

-- after one more instant, motions end exactly at the legal steps of the places where they ended before
abbrev pub EndsAreSteps : Type 0
EndsAreSteps =
    (w : WheelParts) (i : Instant) (past : List Instant) (q : Place) → 0 < edge_count w Crank → AllEarlier i.time past
    → EndsAt w (i ∷ past) q ↔ ((p : Place) × (EndsAt w past p × IsLegalStep w past p i q))

-- given instants have one verdict
abbrev pub OneVerdict : Type 0
OneVerdict =
    (w : WheelParts) (past : List Instant) (v u : Verdict) → 0 < edge_count w Crank → IsVerdict w past v → IsVerdict w past u → v ≡ u

-- given instants have one list of verdicts, and lead to one window
abbrev pub VerdictsAreOne : Type 0
VerdictsAreOne =
    (w : WheelParts) (past : List Instant) (vs us : List Verdict) (g h : List Instant) → 0 < edge_count w Crank
    → AreVerdicts w past vs g → AreVerdicts w past us h → (vs ≡ us) × (g ≡ h)

-- over given instants the start place of a motion and its end place determine each other, and the start is the end place taken
-- back
abbrev pub StartAndEnd : Type 0
StartAndEnd =
    (w : WheelParts) (past : List Instant) → 0 < edge_count w Crank
    → ((a b e : Place) → Leads w past a e → Leads w past b e → a ≡ b)
    × ((a e f : Place) → Leads w past a e → Leads w past a f → e ≡ f)
    × ((a e : Place) → Leads w past a e → a ≡ start_of w past e)

-- on every wheel, instants whose times rise have verdicts
abbrev pub VerdictsExist : Type 0
VerdictsExist =
    (w : WheelParts) (is : List Instant) → IsWheel w → IsRising is
    → (vs : List Verdict) × ((window : List Instant) × AreVerdicts w (reverse is) vs window)
