-- What a verdict says, and the instants since the last reset.
use Rattle.std.specs.Prelude.{◌≡◌, ◌≢◌, ℕ, List, [], ◌∷◌, ⊤}
use Rattle.wheel_types.specs.declared.parts.WheelParts.{WheelParts}
use Rattle.wheel_types.specs.declared.place.Place.{Place}
use Rattle.wheel_types.specs.declared.instant.Instant.{Instant}
use Rattle.wheel_types.specs.declared.verdict.Verdict.{Verdict}
use Rattle.wheel_types.specs.declared.verdict.Verdict.TheVariants.{At, Open, Lost}
use Rattle.wheel_types.specs.Verdicts.{EndsAt, IsNextWindow}

-- it says that the engine is at position p
abbrev pub SaysAt : ℕ → Verdict → Type 0
SaysAt p (At j slot) = j ≡ p
SaysAt p (Open a b) = ⊥
SaysAt p Lost = ⊥

-- it says that the position is open
abbrev pub SaysOpen : Verdict → Type 0
SaysOpen (At j slot) = ⊥
SaysOpen (Open a b) = ⊤
SaysOpen Lost = ⊥

-- it says that the engine is lost
abbrev pub SaysLost : Verdict → Type 0
SaysLost (At j slot) = ⊥
SaysLost (Open a b) = ⊥
SaysLost Lost = ⊤

-- all permitted motions that give the instants end at position p
abbrev pub AllEndAt : WheelParts → List Instant → ℕ → Type 0
AllEndAt w is p = (q : Place) → EndsAt w is q → q.j ≡ p

-- two permitted motions that give the instants end at different positions
abbrev pub TwoEndApart : WheelParts → List Instant → Type 0
TwoEndApart w is = (p : Place) × ((q : Place) × (EndsAt w is p × (EndsAt w is q × (p.j ≢ q.j))))

-- each of the one list with its fellow of the other
abbrev pub Each : {X Y : Type 0} → (X → Y → Type 0) → List X → List Y → Type 0
Each P [] [] = ⊤
Each P (x ∷ xs) (y ∷ ys) = P x y × Each P xs ys
Each P [] (y ∷ ys) = ⊥
Each P (x ∷ xs) [] = ⊥

-- the instants since the last reset at each instant, it among them; and those before the next one
abbrev pub SinceReset : WheelParts → List Instant → List Verdict → List (List Instant) → List Instant → Type 0
SinceReset w [] [] [] next = next ≡ []
SinceReset w (i ∷ past) (v ∷ vs) (since ∷ more) next = (before : List Instant) × ((since ≡ i ∷ before) × (SinceReset w past vs more before × IsNextWindow w i before v next))
SinceReset w [] [] (since ∷ more) next = ⊥
SinceReset w [] (v ∷ vs) more next = ⊥
SinceReset w (i ∷ past) [] more next = ⊥
SinceReset w (i ∷ past) (v ∷ vs) [] next = ⊥
