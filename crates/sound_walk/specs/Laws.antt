-- Laws of the walk over a sound image.
use Rattle.std.specs.Prelude.{◌≡◌, ◌↔◌, ℕ, ◌≤◌, List, ◌∷◌, reverse}
use Rattle.wheel_types.specs.declared.instant.Instant.{Instant}
use Rattle.wheel_types.specs.Motions.{KeepsSpeed}
use Rattle.wheel_types.specs.Starts.{start_of}
use Rattle.wheel_types.specs.Steps.{crank_times}
use Rattle.wheel_types.specs.Verdicts.{AreGiven, EndsAt, AreVerdicts, IsVerdict, IsNextWindow, IsRising}
use Rattle.wheel_types.specs.declared.parts.WheelParts.{WheelParts}
use Rattle.wheel_types.specs.declared.place.Place.{Place}
use Rattle.gap_thresholds.specs.Gaps.{IsGap}
use Rattle.image_layout.specs.Fields.{wheel_parts_of, crank_total}
use Rattle.image_layout.specs.Rules.{IsImage}
use Rattle.image_layout.specs.Tables.{IsPlace}
use Rattle.image_format.specs.Walk.{stand_after, letters, end_state, answer}
use Rattle.position_nfa.specs.Alphabets.{Alphabet}
use Rattle.table_images.specs.Images.{IsSoundImage, IsCompiled}
use Rattle.sound_walk.specs.Alphabet.{IsSoundOver, HasAlphabet, longest_gap, columns_of, IsWhole}
use Rattle.sound_walk.specs.Windows.{window_after, verdict_at, verdicts_of}
use Rattle.sound_walk.specs.Holding.{StandsIn, SaysEnds}

-- the image is verified, and known to be sound, and not over which alphabet
abbrev pub IsKnownSound : List ℕ → Type 0
IsKnownSound b = IsImage b × ∥ IsSoundImage b ∥₁

-- an image has the alphabet that it is sound over
abbrev pub ClassesAreTheWheels : Type 0
ClassesAreTheWheels =
    (b : List ℕ) (a : Alphabet) → IsSoundOver b a → HasAlphabet b a

-- in a time that is cut down no gap of the wheel keeps the limits of speed
abbrev pub LongGapsKeepNoLimit : Type 0
LongGapsKeepNoLimit =
    (b : List ℕ) (s t : ℕ) → IsSoundImage b → IsGap (wheel_parts_of b) s → KeepsSpeed (wheel_parts_of b) s t
    → t ≤ longest_gap

-- after the past, the letters of the instant i are the alphabet's, where the gap that it ends is not cut down
abbrev pub LettersAreTheWheels : Type 0
LettersAreTheWheels =
    (b : List ℕ) (a : Alphabet) (past : List Instant) (i : Instant) → IsSoundOver b a → IsRising (reverse (i ∷ past))
    → IsWhole i.time (crank_times (window_after b past))
    → letters b (stand_after b past) i ≡ columns_of a (window_after b past) i

-- after instants whose times rise the walk stands in its window
abbrev pub StatesHoldEnds : Type 0
StatesHoldEnds =
    (b : List ℕ) (is : List Instant) → IsSoundImage b → IsRising is
    → StandsIn b (stand_after b (reverse is)) (window_after b (reverse is))

-- after the past, the letters of the instant i lead to state 0 exactly where no motion gives the window's instants
abbrev pub StateZeroIsLost : Type 0
StateZeroIsLost =
    (b : List ℕ) (past : List Instant) (i : Instant) → IsSoundImage b → IsRising (reverse (i ∷ past))
    → (end_state b (stand_after b past) i ≡ 0) ↔ (¬ AreGiven (wheel_parts_of b) (i ∷ window_after b past))

-- and the walk's answer says where the motions end that give them
abbrev pub KindsSayEnds : Type 0
KindsSayEnds =
    (b : List ℕ) (past : List Instant) (i : Instant) → IsSoundImage b → IsRising (reverse (i ∷ past))
    → SaysEnds b (i ∷ window_after b past) (answer b (stand_after b past) i)

-- the same of an image that is known to be sound
abbrev pub KnownKindsSayEnds : Type 0
KnownKindsSayEnds =
    (b : List ℕ) (past : List Instant) (i : Instant) → IsKnownSound b → IsRising (reverse (i ∷ past))
    → SaysEnds b (i ∷ window_after b past) (answer b (stand_after b past) i)

-- in a verified image a place where motions end, taken back to where they began, is within the range of places: no index of it is cut
-- down
abbrev pub StartsAreSmall : Type 0
StartsAreSmall =
    (b : List ℕ) (since : List Instant) (e : Place) → IsImage b → EndsAt (wheel_parts_of b) since e
    → IsPlace (crank_total b) (start_of (wheel_parts_of b) since e)

-- the verdict of the walk's report is that of the window's instants, and its next window is theirs
pub record IsRightAt (b : List ℕ) (past : List Instant) (i : Instant) : Type 0 where
  pub verdict : IsVerdict (wheel_parts_of b) (i ∷ window_after b past) (verdict_at b past i)
  pub window : IsNextWindow (wheel_parts_of b) i (window_after b past) (verdict_at b past i) (window_after b (i ∷ past))

-- the walk's report is right at each instant
abbrev pub EachIsRight : Type 0
EachIsRight =
    (b : List ℕ) (past : List Instant) (i : Instant) → IsSoundImage b → IsRising (reverse (i ∷ past)) → IsRightAt b past i

-- the verdicts of the walk's report are those of the instants over the image's wheel, and so is the window that comes next
abbrev pub ReportIsRight : Type 0
ReportIsRight =
    (b : List ℕ) (is : List Instant) → IsSoundImage b → IsRising is
    → AreVerdicts (wheel_parts_of b) (reverse is) (verdicts_of b (reverse is)) (window_after b (reverse is))

-- the same of an image that is known to be sound
abbrev pub KnownReportIsRight : Type 0
KnownReportIsRight =
    (b : List ℕ) (is : List Instant) → IsKnownSound b → IsRising is
    → AreVerdicts (wheel_parts_of b) (reverse is) (verdicts_of b (reverse is)) (window_after b (reverse is))

-- the compiled image of a wheel is sound
abbrev pub CompiledAreSound : Type 0
CompiledAreSound = (w : WheelParts) (limit : ℕ) (b : List ℕ) → IsCompiled w limit b → IsSoundImage b

-- so the walk's report over it is that of the wheel
abbrev pub CompiledReportIsRight : Type 0
CompiledReportIsRight =
    (w : WheelParts) (limit : ℕ) (b : List ℕ) (is : List Instant) → IsCompiled w limit b → IsRising is
    → AreVerdicts w (reverse is) (verdicts_of b (reverse is)) (window_after b (reverse is))
