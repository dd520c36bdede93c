-- What is known of single steps, whatever the wheel is.
use Rattle.std.specs.Prelude.{◌≡◌, ℕ, ◌<◌, ◌⊎◌, List, Some, None}
use Rattle.wheel_types.specs.declared.place.Place.{Place}
use Rattle.wheel_types.specs.declared.instant.Instant.{Instant}
use Rattle.wheel_types.specs.declared.parts.WheelParts.{WheelParts}
use Rattle.wheel_types.specs.Steps.{IsLegalStep}
use Rattle.position_nfa.specs.declared.pair.Pair.{Pair}
use Rattle.position_nfa.specs.Alphabets.{Alphabet, time_classes, ratio_classes}
use Rattle.position_nfa.specs.Letters.{leads}
use Rattle.position_nfa.specs.Sets.{effect}
use Rattle.position_nfa.specs.Step.{next_state}

-- a letter that is none of the state's phase leads nowhere, and a phase past 5 has no letters
abbrev pub OtherLettersLeadNowhere : Type 0
OtherLettersLeadNowhere =
    (a : Alphabet) (p : Pair) (column : ℕ) → (leads (time_classes a) (ratio_classes a) p.phase column ≡ None) ⊎ (5 < p.phase)
    → next_state a p column ≡ None

-- where a letter leads from a state to another, the set of the other is what the letter makes of the set of the one
abbrev pub StepsMakeSets : Type 0
StepsMakeSets = (a : Alphabet) (p q : Pair) (column : ℕ) → next_state a p column ≡ Some q → q.set ≡ effect a column p.set

-- a place has one legal step at an instant, or none
abbrev pub LegalStepsAreOne : Type 0
LegalStepsAreOne =
    (w : WheelParts) (past : List Instant) (p : Place) (i : Instant) (q r : Place) → IsLegalStep w past p i q → IsLegalStep w past p i r → q ≡ r
