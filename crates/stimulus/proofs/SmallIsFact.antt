-- That changes are small is a fact: it has at most one proof, so that whoever only knows of it has it.
use Rattle.std.proofs.Common.{◌≡◌, ◌≤◌, ◌^◌, ℕ, List, [], ◌∷◌, ℤ, sym, subst}
use Rattle.std.proofs.lemmas.Grind.{merely}
use Rattle.std.proofs.Math.Logic.{∥∥₁_elim}
use denote.Struct.Props.{props}
use Rattle.wheel_types.specs.declared.instant.Instant.{Instant}
use Rattle.wheel_types.specs.declared.parts.WheelParts.{WheelParts}
use Rattle.wheel_types.specs.Verdicts.{AreWithin}
use Rattle.wheel_types.specs.Wheels.{IsWheel}
use Rattle.capture_core.specs.declared.capture.Watch.{Watch}
use Rattle.stimulus_files.specs.Changes.{Change}
use Rattle.stimulus_files.specs.FilesOf.{watch_of}
use Rattle.stimulus_files.specs.Written.{AreSmall, RiseFrom}
use Rattle.stimulus.specs.Drawn.{IsStimulus}
use Rattle.stimulus.specs.Gaps.{HasTimes}
use Rattle.stimulus.proofs.WritableFiles.{stimuli_are_writable}

rise_fact : (t : ℤ) (cs : List Change) → IsProp (RiseFrom t cs)
rise_fact t [] = hlevel props
rise_fact t (c ∷ cs) = let rest = rise_fact c.time cs in hlevel (props, rest)

small_fact : (watch : Watch) (is : List Instant) → IsProp (AreSmall watch is)
small_fact watch is = hlevel (props, rise_fact)

pub known_small : (watch : Watch) (is : List Instant) → ∥ AreSmall watch is ∥₁ → AreSmall watch is
known_small watch is known = ∥∥₁_elim known (small_fact watch is) (λ small. small)

-- no time of a stimulus is past the greatest
pub stimulus_within : (w : WheelParts) (seed gaps : ℕ) (is : List Instant)
    → IsWheel w → gaps ≤ 1000000 → HasTimes w seed gaps → IsStimulus w seed gaps is → AreWithin (10 ^ 24) is
stimulus_within w seed gaps is wheel few times made = (stimuli_are_writable w seed gaps is wheel few times made).0

-- and its changes are small
pub stimulus_small : (w : WheelParts) (seed gaps : ℕ) (watch : Watch) (is : List Instant)
    → IsWheel w → gaps ≤ 1000000 → HasTimes w seed gaps → IsStimulus w seed gaps is → watch ≡ watch_of w → ∥ AreSmall watch is ∥₁
stimulus_small w seed gaps watch is wheel few times made same =
    merely (subst (λ v. AreSmall v is) (sym same) (stimuli_are_writable w seed gaps is wheel few times made).1)
