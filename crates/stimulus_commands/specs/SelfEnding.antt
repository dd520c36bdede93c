-- How a self ends, and what out got by then: what follows of its relation, end by end.
use Rattle.std.specs.Prelude.{◌≡◌, ◌≤◌, ◌⊎◌, ℕ, List, [], length, take, IsTrue, None, Result, Ok, Err}
use Rattle.std.specs.declared.option.Option.{Option}
use Rattle.shelf_traits.specs.Shelf.{View}
use Rattle.wheel_types.specs.declared.parts.WheelParts.{WheelParts}
use Rattle.run_ends.specs.declared.cause.Done.{Done}
use Rattle.run_ends.specs.declared.cause.Done.TheVariants as done
use Rattle.run_ends.specs.declared.cause.Cause.{Cause}
use Rattle.run_ends.specs.declared.cause.Cause.TheVariants as cause
use Rattle.run_ends.specs.Works.{Work, Told, HandsOn}
use Rattle.run_files.specs.Causes.{ModelGives}
use Rattle.run_files.specs.Files.{HasPlacedWheel}
use Rattle.table_commands.specs.States.{HasFewStates, FamilyGives}
use Rattle.stimulus_commands.specs.Stimuli.{StimGives}
use Rattle.stimulus_commands.specs.SelfTest.{IsSelfTest, IsSelfTested}

-- out got the line of the counts of a stimulus of the file's wheel
abbrev pub GotCounts : (List ℕ → Option (List ℕ)) → (wheel : List ℕ) → (seed gaps : ℕ) → (out : List ℕ) → Type 0
GotCounts file wheel seed gaps out = (w : WheelParts) × (HasPlacedWheel file wheel w × IsSelfTested w seed gaps out (Ok done.Whole))

-- out got nothing, or a front of that line
abbrev pub GotCountsFront : (List ℕ → Option (List ℕ)) → (wheel : List ℕ) → (seed gaps : ℕ) → (out : List ℕ) → Type 0
GotCountsFront file wheel seed gaps out =
    (out ≡ []) ⊎ ((text : List ℕ) × ((k : ℕ) × (GotCounts file wheel seed gaps text × ((k ≤ length text) × (out ≡ take k text)))))

-- the wheel gives the cause by its family; or that has few enough states, and the wheel does by its stimulus
abbrev pub TestGives : WheelParts → (seed gaps : ℕ) → Cause → Type 0
TestGives w seed gaps e = FamilyGives w e ⊎ (HasFewStates w × StimGives w seed gaps e)

-- the file gives the cause, or its wheel does
abbrev pub SelfGives : (List ℕ → Option (List ℕ)) → (wheel : List ℕ) → (seed gaps : ℕ) → Cause → Type 0
SelfGives file wheel seed gaps e = ModelGives file wheel e ⊎ ((w : WheelParts) × (HasPlacedWheel file wheel w × TestGives w seed gaps e))

-- how a self ends, and what out got by then
abbrev pub SelfEnds : View → (wheel : List ℕ) → (seed gaps : ℕ) → Result Done Cause → (out : List ℕ) → Type 0
SelfEnds v wheel seed gaps (Ok x) out = (x ≡ done.Whole) × Told v (GotCounts v.file wheel seed gaps out)
SelfEnds v wheel seed gaps (Err cause.ReadFault) out = (out ≡ []) × Told v (IsTrue v.steady → v.file wheel ≡ None)
SelfEnds v wheel seed gaps (Err cause.WriteFault) out = Told v (GotCountsFront v.file wheel seed gaps out)
SelfEnds v wheel seed gaps (Err cause.Memory) out = Told v (GotCountsFront v.file wheel seed gaps out)
SelfEnds v wheel seed gaps (Err e) out = (out ≡ []) × Told v (SelfGives v.file wheel seed gaps e)

-- every self ends so
abbrev pub SelfsEnd : Type 0
SelfsEnd = (v : View) (wheel : List ℕ) (seed gaps : ℕ) (work : Work) → HandsOn (IsSelfTest v wheel seed gaps) work → SelfEnds v wheel seed gaps work.end work.out
