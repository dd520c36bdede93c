-- How a size ends, and what out got by then: what follows of its relation, end by end.
use Rattle.std.specs.Prelude.{◌≡◌, ◌≤◌, ◌⊎◌, ℕ, List, [], length, take, IsTrue, None, Result, Ok, Err}
use Rattle.std.specs.declared.option.Option.{Option}
use Rattle.shelf_traits.specs.Shelf.{View}
use Rattle.wheel_types.specs.declared.parts.WheelParts.{WheelParts}
use Rattle.run_ends.specs.declared.cause.Done.{Done}
use Rattle.run_ends.specs.declared.cause.Done.TheVariants as done
use Rattle.run_ends.specs.declared.cause.Cause.{Cause}
use Rattle.run_ends.specs.declared.cause.Cause.TheVariants as cause
use Rattle.run_ends.specs.Works.{Work, Told, HandsOn}
use Rattle.run_files.specs.Causes.{ModelGives}
use Rattle.run_files.specs.Files.{HasPlacedWheel}
use Rattle.table_commands.specs.States.{FamilyGives}
use Rattle.table_commands.specs.Size.{IsSize, IsSized}

-- out got the line of the file's wheel
abbrev pub GotSizes : (List ℕ → Option (List ℕ)) → (wheel out : List ℕ) → Type 0
GotSizes file wheel out = (w : WheelParts) × (HasPlacedWheel file wheel w × IsSized w out (Ok done.Whole))

-- out got nothing, or a front of that line
abbrev pub GotSizesFront : (List ℕ → Option (List ℕ)) → (wheel out : List ℕ) → Type 0
GotSizesFront file wheel out = (out ≡ []) ⊎ ((text : List ℕ) × ((k : ℕ) × (GotSizes file wheel text × ((k ≤ length text) × (out ≡ take k text)))))

-- the file gives the cause, or its wheel does by its family
abbrev pub SizeGives : (List ℕ → Option (List ℕ)) → (wheel : List ℕ) → Cause → Type 0
SizeGives file wheel e = ModelGives file wheel e ⊎ ((w : WheelParts) × (HasPlacedWheel file wheel w × FamilyGives w e))

-- how a size ends, and what out got by then
abbrev pub SizeEnds : View → (wheel : List ℕ) → Result Done Cause → (out : List ℕ) → Type 0
SizeEnds v wheel (Ok x) out = (x ≡ done.Whole) × Told v (GotSizes v.file wheel out)
SizeEnds v wheel (Err cause.ReadFault) out = (out ≡ []) × Told v (IsTrue v.steady → v.file wheel ≡ None)
SizeEnds v wheel (Err cause.WriteFault) out = Told v (GotSizesFront v.file wheel out)
SizeEnds v wheel (Err cause.Memory) out = Told v (GotSizesFront v.file wheel out)
SizeEnds v wheel (Err e) out = (out ≡ []) × Told v (SizeGives v.file wheel e)

-- every size ends so
abbrev pub SizesEnd : Type 0
SizesEnd = (v : View) (wheel : List ℕ) (work : Work) → HandsOn (IsSize v wheel) work → SizeEnds v wheel work.end work.out
