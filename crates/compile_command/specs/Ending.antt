-- How a compile ends, and what the image's file got by then: what follows of its relation, end by end.
use Rattle.std.specs.Prelude.{◌≡◌, ◌≤◌, ◌⊎◌, ℕ, List, [], length, take, IsTrue, None, Some, Result, Ok, Err}
use Rattle.std.specs.declared.option.Option.{Option}
use Rattle.shelf_traits.specs.Shelf.{View}
use Rattle.wheel_types.specs.declared.parts.WheelParts.{WheelParts}
use Rattle.table_images.specs.Images.{IsCompiled}
use Rattle.run_ends.specs.declared.cause.Done.{Done}
use Rattle.run_ends.specs.declared.cause.Done.TheVariants as done
use Rattle.run_ends.specs.declared.cause.Cause.{Cause}
use Rattle.run_ends.specs.declared.cause.Cause.TheVariants as cause
use Rattle.run_ends.specs.Works.{Work, Told, HandsOn}
use Rattle.run_files.specs.Causes.{ModelGives}
use Rattle.run_files.specs.Files.{HasPlacedWheel}
use Rattle.table_commands.specs.States.{FamilyGives, given_limit}
use Rattle.compile_command.specs.Compile.{IsCompile}

-- the bytes are the compiled image of the file's wheel
abbrev pub IsImageOf : View → (wheel bytes : List ℕ) → Type 0
IsImageOf v wheel bytes = Told v ((w : WheelParts) × (HasPlacedWheel v.file wheel w × IsCompiled w given_limit bytes))

-- a file was created, and has that image
abbrev pub GotImage : View → (wheel : List ℕ) → (made : Option (List ℕ)) → Type 0
GotImage v wheel made = (bytes : List ℕ) × (IsImageOf v wheel bytes × (made ≡ Some bytes))

-- no file was created, or one that has a front of that image
abbrev pub GotImageFront : View → (wheel : List ℕ) → (made : Option (List ℕ)) → Type 0
GotImageFront v wheel made = (made ≡ None) ⊎ ((bytes : List ℕ) × ((k : ℕ) × (IsImageOf v wheel bytes × ((k ≤ length bytes) × (made ≡ Some (take k bytes))))))

-- the file gives the cause, or its wheel does by its family
abbrev pub CompileGives : (List ℕ → Option (List ℕ)) → (wheel : List ℕ) → Cause → Type 0
CompileGives file wheel e = ModelGives file wheel e ⊎ ((w : WheelParts) × (HasPlacedWheel file wheel w × FamilyGives w e))

-- how a compile ends, and what was made by then
abbrev pub CompileEnds : View → (wheel : List ℕ) → Result Done Cause → (made : Option (List ℕ)) → Type 0
CompileEnds v wheel (Ok x) made = (x ≡ done.Whole) × GotImage v wheel made
CompileEnds v wheel (Err cause.ReadFault) made = (made ≡ None) × Told v (IsTrue v.steady → v.file wheel ≡ None)
CompileEnds v wheel (Err cause.WriteFault) made = GotImageFront v wheel made
CompileEnds v wheel (Err cause.Memory) made = GotImageFront v wheel made
CompileEnds v wheel (Err e) made = (made ≡ None) × Told v (CompileGives v.file wheel e)

-- every compile ends so, and out gets nothing
abbrev pub CompilesEnd : Type 0
CompilesEnd = (v : View) (wheel image : List ℕ) (work : Work) → HandsOn (IsCompile v wheel image) work → (work.out ≡ []) × CompileEnds v wheel work.end work.made
