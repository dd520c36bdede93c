-- How a stim ends, and what its file got by then: what follows of its relation, end by end.
use Rattle.std.specs.Prelude.{◌≡◌, ◌≤◌, ◌⊎◌, ℕ, List, [], length, take, IsTrue, None, Some, Result, Ok, Err}
use Rattle.std.specs.declared.option.Option.{Option}
use Rattle.shelf_traits.specs.Shelf.{View}
use Rattle.wheel_types.specs.declared.parts.WheelParts.{WheelParts}
use Rattle.run_ends.specs.declared.cause.Done.{Done}
use Rattle.run_ends.specs.declared.cause.Done.TheVariants as done
use Rattle.run_ends.specs.declared.cause.Cause.{Cause}
use Rattle.run_ends.specs.declared.cause.Cause.TheVariants as cause
use Rattle.run_ends.specs.Works.{Work, Told, HandsOn}
use Rattle.run_files.specs.Causes.{WheelGives}
use Rattle.run_files.specs.Files.{HasWheel}
use Rattle.command_words.specs.declared.numbers.Form.{Form}
use Rattle.stimulus_commands.specs.Stimuli.{StimGives}
use Rattle.stimulus_commands.specs.Stim.{IsStim, IsStimText}

-- what is drawn, and how it is written
pub record Order : Type 0 where
  pub form : Form
  pub seed : ℕ
  pub gaps : ℕ

-- the bytes are the file of a stimulus of the file's wheel
abbrev pub IsTextOf : View → (wheel : List ℕ) → Order → (bytes : List ℕ) → Type 0
IsTextOf v wheel o bytes = Told v ((w : WheelParts) × (HasWheel v.file wheel w × IsStimText w o.form o.seed o.gaps bytes))

-- a file was created, and has that text
abbrev pub GotText : View → (wheel : List ℕ) → Order → (made : Option (List ℕ)) → Type 0
GotText v wheel o made = (bytes : List ℕ) × (IsTextOf v wheel o bytes × (made ≡ Some bytes))

-- no file was created, or one that has a front of that text
abbrev pub GotTextFront : View → (wheel : List ℕ) → Order → (made : Option (List ℕ)) → Type 0
GotTextFront v wheel o made = (made ≡ None) ⊎ ((bytes : List ℕ) × ((k : ℕ) × (IsTextOf v wheel o bytes × ((k ≤ length bytes) × (made ≡ Some (take k bytes))))))

-- the file gives the cause, or its wheel does by its stimulus
abbrev pub StimFileGives : (List ℕ → Option (List ℕ)) → (wheel : List ℕ) → Order → Cause → Type 0
StimFileGives file wheel o e = WheelGives file wheel e ⊎ ((w : WheelParts) × (HasWheel file wheel w × StimGives w o.seed o.gaps e))

-- how a stim ends, and what was made by then
abbrev pub StimEnds : View → (wheel : List ℕ) → Order → Result Done Cause → (made : Option (List ℕ)) → Type 0
StimEnds v wheel o (Ok x) made = (x ≡ done.Whole) × GotText v wheel o made
StimEnds v wheel o (Err cause.ReadFault) made = (made ≡ None) × Told v (IsTrue v.steady → v.file wheel ≡ None)
StimEnds v wheel o (Err cause.WriteFault) made = GotTextFront v wheel o made
StimEnds v wheel o (Err cause.Memory) made = GotTextFront v wheel o made
StimEnds v wheel o (Err e) made = (made ≡ None) × Told v (StimFileGives v.file wheel o e)

-- every stim ends so, and out gets nothing
abbrev pub StimsEnd : Type 0
StimsEnd = (v : View) (wheel file : List ℕ) (form : Form) (seed gaps : ℕ) (work : Work) → HandsOn (IsStim v wheel form seed gaps file) work
    → (work.out ≡ []) × StimEnds v wheel (record { form = form; seed = seed; gaps = gaps }) work.end work.made
