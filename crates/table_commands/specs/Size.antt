-- The command `size`.
use Rattle.std.specs.Prelude.{◌≡◌, ℕ, ◌++◌, List, length, codes, decimal, Result, Ok}
use Rattle.shelf_traits.specs.Shelf.{View}
use Rattle.wheel_types.specs.declared.parts.WheelParts.{WheelParts}
use Rattle.gap_thresholds.specs.Classes.{times_of, ratios_of}
use Rattle.position_nfa.specs.Alphabets.{Alphabet, IsAlphabetOf, count}
use Rattle.run_ends.specs.declared.cause.Cause.{Cause}
use Rattle.run_ends.specs.declared.cause.Done.{Done}
use Rattle.run_ends.specs.declared.cause.Done.TheVariants.{Whole}
use Rattle.run_ends.specs.Works.{Work, Reads, Judges, Writes}
use Rattle.run_files.specs.Causes.{ModelGives}
use Rattle.run_files.specs.Files.{HasPlacedWheel}
use Rattle.table_commands.specs.States.{CountsStates, HasFewStates, FamilyGives}

-- how many places, time cuts, ratio cuts and states
pub record Sizes : Type 0 where
  pub places : ℕ
  pub times : ℕ
  pub ratios : ℕ
  pub states : ℕ

-- the wheel has so many places, its limits on speed and on the ratio of speeds have so many cuts, and its least family so many states
pub record HasSizes (w : WheelParts) (s : Sizes) : Type 0 where
  pub alphabet : Alphabet
  pub own : IsAlphabetOf w alphabet
  pub places : s.places ≡ count alphabet
  pub times : s.times ≡ length (times_of alphabet.cuts)
  pub ratios : s.ratios ≡ length (ratios_of alphabet.cuts)
  pub states : CountsStates alphabet s.states

-- the line of the sizes
abbrev pub size_text : Sizes → List ℕ
size_text s =
    codes "places " ++ decimal s.places ++ codes " time-cuts " ++ decimal s.times ++ codes " ratio-cuts " ++ decimal s.ratios ++ codes " states " ++ decimal s.states ++ codes "\n"

-- this text and this end are due for a wheel
abbrev pub IsSized : WheelParts → (text : List ℕ) → Result Done Cause → Type 0
IsSized w text end = (s : Sizes) × (HasSizes w s × ((text ≡ size_text s) × (end ≡ Ok Whole)))

-- The wheel is read, and has few enough places; its family is judged, and has few enough states; the line of the sizes is written.
abbrev pub IsSize : View → (wheel : List ℕ) → Work → Type 0
IsSize v wheel =
    Reads v wheel (ModelGives v.file wheel) (HasPlacedWheel v.file wheel) (λ w. Judges (FamilyGives w) (HasFewStates w) (Writes (IsSized w)))
