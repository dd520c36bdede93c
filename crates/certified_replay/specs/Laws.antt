-- A check never denies what a replay wrote.
use Rattle.std.specs.Prelude.{◌≡◌, ℕ, List, IsTrue, Some, Ok}
use Rattle.std.specs.declared.option.Option.{Option}
use Rattle.shelf_traits.specs.Shelf.{View}
use Rattle.command_words.specs.Options.{Options}
use Rattle.run_ends.specs.declared.cause.Done.TheVariants as done
use Rattle.run_ends.specs.Works.{Work}
use Rattle.wheel_types.specs.declared.parts.WheelParts.{WheelParts}
use Rattle.run_files.specs.Files.{HasPlacedWheel}
use Rattle.table_models.specs.Models.{BeginAsImage, HasModel}
use Rattle.check_command.specs.Check.{IsCheck}
use Rattle.certified_replay.specs.Certified.{IsCertified}

-- one shelf has a wheel file of the wheel of another's model, the other's capture, the report that a replay wrote on out, and the
-- certificate that it wrote
pub record HasWritten (v u : View) (model wheel capture report cert : List ℕ) (replayed : Work) : Type 0 where
  pub told : IsTrue u.tells
  pub wheel_file : (w x : WheelParts) → HasModel v.file model w → HasPlacedWheel u.file wheel x → x ≡ w
  pub capture_file : u.file capture ≡ v.file capture
  pub report_file : u.file report ≡ Some replayed.out
  pub cert_file : u.file cert ≡ replayed.made

-- A replay that is done over told files, with any taps, wrote a report and a certificate; whoever checks the two, over a file of the model's wheel and the
-- same capture and by the same names, is never told no.
abbrev pub OwnAreNotDenied : Type 0
OwnAreNotDenied = (v u : View) (tails : List ℕ → List ℕ) (model wheel capture report cert made : List ℕ) (o : Options) (replayed checked : Work) → IsTrue v.tells → IsCertified v tails model capture made o replayed → replayed.end ≡ Ok done.Whole
    → HasWritten v u model wheel capture report cert replayed → IsCheck u wheel capture report cert o checked → checked.end ≡ Ok done.No → ⊥

-- A model's file that is no image has the wheel that it means: a check over that very file is one over the model's wheel.
abbrev pub WheelFilesAreTheirOwn : Type 0
WheelFilesAreTheirOwn = (file other : List ℕ → Option (List ℕ)) (name bytes : List ℕ) (w x : WheelParts) → file name ≡ Some bytes → other name ≡ Some bytes → ¬ BeginAsImage bytes
    → HasModel file name w → HasPlacedWheel other name x → x ≡ w
