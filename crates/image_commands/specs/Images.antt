-- The images that files hold, and when a file is refused as one.
use Rattle.std.specs.Prelude.{◌≡◌, ℕ, List, Some}
use Rattle.std.specs.declared.option.Option.{Option}
use Rattle.image_layout.specs.Rules.{first_fault}
use Rattle.image_layout.specs.Tables.{KeepsLayout}
use Rattle.run_ends.specs.declared.cause.Cause.{Cause}
use Rattle.run_ends.specs.declared.cause.Cause.TheVariants as cause
use Rattle.run_ends.specs.declared.cause.Refusal.TheVariants as refusal
use Rattle.run_files.specs.Files.{Holds}
use Rattle.run_files.specs.Causes.{FileGives}

-- the file is an image of these bytes: they keep the table of the layout
pub record HasImage (file : List ℕ → Option (List ℕ)) (name bytes : List ℕ) : Type 0 where
  pub holds : Holds file name bytes
  pub layout : KeepsLayout bytes

-- bytes give this cause: they break a rule of the layout, of which this is the first
abbrev pub LayoutGives : List ℕ → Cause → Type 0
LayoutGives bytes (cause.Refused (refusal.Image fault)) = first_fault bytes ≡ Some fault
LayoutGives bytes e = ⊥

-- an image's file gives this cause: its bytes break a rule of the layout, of which this is the first
abbrev pub ImageGives : (List ℕ → Option (List ℕ)) → List ℕ → Cause → Type 0
ImageGives file name (cause.Refused (refusal.Image fault)) = (bytes : List ℕ) × (Holds file name bytes × (first_fault bytes ≡ Some fault))
ImageGives file name e = FileGives file name e
