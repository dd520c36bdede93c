-- The command `compile`.
use Rattle.std.specs.Prelude.{ℕ, List, ⊤}
use Rattle.shelf_traits.specs.Shelf.{View}
use Rattle.wheel_types.specs.declared.parts.WheelParts.{WheelParts}
use Rattle.cam_ranges.specs.Places.{HasTooMany}
use Rattle.table_images.specs.Images.{IsCompiled}
use Rattle.run_ends.specs.declared.cause.Cause.{Cause}
use Rattle.run_ends.specs.declared.cause.Cause.TheVariants as cause
use Rattle.run_ends.specs.declared.cause.Limit.TheVariants as limit
use Rattle.run_ends.specs.Works.{Work, Reads, Judges}
use Rattle.run_ends.specs.Stages.{Makes}
use Rattle.run_files.specs.Causes.{ModelGives}
use Rattle.run_files.specs.Files.{HasPlacedWheel}
use Rattle.table_commands.specs.States.{HasFewStates, HasManyStates, FamilyGives, given_limit}

-- why a wheel has no image: it has too many places; or it has not, and its family has more states than the limit that holds, which is
-- this one; or memory is wanting
abbrev pub HasNoImage : WheelParts → Cause → Type 0
HasNoImage w (cause.Limit limit.Places) = HasTooMany w
HasNoImage w (cause.Limit (limit.States most)) = (¬ HasTooMany w) × HasManyStates w most
HasNoImage w cause.Memory = ⊤
HasNoImage w e = ⊥

-- The wheel is read, and has few enough places; its family is judged, and has few enough states; the image is made, and then its file.
abbrev pub IsCompile : View → (wheel image : List ℕ) → Work → Type 0
IsCompile v wheel image =
    Reads v wheel (ModelGives v.file wheel) (HasPlacedWheel v.file wheel) (λ w. Judges (FamilyGives w) (HasFewStates w) (Makes image (IsCompiled w given_limit)))
