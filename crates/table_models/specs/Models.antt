-- The tables that a replay's model gives: the image that its file holds, or the compiled image of the wheel that it holds.
use Rattle.std.specs.Prelude.{◌≡◌, ◌⊎◌, ℕ, List, take, codes}
use Rattle.std.specs.declared.option.Option.{Option}
use Rattle.wheel_types.specs.declared.parts.WheelParts.{WheelParts}
use Rattle.wheel_pattern.specs.WheelFile.{MeansWheel, HasFault}
use Rattle.cam_ranges.specs.Places.{HasTooMany}
use Rattle.image_layout.specs.Fields.{wheel_parts_of}
use Rattle.table_images.specs.Images.{IsCompiled, IsSoundImage}
use Rattle.shelf_traits.specs.Shelf.{View}
use Rattle.run_ends.specs.Works.{Work, Reads, Judges}
use Rattle.run_ends.specs.declared.cause.Cause.{Cause}
use Rattle.run_ends.specs.declared.cause.Cause.TheVariants as cause
use Rattle.run_ends.specs.declared.cause.Refusal.TheVariants as refusal
use Rattle.run_ends.specs.declared.cause.Limit.TheVariants as limit
use Rattle.run_files.specs.Files.{Holds}
use Rattle.run_files.specs.Causes.{FileGives}
use Rattle.table_commands.specs.States.{HasFewStates, HasManyStates, given_limit}
use Rattle.image_commands.specs.Images.{LayoutGives}
use Rattle.image_commands.specs.Audit.{AuditGives}

-- the bytes begin as an image does
abbrev pub BeginAsImage : List ℕ → Type 0
BeginAsImage bytes = take 4 bytes ≡ codes "WSYN"

-- the bytes do not begin so, and are the file of this wheel, which has no more places than an automaton takes
pub record AreWheelFile (bytes : List ℕ) (w : WheelParts) : Type 0 where
  pub other : ¬ BeginAsImage bytes
  pub means : MeansWheel bytes w
  pub few : ¬ HasTooMany w

-- the image that a model's bytes give: these bytes themselves, or the compiled image of their wheel
abbrev pub GivesImage : (bytes image : List ℕ) → Type 0
GivesImage bytes image =
    (BeginAsImage bytes × (image ≡ bytes)) ⊎ ((w : WheelParts) × (AreWheelFile bytes w × IsCompiled w given_limit image))

-- the model's file gives this image
pub record HasModelImage (file : List ℕ → Option (List ℕ)) (name image : List ℕ) : Type 0 where
  pub bytes : List ℕ
  pub holds : Holds file name bytes
  pub gives : GivesImage bytes image

-- a wheel gives this cause: it has too many places; or it has not, and its table has more states than the limit that holds
abbrev pub NoImageGives : WheelParts → Cause → Type 0
NoImageGives w (cause.Limit limit.Places) = HasTooMany w
NoImageGives w (cause.Limit (limit.States most)) = (¬ HasTooMany w) × HasManyStates w most
NoImageGives w e = ⊥

-- bytes give this cause: they are no wheel file
abbrev pub NotWheelGives : List ℕ → Cause → Type 0
NotWheelGives bytes (cause.Refused (refusal.Wheel no_wheel)) = HasFault bytes no_wheel.fault
NotWheelGives bytes e = ⊥

-- a model's bytes give this cause, where they do not begin as an image does: they are no wheel file; or their wheel has too many places; or
-- it has not, and its table has more states than the limit that holds
abbrev pub BytesGive : List ℕ → Cause → Type 0
BytesGive bytes e =
    (¬ BeginAsImage bytes) × (NotWheelGives bytes e ⊎ ((w : WheelParts) × (MeansWheel bytes w × NoImageGives w e)))

-- the model's file gives this cause: it is too long, or its bytes give it
abbrev pub TableGives : (List ℕ → Option (List ℕ)) → List ℕ → Cause → Type 0
TableGives file name e = FileGives file name e ⊎ ((bytes : List ℕ) × (Holds file name bytes × BytesGive bytes e))

-- an image gives this cause: it breaks a rule of the layout, of which this is the first; or its table is not that of its own wheel, and
-- this is the first difference
abbrev pub NotSoundGives : List ℕ → Cause → Type 0
NotSoundGives image e = LayoutGives image e ⊎ AuditGives image e

-- the bytes are a model of this wheel: a sound image that holds it, or its wheel file, and then its table has few enough states
abbrev pub MeansModel : List ℕ → WheelParts → Type 0
MeansModel bytes w =
    (BeginAsImage bytes × (IsSoundImage bytes × (wheel_parts_of bytes ≡ w))) ⊎ (AreWheelFile bytes w × HasFewStates w)

-- a model's file is there, and is one of this wheel
pub record HasModel (file : List ℕ → Option (List ℕ)) (name : List ℕ) (w : WheelParts) : Type 0 where
  pub bytes : List ℕ
  pub holds : Holds file name bytes
  pub model : MeansModel bytes w

-- a model's file gives the cause, or the image that it gives does
abbrev pub IsNoModel : (List ℕ → Option (List ℕ)) → List ℕ → Cause → Type 0
IsNoModel file name e = TableGives file name e ⊎ ((image : List ℕ) × (HasModelImage file name image × NotSoundGives image e))

-- The model is read, and gives an image; the image is judged, and is the table of its own wheel; then the work goes on with the wheel.
abbrev pub ReadsModel : View → (name : List ℕ) → (next : WheelParts → Work → Type 0) → Work → Type 0
ReadsModel v name next =
    Reads v name (TableGives v.file name) (HasModelImage v.file name)
    (λ image. Judges (NotSoundGives image) (IsSoundImage image) (next (wheel_parts_of image)))
