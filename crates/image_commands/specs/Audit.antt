-- The command `audit`.
use Rattle.std.specs.Prelude.{◌≡◌, ◌++◌, ℕ, List, codes, decimal, Result, Ok}
use Rattle.shelf_traits.specs.Shelf.{View}
use Rattle.wheel_pattern.specs.WheelFile.{MeansWheel}
use Rattle.image_layout.specs.Layout.{state_total, place_total}
use Rattle.image_layout.specs.Fields.{wheel_parts_of}
use Rattle.table_images.specs.Images.{IsSoundImage}
use Rattle.image_audit.specs.Audits.{IsAuditFault}
use Rattle.run_ends.specs.declared.cause.Cause.{Cause}
use Rattle.run_ends.specs.declared.cause.Cause.TheVariants as cause
use Rattle.run_ends.specs.declared.cause.Refusal.TheVariants as refusal
use Rattle.run_ends.specs.declared.cause.Done.{Done}
use Rattle.run_ends.specs.declared.cause.Done.TheVariants.{Whole}
use Rattle.run_ends.specs.Works.{Work, Reads, Judges, Writes}
use Rattle.image_commands.specs.Images.{HasImage, ImageGives}

-- an image gives this cause by its table: it is not that of its own wheel, and this is the first difference
abbrev pub AuditGives : List ℕ → Cause → Type 0
AuditGives b (cause.Refused (refusal.Audit not_sound)) = IsAuditFault b not_sound.fault
AuditGives b e = ⊥

-- the line of a sound image: how many states it has, the dead one among them, and how many places
abbrev pub sound_line : List ℕ → List ℕ
sound_line b = codes "sound states " ++ decimal (state_total b) ++ codes " places " ++ decimal (place_total b) ++ codes "\n"

-- this text and this end are due for a sound image: its line, and then some wheel file of its wheel
abbrev pub IsAudited : List ℕ → (text : List ℕ) → Result Done Cause → Type 0
IsAudited b text end = (wheel : List ℕ) × (MeansWheel wheel (wheel_parts_of b) × ((text ≡ sound_line b ++ wheel) × (end ≡ Ok Whole)))

-- The image is read, and keeps the layout; its table is judged, and is that of its own wheel; its line and its wheel are written.
abbrev pub IsAudit : View → (image : List ℕ) → Work → Type 0
IsAudit v image =
    Reads v image (ImageGives v.file image) (HasImage v.file image) (λ b. Judges (AuditGives b) (IsSoundImage b) (Writes (IsAudited b)))
