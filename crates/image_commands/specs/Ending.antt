-- How an audit ends, and what out got by then: what follows of its relation, end by end.
use Rattle.std.specs.Prelude.{◌≡◌, ◌≤◌, ◌⊎◌, ℕ, List, [], length, take, IsTrue, None, Result, Ok, Err}
use Rattle.std.specs.declared.option.Option.{Option}
use Rattle.shelf_traits.specs.Shelf.{View}
use Rattle.table_images.specs.Images.{IsSoundImage}
use Rattle.run_ends.specs.declared.cause.Done.{Done}
use Rattle.run_ends.specs.declared.cause.Done.TheVariants as done
use Rattle.run_ends.specs.declared.cause.Cause.{Cause}
use Rattle.run_ends.specs.declared.cause.Cause.TheVariants as cause
use Rattle.run_ends.specs.Works.{Work, Told, HandsOn}
use Rattle.image_commands.specs.Images.{HasImage, ImageGives}
use Rattle.image_commands.specs.Audit.{AuditGives, IsAudited, IsAudit}

-- out got the text of the file's image, which is sound
abbrev pub GotAudit : (List ℕ → Option (List ℕ)) → (image out : List ℕ) → Type 0
GotAudit file image out = (b : List ℕ) × (HasImage file image b × (IsSoundImage b × IsAudited b out (Ok done.Whole)))

-- out got nothing, or a front of that text
abbrev pub GotAuditFront : (List ℕ → Option (List ℕ)) → (image out : List ℕ) → Type 0
GotAuditFront file image out = (out ≡ []) ⊎ ((text : List ℕ) × ((k : ℕ) × (GotAudit file image text × ((k ≤ length text) × (out ≡ take k text)))))

-- the file gives the cause, or its image does by its table
abbrev pub AuditedGives : (List ℕ → Option (List ℕ)) → (image : List ℕ) → Cause → Type 0
AuditedGives file image e = ImageGives file image e ⊎ ((b : List ℕ) × (HasImage file image b × AuditGives b e))

-- how an audit ends, and what out got by then
abbrev pub AuditEnds : View → (image : List ℕ) → Result Done Cause → (out : List ℕ) → Type 0
AuditEnds v image (Ok x) out = (x ≡ done.Whole) × Told v (GotAudit v.file image out)
AuditEnds v image (Err cause.ReadFault) out = (out ≡ []) × Told v (IsTrue v.steady → v.file image ≡ None)
AuditEnds v image (Err cause.WriteFault) out = Told v (GotAuditFront v.file image out)
AuditEnds v image (Err cause.Memory) out = Told v (GotAuditFront v.file image out)
AuditEnds v image (Err e) out = (out ≡ []) × Told v (AuditedGives v.file image e)

-- every audit ends so
abbrev pub AuditsEnd : Type 0
AuditsEnd = (v : View) (image : List ℕ) (work : Work) → HandsOn (IsAudit v image) work → AuditEnds v image work.end work.out
