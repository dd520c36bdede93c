-- Accepted images give no cause to end, and how the commands end over them.
use Rattle.std.proofs.Common.{◌≡◌, ℕ, List, Option, None, Some, Result, Ok, Err, sym, ◌∙◌, ap, subst}
use Rattle.std.specs.Prelude.{IsTrue}
use Rattle.shelf_traits.specs.Shelf.{View}
use Rattle.capture_core.specs.declared.capture.Capture.{Capture}
use Rattle.command_words.specs.Options.{Options}
use Rattle.image_layout.specs.declared.fault.ImageFault.{ImageFault}
use Rattle.image_layout.specs.Rules.{first_fault}
use Rattle.image_layout.specs.Fields.{wheel_parts_of}
use Rattle.image_format.proofs.Tables.{layout_from}
use Rattle.table_images.specs.Images.{IsSoundImage}
use Rattle.image_audit.proofs.Exact.{not_sound}
use Rattle.run_ends.specs.declared.cause.Done.{Done}
use Rattle.run_ends.specs.declared.cause.Done.TheVariants as done
use Rattle.run_ends.specs.declared.cause.Cause.{Cause}
use Rattle.run_ends.specs.declared.cause.Cause.TheVariants as cause
use Rattle.run_ends.specs.declared.cause.Refusal.TheVariants as refusal
use Rattle.run_ends.specs.Works.{Work, Reads, Judges, Writes, StopsWrite}
use Rattle.run_ends.proofs.Completing.{reads_ready, judges_ready, judges_end, writes_end, reads_not_usage, writes_not_usage, judge_not_usage}
use Rattle.run_files.proofs.Ready.{same_bytes, file_gives_none}
use Rattle.named_captures.specs.Captures.{HasCleanCapture, CleanGives}
use Rattle.named_captures.proofs.FileNames.{clean_gives_none, file_has_one_capture}
use Rattle.image_commands.specs.Images.{HasImage, ImageGives}
use Rattle.image_commands.specs.Audit.{AuditGives, IsAudited, IsAudit}
use Rattle.image_commands.specs.Trace.{IsTraced, IsTrace}
use Rattle.image_commands.specs.TraceEnding.{AreTraced}

-- a file has one image
pub file_has_one_image : (file : List ℕ → Option (List ℕ)) (name a b : List ℕ) → HasImage file name a → HasImage file name b → a ≡ b
file_has_one_image file name a b h k = same_bytes file name a b h.holds k.holds

-- an image gives no cause
pub image_gives_none : (file : List ℕ → Option (List ℕ)) (name b : List ℕ) → HasImage file name b → (e : Cause) → ImageGives file name e → ⊥
image_gives_none file name b h (cause.Refused (refusal.Image fault)) (bytes, (holds, broken)) =
    let same : b ≡ bytes = same_bytes file name b bytes h.holds holds in
    let both : ◌≡◌ {A = Option ImageFault} None (Some fault) = sym (layout_from b h.layout) ∙ ap first_fault same ∙ broken in
    absurd (cc)
image_gives_none file name b h (cause.Refused (refusal.Wheel no_wheel)) g = g
image_gives_none file name b h (cause.Refused (refusal.Table no_table)) g = g
image_gives_none file name b h (cause.Refused (refusal.Csv fault)) g = g
image_gives_none file name b h (cause.Refused (refusal.Vcd fault)) g = g
image_gives_none file name b h (cause.Refused (refusal.Report at)) g = g
image_gives_none file name b h (cause.Refused (refusal.Certificate at)) g = g
image_gives_none file name b h (cause.Refused (refusal.Audit fault)) g = g
image_gives_none file name b h (cause.Refused (refusal.Stuck gap low high)) g = g
image_gives_none file name b h (cause.Limit l) g = file_gives_none file name b h.holds (cause.Limit l) g
image_gives_none file name b h cause.Usage g = g
image_gives_none file name b h cause.ReadFault g = g
image_gives_none file name b h cause.WriteFault g = g
image_gives_none file name b h cause.Memory g = g

-- a sound image gives none by its table
pub audit_gives_none : (b : List ℕ) → IsSoundImage b → (e : Cause) → AuditGives b e → ⊥
audit_gives_none b sound (cause.Refused (refusal.Audit fault)) g = not_sound b sound fault.fault fault.of_the_file g
audit_gives_none b sound (cause.Refused (refusal.Image fault)) g = g
audit_gives_none b sound (cause.Refused (refusal.Wheel no_wheel)) g = g
audit_gives_none b sound (cause.Refused (refusal.Table no_table)) g = g
audit_gives_none b sound (cause.Refused (refusal.Csv fault)) g = g
audit_gives_none b sound (cause.Refused (refusal.Vcd fault)) g = g
audit_gives_none b sound (cause.Refused (refusal.Report at)) g = g
audit_gives_none b sound (cause.Refused (refusal.Certificate at)) g = g
audit_gives_none b sound (cause.Refused (refusal.Stuck gap low high)) g = g
audit_gives_none b sound (cause.Limit l) g = g
audit_gives_none b sound cause.Usage g = g
audit_gives_none b sound cause.ReadFault g = g
audit_gives_none b sound cause.WriteFault g = g
audit_gives_none b sound cause.Memory g = g

stop : (P : Result Done Cause → Type 0) → P (Err cause.Memory) → P (Err cause.WriteFault) → (e : Cause) → StopsWrite e → P (Err e)
stop P memory fault cause.WriteFault s = fault
stop P memory fault cause.Memory s = memory
stop P memory fault cause.Usage s = absurd s
stop P memory fault cause.ReadFault s = absurd s
stop P memory fault (cause.Refused r) s = absurd s
stop P memory fault (cause.Limit l) s = absurd s

-- over a sound image and a steady shelf an audit is done, or wants memory, or a write fails
pub audit_ends : (P : Result Done Cause → Type 0) (v : View) (image b : List ℕ) (work : Work) → IsTrue v.tells → IsTrue v.steady → HasImage v.file image b → IsSoundImage b
    → P (Ok done.Whole) → P (Err cause.Memory) → P (Err cause.WriteFault) → IsAudit v image work → P work.end
audit_ends P v image b work told steady h sound whole memory fault r =
    reads_ready v image (ImageGives v.file image) (HasImage v.file image) (λ b. Judges (AuditGives b) (IsSoundImage b) (Writes (IsAudited b))) P
    b b work told steady h.holds.there (image_gives_none v.file image b h) (λ a k. file_has_one_image v.file image a b k h) memory
    (λ rest n.
    judges_ready (AuditGives b) (IsSoundImage b) (Writes (IsAudited b)) P rest (audit_gives_none b sound) memory
    (λ p. writes_end (IsAudited b) P rest (λ text end d. subst P (sym d.1.1.1) whole) (stop P memory fault) p) n)
    r

-- over an image, sound or not, a capture that ends clean and a steady shelf a trace is done, or wants memory, or a write fails
pub trace_ends : (P : Result Done Cause → Type 0) (v : View) (image capture : List ℕ) (o : Options) (b : List ℕ) (c : Capture) (work : Work) → IsTrue v.tells → IsTrue v.steady
    → AreTraced v.file image capture o b c → P (Ok done.Whole) → P (Err cause.Memory) → P (Err cause.WriteFault) → IsTrace v image capture o work → P work.end
trace_ends P v image capture o b c work told steady h whole memory fault r =
    reads_ready v image (ImageGives v.file image) (HasImage v.file image)
    (λ b. Reads v capture (CleanGives v.file capture (wheel_parts_of b) o) (HasCleanCapture v.file capture (wheel_parts_of b) o) (λ c. Writes (IsTraced b c.instants))) P
    b b work told steady h.image_file.holds.there (image_gives_none v.file image b h.image_file) (λ a k. file_has_one_image v.file image a b k h.image_file) memory
    (λ rest n.
    reads_ready v capture (CleanGives v.file capture (wheel_parts_of b) o) (HasCleanCapture v.file capture (wheel_parts_of b) o) (λ c. Writes (IsTraced b c.instants)) P
    h.capture_file.read.bytes c rest told steady h.capture_file.read.holds.there (clean_gives_none v.file capture (wheel_parts_of b) o c h.capture_file)
    (λ d k. file_has_one_capture v.file capture (wheel_parts_of b) o d c k.read h.capture_file.read) memory
    (λ last m. writes_end (IsTraced b c.instants) P last (λ text end d. subst P (sym d.1) whole) (stop P memory fault) m) n)
    r

done_not_usage : (end : Result Done Cause) → end ≡ Ok done.Whole → end ≡ Err cause.Usage → ⊥
done_not_usage end is was = let both : ◌≡◌ {A = Result Done Cause} (Ok done.Whole) (Err cause.Usage) = sym is ∙ was in absurd (cc)

not_cause : (e : Cause) → (e ≡ cause.Usage → ⊥) → ◌≡◌ {A = Result Done Cause} (Err e) (Err cause.Usage) → ⊥
not_cause e n is = let same : e ≡ cause.Usage = cc in n same

-- no audit ends for usage
pub audit_not_usage : (v : View) (image : List ℕ) (work : Work) → IsAudit v image work → work.end ≡ Err cause.Usage → ⊥
audit_not_usage v image work r =
    reads_not_usage v image (ImageGives v.file image) (HasImage v.file image) (λ b. Judges (AuditGives b) (IsSoundImage b) (Writes (IsAudited b))) work
    (λ b rest n.
    judges_end (AuditGives b) (IsSoundImage b) (Writes (IsAudited b)) (λ end. end ≡ Err cause.Usage → ⊥) rest (λ e s. not_cause e (judge_not_usage (AuditGives b) e s))
    (λ sound p. writes_not_usage (IsAudited b) rest (λ text end d. done_not_usage end d.1.1.1) p) n)
    r

-- no trace ends for usage
pub trace_not_usage : (v : View) (image capture : List ℕ) (o : Options) (work : Work) → IsTrace v image capture o work → work.end ≡ Err cause.Usage → ⊥
trace_not_usage v image capture o work r =
    reads_not_usage v image (ImageGives v.file image) (HasImage v.file image)
    (λ b. Reads v capture (CleanGives v.file capture (wheel_parts_of b) o) (HasCleanCapture v.file capture (wheel_parts_of b) o) (λ c. Writes (IsTraced b c.instants))) work
    (λ b rest n.
    reads_not_usage v capture (CleanGives v.file capture (wheel_parts_of b) o) (HasCleanCapture v.file capture (wheel_parts_of b) o) (λ c. Writes (IsTraced b c.instants)) rest
    (λ c last m. writes_not_usage (IsTraced b c.instants) last (λ text end d. done_not_usage end d.1) m) n)
    r
