-- How an audit ends, end by end.
use Rattle.std.proofs.Common.{ℕ, ◌≤◌, inl, inr, List, [], length, take, Result, Ok, Err, refl, sym, subst, arith}
use Rattle.std.proofs.Math.Seq.{take-length}
use Rattle.shelf_traits.specs.Shelf.{View}
use Rattle.table_images.specs.Images.{IsSoundImage}
use Rattle.run_ends.specs.declared.cause.Done.{Done}
use Rattle.run_ends.specs.declared.cause.Done.TheVariants as done
use Rattle.run_ends.specs.declared.cause.Cause.{Cause}
use Rattle.run_ends.specs.declared.cause.Cause.TheVariants as cause
use Rattle.run_ends.specs.Works.{Work, Told, Judges, Writes, StopsOpen, StopsRead, StopsJudge, StopsWrite}
use Rattle.run_ends.proofs.Outcomes.{reads_out, judges_out, writes_out, hands_out}
use Rattle.image_commands.specs.Images.{HasImage, ImageGives}
use Rattle.image_commands.specs.Audit.{AuditGives, IsAudited, IsAudit}
use Rattle.image_commands.specs.Ending.{GotAudit, AuditEnds, AuditsEnd}

not_opened : (v : View) (image : List ℕ) (e : Cause) → StopsOpen v image e → AuditEnds v image (Err e) []
not_opened v image cause.ReadFault s = (refl, λ told steady. s told steady)
not_opened v image cause.Memory s = λ told. inl refl
not_opened v image cause.Usage s = absurd s
not_opened v image (cause.Refused r) s = absurd s
not_opened v image (cause.Limit l) s = absurd s
not_opened v image cause.WriteFault s = absurd s

not_read : (v : View) (image : List ℕ) (e : Cause) → StopsRead v (ImageGives v.file image) e → AuditEnds v image (Err e) []
not_read v image cause.ReadFault s = (refl, λ told steady. absurd (s steady))
not_read v image cause.Memory s = λ told. inl refl
not_read v image cause.Usage s = absurd s
not_read v image (cause.Refused r) s = (refl, λ told. inl (s told))
not_read v image (cause.Limit l) s = (refl, λ told. inl (s told))
not_read v image cause.WriteFault s = absurd s

not_passed : (v : View) (image b : List ℕ) (e : Cause) → Told v (HasImage v.file image b) → StopsJudge (AuditGives b) e → AuditEnds v image (Err e) []
not_passed v image b cause.Memory a s = λ told. inl refl
not_passed v image b (cause.Refused r) a s = (refl, λ told. inr (b, (a told, s)))
not_passed v image b (cause.Limit l) a s = (refl, λ told. inr (b, (a told, s)))
not_passed v image b cause.ReadFault a s = absurd s
not_passed v image b cause.Usage a s = absurd s
not_passed v image b cause.WriteFault a s = absurd s

text_cut : (v : View) (image : List ℕ) (e : Cause) (text : List ℕ) (k : ℕ) → Told v (GotAudit v.file image text) → k ≤ length text → StopsWrite e → AuditEnds v image (Err e) (take k text)
text_cut v image cause.WriteFault text k a within s = λ told. inr (text, (k, (a told, (within, refl))))
text_cut v image cause.Memory text k a within s = λ told. inr (text, (k, (a told, (within, refl))))
text_cut v image cause.Usage text k a within s = absurd s
text_cut v image cause.ReadFault text k a within s = absurd s
text_cut v image (cause.Refused x) text k a within s = absurd s
text_cut v image (cause.Limit l) text k a within s = absurd s

-- where out is not handed on, it got what it had
audit_cut : (v : View) (image : List ℕ) (end : Result Done Cause) (out : List ℕ) → AuditEnds v image end out → AuditEnds v image (Err cause.WriteFault) out
audit_cut v image (Ok x) out h = λ told. inr (out, (length out, (h.1 told, (omega arith, sym (take-length out)))))
audit_cut v image (Err cause.ReadFault) out h = λ told. inl h.0
audit_cut v image (Err cause.WriteFault) out h = h
audit_cut v image (Err cause.Memory) out h = h
audit_cut v image (Err cause.Usage) out h = λ told. inl h.0
audit_cut v image (Err (cause.Refused r)) out h = λ told. inl h.0
audit_cut v image (Err (cause.Limit l)) out h = λ told. inl h.0

-- a text that is due with some end is due with this one
whole : (b text : List ℕ) (end : Result Done Cause) → IsAudited b text end → IsAudited b text (Ok done.Whole)
whole b text end d = (d.0, (d.1.0, (d.1.1.0, refl)))

audit_ends : (v : View) (image : List ℕ) (work : Work) → IsAudit v image work → AuditEnds v image work.end work.out
audit_ends v image work r =
    reads_out v image (ImageGives v.file image) (HasImage v.file image) (λ b. Judges (AuditGives b) (IsSoundImage b) (Writes (IsAudited b))) (AuditEnds v image) work
    (not_opened v image) (not_read v image)
    (λ b rest a n.
    judges_out (AuditGives b) (IsSoundImage b) (Writes (IsAudited b)) (AuditEnds v image) rest (λ e s. not_passed v image b e a s)
    (λ sound p.
    writes_out (IsAudited b) (AuditEnds v image) rest
    (λ text end d. subst (λ end. AuditEnds v image end text) (sym d.1.1.1) (refl, λ told. (b, (a told, (sound, whole b text end d)))))
    (λ e text end k d within s. text_cut v image e text k (λ told. (b, (a told, (sound, whole b text end d)))) within s)
    (λ told. inl refl) p) n)
    r

pub audits_end : AuditsEnd
audits_end v image work r = hands_out (IsAudit v image) (AuditEnds v image) work (λ rest n. audit_ends v image rest n) (audit_cut v image) r
