-- How a trace ends, end by end.
use Rattle.std.proofs.Common.{ℕ, ◌≤◌, inl, inr, List, [], length, take, Result, Ok, Err, refl, sym, subst, arith}
use Rattle.std.proofs.Math.Seq.{take-length}
use Rattle.shelf_traits.specs.Shelf.{View}
use Rattle.image_layout.specs.Fields.{wheel_parts_of}
use Rattle.command_words.specs.Options.{Options}
use Rattle.run_ends.specs.declared.cause.Done.{Done}
use Rattle.run_ends.specs.declared.cause.Cause.{Cause}
use Rattle.run_ends.specs.declared.cause.Cause.TheVariants as cause
use Rattle.run_ends.specs.Works.{Work, Told, Reads, Writes, StopsOpen, StopsRead, StopsWrite}
use Rattle.run_ends.proofs.Outcomes.{reads_out, writes_out, hands_out}
use Rattle.named_captures.specs.Captures.{HasCleanCapture, CleanGives}
use Rattle.image_commands.specs.Images.{HasImage, ImageGives}
use Rattle.image_commands.specs.Trace.{IsTraced, IsTrace}
use Rattle.image_commands.specs.TraceEnding.{GotTrace, TraceEnds, TracesEnd}

image_not_opened : (v : View) (m f : List ℕ) (o : Options) (e : Cause) → StopsOpen v m e → TraceEnds v m f o (Err e) []
image_not_opened v m f o cause.ReadFault s = (refl, λ told steady. inl (s told steady))
image_not_opened v m f o cause.Memory s = λ told. inl refl
image_not_opened v m f o cause.Usage s = absurd s
image_not_opened v m f o (cause.Refused r) s = absurd s
image_not_opened v m f o (cause.Limit l) s = absurd s
image_not_opened v m f o cause.WriteFault s = absurd s

image_not_read : (v : View) (m f : List ℕ) (o : Options) (e : Cause) → StopsRead v (ImageGives v.file m) e → TraceEnds v m f o (Err e) []
image_not_read v m f o cause.ReadFault s = (refl, λ told steady. absurd (s steady))
image_not_read v m f o cause.Memory s = λ told. inl refl
image_not_read v m f o cause.Usage s = absurd s
image_not_read v m f o (cause.Refused r) s = (refl, λ told. inl (s told))
image_not_read v m f o (cause.Limit l) s = (refl, λ told. inl (s told))
image_not_read v m f o cause.WriteFault s = absurd s

capture_not_opened : (v : View) (m f : List ℕ) (o : Options) (b : List ℕ) (e : Cause) → Told v (HasImage v.file m b) → StopsOpen v f e → TraceEnds v m f o (Err e) []
capture_not_opened v m f o b cause.ReadFault a s = (refl, λ told steady. inr (b, (a told, s told steady)))
capture_not_opened v m f o b cause.Memory a s = λ told. inl refl
capture_not_opened v m f o b cause.Usage a s = absurd s
capture_not_opened v m f o b (cause.Refused r) a s = absurd s
capture_not_opened v m f o b (cause.Limit l) a s = absurd s
capture_not_opened v m f o b cause.WriteFault a s = absurd s

capture_not_read : (v : View) (m f : List ℕ) (o : Options) (b : List ℕ) (e : Cause) → Told v (HasImage v.file m b) → StopsRead v (CleanGives v.file f (wheel_parts_of b) o) e → TraceEnds v m f o (Err e) []
capture_not_read v m f o b cause.ReadFault a s = (refl, λ told steady. absurd (s steady))
capture_not_read v m f o b cause.Memory a s = λ told. inl refl
capture_not_read v m f o b cause.Usage a s = absurd s
capture_not_read v m f o b (cause.Refused r) a s = (refl, λ told. inr (b, (a told, s told)))
capture_not_read v m f o b (cause.Limit l) a s = (refl, λ told. inr (b, (a told, s told)))
capture_not_read v m f o b cause.WriteFault a s = absurd s

lines_cut : (v : View) (m f : List ℕ) (o : Options) (e : Cause) (text : List ℕ) (k : ℕ) → Told v (GotTrace v.file m f o text) → k ≤ length text → StopsWrite e → TraceEnds v m f o (Err e) (take k text)
lines_cut v m f o cause.WriteFault text k a within s = λ told. inr (text, (k, (a told, (within, refl))))
lines_cut v m f o cause.Memory text k a within s = λ told. inr (text, (k, (a told, (within, refl))))
lines_cut v m f o cause.Usage text k a within s = absurd s
lines_cut v m f o cause.ReadFault text k a within s = absurd s
lines_cut v m f o (cause.Refused x) text k a within s = absurd s
lines_cut v m f o (cause.Limit l) text k a within s = absurd s

-- where out is not handed on, it got what it had
trace_cut : (v : View) (m f : List ℕ) (o : Options) (end : Result Done Cause) (out : List ℕ) → TraceEnds v m f o end out → TraceEnds v m f o (Err cause.WriteFault) out
trace_cut v m f o (Ok x) out h = λ told. inr (out, (length out, (h.1 told, (omega arith, sym (take-length out)))))
trace_cut v m f o (Err cause.ReadFault) out h = λ told. inl h.0
trace_cut v m f o (Err cause.WriteFault) out h = h
trace_cut v m f o (Err cause.Memory) out h = h
trace_cut v m f o (Err cause.Usage) out h = λ told. inl h.0
trace_cut v m f o (Err (cause.Refused r)) out h = λ told. inl h.0
trace_cut v m f o (Err (cause.Limit l)) out h = λ told. inl h.0

trace_ends : (v : View) (m f : List ℕ) (o : Options) (work : Work) → IsTrace v m f o work → TraceEnds v m f o work.end work.out
trace_ends v m f o work r =
    reads_out v m (ImageGives v.file m) (HasImage v.file m)
    (λ b. Reads v f (CleanGives v.file f (wheel_parts_of b) o) (HasCleanCapture v.file f (wheel_parts_of b) o) (λ c. Writes (IsTraced b c.instants))) (TraceEnds v m f o) work
    (image_not_opened v m f o) (image_not_read v m f o)
    (λ b rest a n.
    reads_out v f (CleanGives v.file f (wheel_parts_of b) o) (HasCleanCapture v.file f (wheel_parts_of b) o) (λ c. Writes (IsTraced b c.instants)) (TraceEnds v m f o) rest
    (λ e s. capture_not_opened v m f o b e a s) (λ e s. capture_not_read v m f o b e a s)
    (λ c last h p.
    writes_out (IsTraced b c.instants) (TraceEnds v m f o) last
    (λ text end d. subst (λ end. TraceEnds v m f o end text) (sym d.1) (refl, λ told. (b, (c, (record { image_file = a told; capture_file = h told }, (d.0, refl))))))
    (λ e text end k d within s. lines_cut v m f o e text k (λ told. (b, (c, (record { image_file = a told; capture_file = h told }, (d.0, refl))))) within s)
    (λ told. inl refl) p) n)
    r

pub traces_end : TracesEnd
traces_end v m f o work r = hands_out (IsTrace v m f o) (TraceEnds v m f o) work (λ rest n. trace_ends v m f o rest n) (trace_cut v m f o) r
