-- How a size ends, end by end.
use Rattle.std.proofs.Common.{ℕ, ◌≤◌, inl, inr, List, [], length, take, Result, Ok, Err, refl, sym, subst, arith}
use Rattle.std.proofs.Math.Seq.{take-length}
use Rattle.shelf_traits.specs.Shelf.{View}
use Rattle.wheel_types.specs.declared.parts.WheelParts.{WheelParts}
use Rattle.run_ends.specs.declared.cause.Done.{Done}
use Rattle.run_ends.specs.declared.cause.Done.TheVariants as done
use Rattle.run_ends.specs.declared.cause.Cause.{Cause}
use Rattle.run_ends.specs.declared.cause.Cause.TheVariants as cause
use Rattle.run_ends.specs.Works.{Work, Told, Judges, Writes, StopsOpen, StopsRead, StopsJudge, StopsWrite}
use Rattle.run_ends.proofs.Outcomes.{reads_out, judges_out, writes_out, hands_out}
use Rattle.run_files.specs.Causes.{ModelGives}
use Rattle.run_files.specs.Files.{HasPlacedWheel}
use Rattle.table_commands.specs.States.{HasFewStates, FamilyGives}
use Rattle.table_commands.specs.Size.{IsSize, IsSized}
use Rattle.table_commands.specs.Ending.{GotSizes, SizeEnds, SizesEnd}

not_opened : (v : View) (wheel : List ℕ) (e : Cause) → StopsOpen v wheel e → SizeEnds v wheel (Err e) []
not_opened v wheel cause.ReadFault s = (refl, λ told steady. s told steady)
not_opened v wheel cause.Memory s = λ told. inl refl
not_opened v wheel cause.Usage s = absurd s
not_opened v wheel (cause.Refused r) s = absurd s
not_opened v wheel (cause.Limit l) s = absurd s
not_opened v wheel cause.WriteFault s = absurd s

not_read : (v : View) (wheel : List ℕ) (e : Cause) → StopsRead v (ModelGives v.file wheel) e → SizeEnds v wheel (Err e) []
not_read v wheel cause.ReadFault s = (refl, λ told steady. absurd (s steady))
not_read v wheel cause.Memory s = λ told. inl refl
not_read v wheel cause.Usage s = absurd s
not_read v wheel (cause.Refused r) s = (refl, λ told. inl (s told))
not_read v wheel (cause.Limit l) s = (refl, λ told. inl (s told))
not_read v wheel cause.WriteFault s = absurd s

not_passed : (v : View) (wheel : List ℕ) (w : WheelParts) (e : Cause) → Told v (HasPlacedWheel v.file wheel w) → StopsJudge (FamilyGives w) e → SizeEnds v wheel (Err e) []
not_passed v wheel w cause.Memory a s = λ told. inl refl
not_passed v wheel w (cause.Refused r) a s = (refl, λ told. inr (w, (a told, s)))
not_passed v wheel w (cause.Limit l) a s = (refl, λ told. inr (w, (a told, s)))
not_passed v wheel w cause.ReadFault a s = absurd s
not_passed v wheel w cause.Usage a s = absurd s
not_passed v wheel w cause.WriteFault a s = absurd s

line_cut : (v : View) (wheel : List ℕ) (e : Cause) (text : List ℕ) (k : ℕ) → Told v (GotSizes v.file wheel text) → k ≤ length text → StopsWrite e → SizeEnds v wheel (Err e) (take k text)
line_cut v wheel cause.WriteFault text k a within s = λ told. inr (text, (k, (a told, (within, refl))))
line_cut v wheel cause.Memory text k a within s = λ told. inr (text, (k, (a told, (within, refl))))
line_cut v wheel cause.Usage text k a within s = absurd s
line_cut v wheel cause.ReadFault text k a within s = absurd s
line_cut v wheel (cause.Refused x) text k a within s = absurd s
line_cut v wheel (cause.Limit l) text k a within s = absurd s

-- where out is not handed on, it got what it had
size_cut : (v : View) (wheel : List ℕ) (end : Result Done Cause) (out : List ℕ) → SizeEnds v wheel end out → SizeEnds v wheel (Err cause.WriteFault) out
size_cut v wheel (Ok x) out h = λ told. inr (out, (length out, (h.1 told, (omega arith, sym (take-length out)))))
size_cut v wheel (Err cause.ReadFault) out h = λ told. inl h.0
size_cut v wheel (Err cause.WriteFault) out h = h
size_cut v wheel (Err cause.Memory) out h = h
size_cut v wheel (Err cause.Usage) out h = λ told. inl h.0
size_cut v wheel (Err (cause.Refused r)) out h = λ told. inl h.0
size_cut v wheel (Err (cause.Limit l)) out h = λ told. inl h.0

-- a text that is due with some end is due with this one
whole : (w : WheelParts) (text : List ℕ) (end : Result Done Cause) → IsSized w text end → IsSized w text (Ok done.Whole)
whole w text end d = (d.0, (d.1.0, (d.1.1.0, refl)))

size_ends : (v : View) (wheel : List ℕ) (work : Work) → IsSize v wheel work → SizeEnds v wheel work.end work.out
size_ends v wheel work r =
    reads_out v wheel (ModelGives v.file wheel) (HasPlacedWheel v.file wheel) (λ w. Judges (FamilyGives w) (HasFewStates w) (Writes (IsSized w))) (SizeEnds v wheel) work
    (not_opened v wheel) (not_read v wheel)
    (λ w rest a n.
    judges_out (FamilyGives w) (HasFewStates w) (Writes (IsSized w)) (SizeEnds v wheel) rest (λ e s. not_passed v wheel w e a s)
    (λ few p.
    writes_out (IsSized w) (SizeEnds v wheel) rest
    (λ text end d. subst (λ end. SizeEnds v wheel end text) (sym d.1.1.1) (refl, λ told. (w, (a told, whole w text end d))))
    (λ e text end k d within s. line_cut v wheel e text k (λ told. (w, (a told, whole w text end d))) within s)
    (λ told. inl refl) p) n)
    r

pub sizes_end : SizesEnd
sizes_end v wheel work r = hands_out (IsSize v wheel) (SizeEnds v wheel) work (λ rest n. size_ends v wheel rest n) (size_cut v wheel) r
