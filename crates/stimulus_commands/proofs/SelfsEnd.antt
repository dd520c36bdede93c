-- How a self ends, end by end.
use Rattle.std.proofs.Common.{ℕ, ◌≤◌, inl, inr, List, [], length, take, Result, Ok, Err, refl, sym, subst, arith}
use Rattle.std.proofs.Math.Seq.{take-length}
use Rattle.shelf_traits.specs.Shelf.{View}
use Rattle.wheel_types.specs.declared.parts.WheelParts.{WheelParts}
use Rattle.run_ends.specs.declared.cause.Done.{Done}
use Rattle.run_ends.specs.declared.cause.Done.TheVariants as done
use Rattle.run_ends.specs.declared.cause.Cause.{Cause}
use Rattle.run_ends.specs.declared.cause.Cause.TheVariants as cause
use Rattle.run_ends.specs.Works.{Work, Told, Judges, Writes, StopsOpen, StopsRead, StopsJudge, StopsWrite}
use Rattle.run_ends.proofs.Outcomes.{reads_out, judges_out, writes_out, hands_out}
use Rattle.run_files.specs.Causes.{ModelGives}
use Rattle.run_files.specs.Files.{HasPlacedWheel}
use Rattle.table_commands.specs.States.{HasFewStates, FamilyGives}
use Rattle.stimulus_commands.specs.Stimuli.{HasStimulus, StimGives}
use Rattle.stimulus_commands.specs.SelfTest.{IsSelfTest, IsSelfTested}
use Rattle.stimulus_commands.specs.SelfEnding.{GotCounts, TestGives, SelfEnds, SelfsEnd}

not_opened : (v : View) (wheel : List ℕ) (seed gaps : ℕ) (e : Cause) → StopsOpen v wheel e → SelfEnds v wheel seed gaps (Err e) []
not_opened v wheel seed gaps cause.ReadFault s = (refl, λ told steady. s told steady)
not_opened v wheel seed gaps cause.Memory s = λ told. inl refl
not_opened v wheel seed gaps cause.Usage s = absurd s
not_opened v wheel seed gaps (cause.Refused r) s = absurd s
not_opened v wheel seed gaps (cause.Limit l) s = absurd s
not_opened v wheel seed gaps cause.WriteFault s = absurd s

not_read : (v : View) (wheel : List ℕ) (seed gaps : ℕ) (e : Cause) → StopsRead v (ModelGives v.file wheel) e → SelfEnds v wheel seed gaps (Err e) []
not_read v wheel seed gaps cause.ReadFault s = (refl, λ told steady. absurd (s steady))
not_read v wheel seed gaps cause.Memory s = λ told. inl refl
not_read v wheel seed gaps cause.Usage s = absurd s
not_read v wheel seed gaps (cause.Refused r) s = (refl, λ told. inl (s told))
not_read v wheel seed gaps (cause.Limit l) s = (refl, λ told. inl (s told))
not_read v wheel seed gaps cause.WriteFault s = absurd s

-- a judgement stops the work, for a cause that the wheel gives
not_passed : (v : View) (wheel : List ℕ) (seed gaps : ℕ) (w : WheelParts) (gives : Cause → Type 0) (e : Cause) → Told v (HasPlacedWheel v.file wheel w) → ((e : Cause) → gives e → TestGives w seed gaps e)
    → StopsJudge gives e → SelfEnds v wheel seed gaps (Err e) []
not_passed v wheel seed gaps w gives cause.Memory a told_so s = λ told. inl refl
not_passed v wheel seed gaps w gives (cause.Refused r) a told_so s = (refl, λ told. inr (w, (a told, told_so (cause.Refused r) s)))
not_passed v wheel seed gaps w gives (cause.Limit l) a told_so s = (refl, λ told. inr (w, (a told, told_so (cause.Limit l) s)))
not_passed v wheel seed gaps w gives cause.ReadFault a told_so s = absurd s
not_passed v wheel seed gaps w gives cause.Usage a told_so s = absurd s
not_passed v wheel seed gaps w gives cause.WriteFault a told_so s = absurd s

line_cut : (v : View) (wheel : List ℕ) (seed gaps : ℕ) (e : Cause) (text : List ℕ) (k : ℕ) → Told v (GotCounts v.file wheel seed gaps text) → k ≤ length text → StopsWrite e → SelfEnds v wheel seed gaps (Err e) (take k text)
line_cut v wheel seed gaps cause.WriteFault text k a within s = λ told. inr (text, (k, (a told, (within, refl))))
line_cut v wheel seed gaps cause.Memory text k a within s = λ told. inr (text, (k, (a told, (within, refl))))
line_cut v wheel seed gaps cause.Usage text k a within s = absurd s
line_cut v wheel seed gaps cause.ReadFault text k a within s = absurd s
line_cut v wheel seed gaps (cause.Refused x) text k a within s = absurd s
line_cut v wheel seed gaps (cause.Limit l) text k a within s = absurd s

-- where out is not handed on, it got what it had
self_cut : (v : View) (wheel : List ℕ) (seed gaps : ℕ) (end : Result Done Cause) (out : List ℕ) → SelfEnds v wheel seed gaps end out → SelfEnds v wheel seed gaps (Err cause.WriteFault) out
self_cut v wheel seed gaps (Ok x) out h = λ told. inr (out, (length out, (h.1 told, (omega arith, sym (take-length out)))))
self_cut v wheel seed gaps (Err cause.ReadFault) out h = λ told. inl h.0
self_cut v wheel seed gaps (Err cause.WriteFault) out h = h
self_cut v wheel seed gaps (Err cause.Memory) out h = h
self_cut v wheel seed gaps (Err cause.Usage) out h = λ told. inl h.0
self_cut v wheel seed gaps (Err (cause.Refused r)) out h = λ told. inl h.0
self_cut v wheel seed gaps (Err (cause.Limit l)) out h = λ told. inl h.0

-- a text that is due with some end is due with this one
whole : (w : WheelParts) (seed gaps : ℕ) (text : List ℕ) (end : Result Done Cause) → IsSelfTested w seed gaps text end → IsSelfTested w seed gaps text (Ok done.Whole)
whole w seed gaps text end d = (d.0, (d.1.0, (d.1.1.0, refl)))

self_ends : (v : View) (wheel : List ℕ) (seed gaps : ℕ) (work : Work) → IsSelfTest v wheel seed gaps work → SelfEnds v wheel seed gaps work.end work.out
self_ends v wheel seed gaps work r =
    reads_out v wheel (ModelGives v.file wheel) (HasPlacedWheel v.file wheel)
    (λ w. Judges (FamilyGives w) (HasFewStates w) (Judges (StimGives w seed gaps) (HasStimulus w seed gaps) (Writes (IsSelfTested w seed gaps)))) (SelfEnds v wheel seed gaps) work
    (not_opened v wheel seed gaps) (not_read v wheel seed gaps)
    (λ w rest a n.
    judges_out (FamilyGives w) (HasFewStates w) (Judges (StimGives w seed gaps) (HasStimulus w seed gaps) (Writes (IsSelfTested w seed gaps))) (SelfEnds v wheel seed gaps) rest
    (λ e s. not_passed v wheel seed gaps w (FamilyGives w) e a (λ x h. inl h) s)
    (λ few p.
    judges_out (StimGives w seed gaps) (HasStimulus w seed gaps) (Writes (IsSelfTested w seed gaps)) (SelfEnds v wheel seed gaps) rest
    (λ e s. not_passed v wheel seed gaps w (StimGives w seed gaps) e a (λ x h. inr (few, h)) s)
    (λ has q.
    writes_out (IsSelfTested w seed gaps) (SelfEnds v wheel seed gaps) rest
    (λ text end d. subst (λ end. SelfEnds v wheel seed gaps end text) (sym d.1.1.1) (refl, λ told. (w, (a told, whole w seed gaps text end d))))
    (λ e text end k d within s. line_cut v wheel seed gaps e text k (λ told. (w, (a told, whole w seed gaps text end d))) within s)
    (λ told. inl refl) q) p) n)
    r

pub selfs_end : SelfsEnd
selfs_end v wheel seed gaps work r = hands_out (IsSelfTest v wheel seed gaps) (SelfEnds v wheel seed gaps) work (λ rest n. self_ends v wheel seed gaps rest n) (self_cut v wheel seed gaps) r
