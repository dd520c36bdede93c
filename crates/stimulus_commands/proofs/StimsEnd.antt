-- How a stim ends, end by end.
use Rattle.std.proofs.Common.{◌≡◌, ℕ, ◌⊎◌, inl, inr, List, [], length, take, Option, None, Some, Result, Ok, Err, refl, sym, ap, ◌∙◌, subst, arith}
use Rattle.std.proofs.Math.Seq.{take-length}
use Rattle.shelf_traits.specs.Shelf.{View}
use Rattle.wheel_types.specs.declared.parts.WheelParts.{WheelParts}
use Rattle.run_ends.specs.declared.cause.Done.{Done}
use Rattle.run_ends.specs.declared.cause.Cause.{Cause}
use Rattle.run_ends.specs.declared.cause.Cause.TheVariants as cause
use Rattle.run_ends.specs.Works.{Work, Told, Judges, Went, StopsOpen, StopsRead, StopsJudge, StopsWrite, stopped}
use Rattle.run_ends.specs.Stages.{Makes, HasMade}
use Rattle.run_files.specs.Causes.{WheelGives}
use Rattle.run_files.specs.Files.{HasWheel}
use Rattle.stimulus_commands.specs.Stimuli.{HasStimulus, StimGives}
use Rattle.stimulus_commands.specs.Stim.{IsStim, IsStimText}
use Rattle.stimulus_commands.specs.Ending.{Order, IsTextOf, GotTextFront, StimEnds, StimsEnd}

-- out got nothing, and the file what the end says
abbrev pub Ends : View → (wheel : List ℕ) → Order → Work → Type 0
Ends v wheel o work = (work.out ≡ []) × StimEnds v wheel o work.end work.made

-- the text that is due for a wheel, and its judgement
abbrev due : Order → WheelParts → (text : List ℕ) → Type 0
due o w = IsStimText w o.form o.seed o.gaps

abbrev judges : Order → (file : List ℕ) → WheelParts → Work → Type 0
judges o file w = Judges (StimGives w o.seed o.gaps) (HasStimulus w o.seed o.gaps) (Makes file (due o w))

not_opened : (v : View) (wheel : List ℕ) (o : Order) (e : Cause) → StopsOpen v wheel e → StimEnds v wheel o (Err e) None
not_opened v wheel o cause.ReadFault s = (refl, s)
not_opened v wheel o cause.Memory s = inl refl
not_opened v wheel o cause.Usage s = absurd s
not_opened v wheel o (cause.Refused r) s = absurd s
not_opened v wheel o (cause.Limit l) s = absurd s
not_opened v wheel o cause.WriteFault s = absurd s

not_read : (v : View) (wheel : List ℕ) (o : Order) (e : Cause) → StopsRead v (WheelGives v.file wheel) e → StimEnds v wheel o (Err e) None
not_read v wheel o cause.ReadFault s = (refl, λ told steady. absurd (s steady))
not_read v wheel o cause.Memory s = inl refl
not_read v wheel o cause.Usage s = absurd s
not_read v wheel o (cause.Refused r) s = (refl, λ told. inl (s told))
not_read v wheel o (cause.Limit l) s = (refl, λ told. inl (s told))
not_read v wheel o cause.WriteFault s = absurd s

not_passed : (v : View) (wheel : List ℕ) (o : Order) (w : WheelParts) (e : Cause) → Told v (HasWheel v.file wheel w) → StopsJudge (StimGives w o.seed o.gaps) e → StimEnds v wheel o (Err e) None
not_passed v wheel o w cause.Memory a s = inl refl
not_passed v wheel o w (cause.Limit l) a s = (refl, λ told. inr (w, (a told, s)))
not_passed v wheel o w (cause.Refused r) a s = (refl, λ told. inr (w, (a told, s)))
not_passed v wheel o w cause.Usage a s = absurd s
not_passed v wheel o w cause.ReadFault a s = absurd s
not_passed v wheel o w cause.WriteFault a s = absurd s

not_written : (v : View) (wheel : List ℕ) (o : Order) (e : Cause) (made : Option (List ℕ)) → StopsWrite e → GotTextFront v wheel o made → StimEnds v wheel o (Err e) made
not_written v wheel o cause.WriteFault made s front = front
not_written v wheel o cause.Memory made s front = front
not_written v wheel o cause.Usage made s front = absurd s
not_written v wheel o cause.ReadFault made s front = absurd s
not_written v wheel o (cause.Refused r) made s front = absurd s
not_written v wheel o (cause.Limit l) made s front = absurd s

text_made : (v : View) (wheel file : List ℕ) (o : Order) (w : WheelParts) (work : Work) → Told v (HasWheel v.file wheel w) → Makes file (due o w) work → Ends v wheel o work
text_made v wheel file o w work a m = by m.made
  where
    is_text : IsTextOf v wheel o m.text
    is_text told = (w, (a told, m.is_due))

    by : HasMade file m.text work → Ends v wheel o work
    by (inl is) = subst (Ends v wheel o) (sym is) (refl, (refl, (m.text, (is_text, refl))))
    by (inr (inl (e, (k, (s, (within, is)))))) =
        subst (Ends v wheel o) (sym is) (refl, not_written v wheel o e (Some (take k m.text)) s (inr (m.text, (k, (is_text, (within, refl))))))
    by (inr (inr (e, (s, is)))) = subst (Ends v wheel o) (sym is) (refl, not_written v wheel o e None s (inl refl))

judged : (v : View) (wheel file : List ℕ) (o : Order) (w : WheelParts) (work : Work) → Told v (HasWheel v.file wheel w) → judges o file w work → Ends v wheel o work
judged v wheel file o w work a j = by j.judged
  where
    by : ((e : Cause) × (StopsJudge (StimGives w o.seed o.gaps) e × (work ≡ stopped [] e))) ⊎ (HasStimulus w o.seed o.gaps × Makes file (due o w) work) → Ends v wheel o work
    by (inl (e, (s, is))) = subst (Ends v wheel o) (sym is) (refl, not_passed v wheel o w e a s)
    by (inr (has, m)) = text_made v wheel file o w work a m

drawn : (v : View) (wheel file : List ℕ) (o : Order) (work : Work) → IsStim v wheel o.form o.seed o.gaps file work → Ends v wheel o work
drawn v wheel file o work r = by r.went
  where
    by : Went v wheel (WheelGives v.file wheel) (HasWheel v.file wheel) (judges o file) work → Ends v wheel o work
    by (inl (e, (s, is))) = subst (Ends v wheel o) (sym is) (refl, not_opened v wheel o e s)
    by (inr (inl (e, (taken, (s, is))))) = subst (Ends v wheel o) (sym is) (refl, not_read v wheel o e s)
    by (inr (inr (w, (taken, (rest, (a, (n, is))))))) = subst (Ends v wheel o) (sym is) (judged v wheel file o w rest a n)

-- where out is not handed on, the file has what it had
cut : (v : View) (wheel : List ℕ) (o : Order) (end : Result Done Cause) (made : Option (List ℕ)) → StimEnds v wheel o end made → GotTextFront v wheel o made
cut v wheel o (Ok x) made (is, (bytes, (text, got))) = inr (bytes, (length bytes, (text, (omega arith, got ∙ ap Some (sym (take-length bytes))))))
cut v wheel o (Err cause.ReadFault) made h = inl h.0
cut v wheel o (Err cause.WriteFault) made h = h
cut v wheel o (Err cause.Memory) made h = h
cut v wheel o (Err cause.Usage) made h = inl h.0
cut v wheel o (Err (cause.Refused r)) made h = inl h.0
cut v wheel o (Err (cause.Limit l)) made h = inl h.0

pub stims_end : StimsEnd
stims_end v wheel file form seed gaps work (inl n) = drawn v wheel file (record { form = form; seed = seed; gaps = gaps }) work n
stims_end v wheel file form seed gaps work (inr (rest, (n, is))) =
    let o : Order = record { form = form; seed = seed; gaps = gaps } in
    let before = drawn v wheel file o rest n in
    subst (Ends v wheel o) (sym is) (before.0, cut v wheel o rest.end rest.made before.1)
