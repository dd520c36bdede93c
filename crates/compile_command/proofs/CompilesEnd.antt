-- How a compile ends, end by end.
use Rattle.std.proofs.Common.{◌≡◌, ℕ, ◌⊎◌, inl, inr, List, [], length, take, Option, None, Some, Result, Ok, Err, refl, sym, ap, ◌∙◌, subst, arith}
use Rattle.std.proofs.Math.Seq.{take-length}
use Rattle.shelf_traits.specs.Shelf.{View}
use Rattle.wheel_types.specs.declared.parts.WheelParts.{WheelParts}
use Rattle.table_images.specs.Images.{IsCompiled}
use Rattle.run_ends.specs.declared.cause.Done.{Done}
use Rattle.run_ends.specs.declared.cause.Cause.{Cause}
use Rattle.run_ends.specs.declared.cause.Cause.TheVariants as cause
use Rattle.run_ends.specs.Works.{Work, Told, Judges, Went, StopsOpen, StopsRead, StopsJudge, StopsWrite, stopped}
use Rattle.run_ends.specs.Stages.{Makes, HasMade}
use Rattle.run_files.specs.Causes.{ModelGives}
use Rattle.run_files.specs.Files.{HasPlacedWheel}
use Rattle.table_commands.specs.States.{HasFewStates, FamilyGives, given_limit}
use Rattle.compile_command.specs.Compile.{IsCompile}
use Rattle.compile_command.specs.Ending.{IsImageOf, GotImageFront, CompileEnds, CompilesEnd}

-- out got nothing, and the file what the end says
abbrev pub Ends : View → (wheel : List ℕ) → Work → Type 0
Ends v wheel work = (work.out ≡ []) × CompileEnds v wheel work.end work.made

not_opened : (v : View) (wheel : List ℕ) (e : Cause) → StopsOpen v wheel e → CompileEnds v wheel (Err e) None
not_opened v wheel cause.ReadFault s = (refl, s)
not_opened v wheel cause.Memory s = inl refl
not_opened v wheel cause.Usage s = absurd s
not_opened v wheel (cause.Refused r) s = absurd s
not_opened v wheel (cause.Limit l) s = absurd s
not_opened v wheel cause.WriteFault s = absurd s

not_read : (v : View) (wheel : List ℕ) (e : Cause) → StopsRead v (ModelGives v.file wheel) e → CompileEnds v wheel (Err e) None
not_read v wheel cause.ReadFault s = (refl, λ told steady. absurd (s steady))
not_read v wheel cause.Memory s = inl refl
not_read v wheel cause.Usage s = absurd s
not_read v wheel (cause.Refused r) s = (refl, λ told. inl (s told))
not_read v wheel (cause.Limit l) s = (refl, λ told. inl (s told))
not_read v wheel cause.WriteFault s = absurd s

not_passed : (v : View) (wheel : List ℕ) (w : WheelParts) (e : Cause) → Told v (HasPlacedWheel v.file wheel w) → StopsJudge (FamilyGives w) e → CompileEnds v wheel (Err e) None
not_passed v wheel w cause.Memory a s = inl refl
not_passed v wheel w (cause.Limit l) a s = (refl, λ told. inr (w, (a told, s)))
not_passed v wheel w (cause.Refused r) a s = (refl, λ told. inr (w, (a told, s)))
not_passed v wheel w cause.Usage a s = absurd s
not_passed v wheel w cause.ReadFault a s = absurd s
not_passed v wheel w cause.WriteFault a s = absurd s

not_written : (v : View) (wheel : List ℕ) (e : Cause) (made : Option (List ℕ)) → StopsWrite e → GotImageFront v wheel made → CompileEnds v wheel (Err e) made
not_written v wheel cause.WriteFault made s front = front
not_written v wheel cause.Memory made s front = front
not_written v wheel cause.Usage made s front = absurd s
not_written v wheel cause.ReadFault made s front = absurd s
not_written v wheel (cause.Refused r) made s front = absurd s
not_written v wheel (cause.Limit l) made s front = absurd s

image_made : (v : View) (wheel image : List ℕ) (w : WheelParts) (work : Work) → Told v (HasPlacedWheel v.file wheel w) → Makes image (IsCompiled w given_limit) work → Ends v wheel work
image_made v wheel image w work a m = by m.made
  where
    is_image : IsImageOf v wheel m.text
    is_image told = (w, (a told, m.is_due))

    by : HasMade image m.text work → Ends v wheel work
    by (inl is) = subst (Ends v wheel) (sym is) (refl, (refl, (m.text, (is_image, refl))))
    by (inr (inl (e, (k, (s, (within, is)))))) =
        subst (Ends v wheel) (sym is) (refl, not_written v wheel e (Some (take k m.text)) s (inr (m.text, (k, (is_image, (within, refl))))))
    by (inr (inr (e, (s, is)))) = subst (Ends v wheel) (sym is) (refl, not_written v wheel e None s (inl refl))

judged : (v : View) (wheel image : List ℕ) (w : WheelParts) (work : Work) → Told v (HasPlacedWheel v.file wheel w) → Judges (FamilyGives w) (HasFewStates w) (Makes image (IsCompiled w given_limit)) work
    → Ends v wheel work
judged v wheel image w work a j = by j.judged
  where
    by : ((e : Cause) × (StopsJudge (FamilyGives w) e × (work ≡ stopped [] e))) ⊎ (HasFewStates w × Makes image (IsCompiled w given_limit) work) → Ends v wheel work
    by (inl (e, (s, is))) = subst (Ends v wheel) (sym is) (refl, not_passed v wheel w e a s)
    by (inr (few, m)) = image_made v wheel image w work a m

compiled : (v : View) (wheel image : List ℕ) (work : Work) → IsCompile v wheel image work → Ends v wheel work
compiled v wheel image work r = by r.went
  where
    by : Went v wheel (ModelGives v.file wheel) (HasPlacedWheel v.file wheel) (λ w. Judges (FamilyGives w) (HasFewStates w) (Makes image (IsCompiled w given_limit))) work → Ends v wheel work
    by (inl (e, (s, is))) = subst (Ends v wheel) (sym is) (refl, not_opened v wheel e s)
    by (inr (inl (e, (taken, (s, is))))) = subst (Ends v wheel) (sym is) (refl, not_read v wheel e s)
    by (inr (inr (w, (taken, (rest, (a, (n, is))))))) = subst (Ends v wheel) (sym is) (judged v wheel image w rest a n)

-- where out is not handed on, the file has what it had
cut : (v : View) (wheel : List ℕ) (end : Result Done Cause) (made : Option (List ℕ)) → CompileEnds v wheel end made → GotImageFront v wheel made
cut v wheel (Ok x) made (is, (bytes, (image, got))) = inr (bytes, (length bytes, (image, (omega arith, got ∙ ap Some (sym (take-length bytes))))))
cut v wheel (Err cause.ReadFault) made h = inl h.0
cut v wheel (Err cause.WriteFault) made h = h
cut v wheel (Err cause.Memory) made h = h
cut v wheel (Err cause.Usage) made h = inl h.0
cut v wheel (Err (cause.Refused r)) made h = inl h.0
cut v wheel (Err (cause.Limit l)) made h = inl h.0

pub all_end : CompilesEnd
all_end v wheel image work (inl n) = compiled v wheel image work n
all_end v wheel image work (inr (rest, (n, is))) = let before = compiled v wheel image rest n in subst (Ends v wheel) (sym is) (before.0, cut v wheel rest.end rest.made before.1)
