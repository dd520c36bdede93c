-- How a replay with a certificate ends, by its parts.
use Rattle.std.proofs.Common.{◌≡◌, ℕ, ◌⊎◌, inl, inr, List, [], None, Some, unwrap_or, Result, Err, sym, ◌∙◌, subst}
use Rattle.std.specs.Prelude.{IsTrue}
use Rattle.shelf_traits.specs.Shelf.{View}
use Rattle.wheel_types.specs.declared.parts.WheelParts.{WheelParts}
use Rattle.capture_core.specs.declared.capture.Capture.{Capture}
use Rattle.capture_core.specs.declared.capture.End.{End}
use Rattle.capture_core.specs.declared.capture.End.TheVariants.{Clean, Csv, Vcd}
use Rattle.command_words.specs.Options.{Options}
use Rattle.run_ends.specs.declared.cause.Cause.{Cause}
use Rattle.run_ends.specs.declared.cause.Cause.TheVariants as cause
use Rattle.run_ends.specs.declared.cause.Done.{Done}
use Rattle.run_ends.specs.Works.{Work, Told, StopsOpen, StopsRead, StopsWrite, stopped, after}
use Rattle.run_ends.specs.Stages.{Fellows, Closes, Creates, Takes, Stopped, write_slot, lines_text, beside_text, marks_beside}
use Rattle.run_ends.proofs.Completing.{opens_end, closes_end, open_not_usage, read_not_usage, write_not_usage}
use Rattle.run_files.specs.Causes.{FileGives, ended_by}
use Rattle.run_files.proofs.Ready.{file_gives_none}
use Rattle.table_models.specs.Models.{HasModel}
use Rattle.table_models.proofs.Ending.{model_ends, model_not_usage}
use Rattle.named_captures.specs.Captures.{HasNamedCapture}
use Rattle.named_captures.proofs.FileNames.{file_has_one_capture}
use Rattle.certified_replay.specs.Certified.{WritesCertified, IsCertifiedPast, IsCertifiedOver, IsCertified}
use Rattle.certified_replay.proofs.Certifying.{AreDue}

-- the ways in which the work past the model can end
record Ends (v : View) (w : WheelParts) (capture : List ℕ) (o : Options) (P : Result Done Cause → Type 0) : Type 0 where
  pub opening : (e : Cause) → StopsOpen v capture e → P (Err e)
  pub reading : (e : Cause) → StopsRead v (FileGives v.file capture) e → P (Err e)
  pub writing : (e : Cause) → StopsWrite e → P (Err e)
  pub closing : P (Err cause.Memory)
  pub done : (c : Capture) → Told v (HasNamedCapture v.file capture w o c) → P (ended_by c.end)

writes_ends : (w : WheelParts) (c : Capture) (P : Result Done Cause → Type 0) (work : Work) → ((e : Cause) → StopsWrite e → P (Err e)) → P (ended_by c.end) → WritesCertified w c work → P work.end
writes_ends w c P work writing done (writes, back) = by writes.went
  where
    by : ((all : List Fellows) × ((end : Result Done Cause) × (AreDue w c all end × (work ≡ record { opened = []; out = lines_text all; made = Some (beside_text all); marks = marks_beside all; tails = []; end = end })))) ⊎ Stopped (AreDue w c) work → P work.end
    by (inl (all, (end, (due, is)))) = subst (λ (k : Work). P k.end) (sym is) (subst P (sym due.1) done)
    by (inr s) = subst (λ (k : Work). P k.end) (sym s.came) (writing s.why s.stops)

takes_ends : (v : View) (w : WheelParts) (capture : List ℕ) (o : Options) (P : Result Done Cause → Type 0) (work : Work) → Ends v w capture o P → Takes v (FileGives v.file capture) (HasNamedCapture v.file capture w o) (λ c. WritesCertified w c) work → P work.end
takes_ends v w capture o P work ends r = by r.went
  where
    by : ((e : Cause) × (StopsRead v (FileGives v.file capture) e × (work ≡ stopped [] e))) ⊎ ((c : Capture) × (Told v (HasNamedCapture v.file capture w o c) × WritesCertified w c work)) → P work.end
    by (inl (e, (s, is))) = subst (λ (k : Work). P k.end) (sym is) (ends.reading e s)
    by (inr (c, (a, n))) = writes_ends w c P work ends.writing (ends.done c a) n

creates_ends : (v : View) (w : WheelParts) (capture cert : List ℕ) (o : Options) (P : Result Done Cause → Type 0) (work : Work) → Ends v w capture o P
    → Creates cert (Takes v (FileGives v.file capture) (HasNamedCapture v.file capture w o) (λ c. WritesCertified w c)) work → P work.end
creates_ends v w capture cert o P work ends r = by r.went
  where
    by : ((e : Cause) × (StopsWrite e × (work ≡ stopped [] e))) ⊎ ((rest : Work) × (Takes v (FileGives v.file capture) (HasNamedCapture v.file capture w o) (λ c. WritesCertified w c) rest × (work ≡ record (after (write_slot cert) rest) { made = Some (unwrap_or rest.made []) })))
        → P work.end
    by (inl (e, (s, is))) = subst (λ (k : Work). P k.end) (sym is) (ends.writing e s)
    by (inr (rest, (n, is))) = subst (λ (k : Work). P k.end) (sym is) (takes_ends v w capture o P rest ends n)

over_ends : (v : View) (tails : List ℕ → List ℕ) (w : WheelParts) (capture cert : List ℕ) (o : Options) (P : Result Done Cause → Type 0) (work : Work) → Ends v w capture o P → IsCertifiedOver v tails w capture cert o work → P work.end
over_ends v tails w capture cert o P work ends r =
    opens_end v capture (Closes tails (IsCertifiedPast v w capture cert o)) P work ends.opening
    (λ rest n. closes_end tails (IsCertifiedPast v w capture cert o) P rest (λ more m. creates_ends v w capture cert o P more ends m) ends.closing n) r

-- over accepted files and a steady shelf it ends as the capture does, or wants memory, or a write fails
pub certified_ends : (P : Result Done Cause → Type 0) (v : View) (tails : List ℕ → List ℕ) (model capture cert : List ℕ) (o : Options) (w : WheelParts) (c : Capture) (work : Work) → IsTrue v.tells → IsTrue v.steady → HasModel v.file model w
    → HasNamedCapture v.file capture w o c → P (ended_by c.end) → P (Err cause.Memory) → P (Err cause.WriteFault) → IsCertified v tails model capture cert o work → P work.end
certified_ends P v tails model capture cert o w c work told steady m k done memory fault r =
    model_ends P v model w (λ w. IsCertifiedOver v tails w capture cert o) work told steady m memory
    (λ rest n. over_ends v tails w capture cert o P rest (record { opening = opening; reading = reading; writing = writing; closing = memory; done = λ d a. subst (λ (e : Capture). P (ended_by e.end)) (sym (file_has_one_capture v.file capture w o d c (a told) k)) done }) n) r
  where
    opening : (e : Cause) → StopsOpen v capture e → P (Err e)
    opening cause.ReadFault s = let gone : Some k.bytes ≡ None = sym k.holds.there ∙ s told steady in absurd (cc)
    opening cause.Memory s = memory
    opening cause.Usage s = absurd s
    opening (cause.Refused r) s = absurd s
    opening (cause.Limit l) s = absurd s
    opening cause.WriteFault s = absurd s

    reading : (e : Cause) → StopsRead v (FileGives v.file capture) e → P (Err e)
    reading cause.ReadFault s = absurd (s steady)
    reading cause.Memory s = memory
    reading cause.Usage s = absurd s
    reading (cause.Refused r) s = absurd (file_gives_none v.file capture k.bytes k.holds (cause.Refused r) (s told))
    reading (cause.Limit l) s = absurd (file_gives_none v.file capture k.bytes k.holds (cause.Limit l) (s told))
    reading cause.WriteFault s = absurd s

    writing : (e : Cause) → StopsWrite e → P (Err e)
    writing cause.WriteFault s = fault
    writing cause.Memory s = memory
    writing cause.Usage s = absurd s
    writing cause.ReadFault s = absurd s
    writing (cause.Refused r) s = absurd s
    writing (cause.Limit l) s = absurd s

ended_not_usage : (end : End) → ended_by end ≡ Err cause.Usage → ⊥
ended_not_usage Clean is = cc
ended_not_usage (Csv fault) is = cc
ended_not_usage (Vcd fault) is = cc

not_cause : (e : Cause) → (e ≡ cause.Usage → ⊥) → ◌≡◌ {A = Result Done Cause} (Err e) (Err cause.Usage) → ⊥
not_cause e n is = let same : e ≡ cause.Usage = cc in n same

-- it does not end for usage
pub certified_not_usage : (v : View) (tails : List ℕ → List ℕ) (model capture cert : List ℕ) (o : Options) (work : Work) → IsCertified v tails model capture cert o work → work.end ≡ Err cause.Usage → ⊥
certified_not_usage v tails model capture cert o work r =
    model_not_usage v model (λ w. IsCertifiedOver v tails w capture cert o) work
    (λ w rest n.
    over_ends v tails w capture cert o (λ end. end ≡ Err cause.Usage → ⊥) rest (record {
      opening = λ e s. not_cause e (open_not_usage v capture e s);
      reading = λ e s. not_cause e (read_not_usage v (FileGives v.file capture) e s);
      writing = λ e s. not_cause e (write_not_usage e s);
      closing = λ is. cc;
      done = λ c b. ended_not_usage c.end;
    }) n)
    r
