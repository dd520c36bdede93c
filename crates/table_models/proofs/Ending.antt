-- How work ends that begins with a model.
use Rattle.std.proofs.Common.{◌≡◌, ℕ, List, None, Some, Result, Err, sym, ◌∙◌, subst}
use Rattle.std.specs.Prelude.{IsTrue}
use Rattle.shelf_traits.specs.Shelf.{View}
use Rattle.wheel_types.specs.declared.parts.WheelParts.{WheelParts}
use Rattle.image_layout.specs.Fields.{wheel_parts_of}
use Rattle.table_images.specs.Images.{IsSoundImage}
use Rattle.run_ends.specs.declared.cause.Done.{Done}
use Rattle.run_ends.specs.declared.cause.Cause.{Cause}
use Rattle.run_ends.specs.declared.cause.Cause.TheVariants as cause
use Rattle.run_ends.specs.Works.{Work, Judges, StopsOpen, StopsRead}
use Rattle.run_ends.proofs.Completing.{reads_end, judges_end, judges_ready, open_not_usage, read_not_usage, judge_not_usage}
use Rattle.table_models.specs.Models.{HasModelImage, TableGives, NotSoundGives, HasModel, ReadsModel}
use Rattle.table_models.proofs.Ready.{table_is_own, table_gives_none, sound_gives_none}

-- over an accepted model and a steady shelf the work goes on with the model's wheel, or wants memory
pub model_ends : (P : Result Done Cause → Type 0) (v : View) (name : List ℕ) (w : WheelParts) (next : WheelParts → Work → Type 0) (work : Work) → IsTrue v.tells → IsTrue v.steady → HasModel v.file name w
    → P (Err cause.Memory) → ((rest : Work) → next w rest → P rest.end) → ReadsModel v name next work → P work.end
model_ends P v name w next work told steady h memory go r =
    reads_end v name (TableGives v.file name) (HasModelImage v.file name) (λ image. Judges (NotSoundGives image) (IsSoundImage image) (next (wheel_parts_of image))) P work opening reading
    (λ image rest a n.
    let own = table_is_own v.file name image w h (a told) in
    judges_ready (NotSoundGives image) (IsSoundImage image) (next (wheel_parts_of image)) P rest (sound_gives_none image own.sound) memory
    (λ k. go rest (subst (λ u. next u rest) own.wheel k)) n)
    r
  where
    opening : (e : Cause) → StopsOpen v name e → P (Err e)
    opening cause.ReadFault s = let gone : Some h.bytes ≡ None = sym h.holds.there ∙ s told steady in absurd (cc)
    opening cause.Memory s = memory
    opening cause.Usage s = absurd s
    opening (cause.Refused r) s = absurd s
    opening (cause.Limit l) s = absurd s
    opening cause.WriteFault s = absurd s

    reading : (e : Cause) → StopsRead v (TableGives v.file name) e → P (Err e)
    reading cause.ReadFault s = absurd (s steady)
    reading cause.Memory s = memory
    reading cause.Usage s = absurd s
    reading (cause.Refused r) s = absurd (table_gives_none v.file name w h (cause.Refused r) (s told))
    reading (cause.Limit l) s = absurd (table_gives_none v.file name w h (cause.Limit l) (s told))
    reading cause.WriteFault s = absurd s

not_cause : (e : Cause) → (e ≡ cause.Usage → ⊥) → ◌≡◌ {A = Result Done Cause} (Err e) (Err cause.Usage) → ⊥
not_cause e n is = let same : e ≡ cause.Usage = cc in n same

-- and it does not end for usage
pub model_not_usage : (v : View) (name : List ℕ) (next : WheelParts → Work → Type 0) (work : Work) → ((w : WheelParts) (rest : Work) → next w rest → rest.end ≡ Err cause.Usage → ⊥)
    → ReadsModel v name next work → work.end ≡ Err cause.Usage → ⊥
model_not_usage v name next work go r =
    reads_end v name (TableGives v.file name) (HasModelImage v.file name) (λ image. Judges (NotSoundGives image) (IsSoundImage image) (next (wheel_parts_of image))) (λ end. end ≡ Err cause.Usage → ⊥) work
    (λ e s. not_cause e (open_not_usage v name e s)) (λ e s. not_cause e (read_not_usage v (TableGives v.file name) e s))
    (λ image rest a n.
    judges_end (NotSoundGives image) (IsSoundImage image) (next (wheel_parts_of image)) (λ end. end ≡ Err cause.Usage → ⊥) rest (λ e s. not_cause e (judge_not_usage (NotSoundGives image) e s))
    (λ sound k. go (wheel_parts_of image) rest k) n)
    r
