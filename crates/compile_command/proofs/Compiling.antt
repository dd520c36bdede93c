-- How a compile stops, and when it is done.
use Rattle.std.proofs.Common.{◌≡◌, ℕ, inr, List, [], Some, Result, Ok, Err}
use Rattle.std.specs.Prelude.{IsTrue}
use Rattle.shelf_traits.specs.Shelf.{View}
use Rattle.wheel_types.specs.declared.parts.WheelParts.{WheelParts}
use Rattle.subset_build.specs.Limit.{effective_limit}
use Rattle.subset_build.proofs.Reached.{not_more}
use Rattle.table_images.specs.Images.{IsCompiled, table_of}
use Rattle.run_ends.specs.declared.cause.Done.{Done}
use Rattle.run_ends.specs.declared.cause.Done.TheVariants as done
use Rattle.run_ends.specs.declared.cause.Cause.{Cause}
use Rattle.run_ends.specs.declared.cause.Cause.TheVariants as cause
use Rattle.run_ends.specs.declared.cause.Limit.TheVariants as limit
use Rattle.run_ends.specs.Works.{Work, Told, Judges, StopsWrite}
use Rattle.run_ends.specs.Stages.{Makes}
use Rattle.run_ends.specs.Loads.{HasRead}
use Rattle.run_ends.specs.Serving.{Served, Stream}
use Rattle.run_ends.proofs.Loading.{stays}
use Rattle.run_ends.proofs.Serving.{stops, goes_on, judged_out}
use Rattle.run_ends.proofs.Completing.{reads_ready, judges_ready, judges_end, makes_end, reads_not_usage, judge_not_usage, write_not_usage}
use Rattle.run_files.specs.Causes.{ModelGives}
use Rattle.run_files.specs.Files.{HasWheel, HasPlacedWheel}
use Rattle.run_files.proofs.Ready.{model_gives_none, file_has_one_wheel}
use Rattle.table_commands.proofs.OneFamily.{family_gives_none}
use Rattle.table_commands.specs.States.{HasFewStates, FamilyGives, given_limit}
use Rattle.compile_command.specs.Compile.{HasNoImage, IsCompile}

-- a wheel that has an image has few enough states
pub few_states : (w : WheelParts) (b : List ℕ) → IsCompiled w given_limit b → HasFewStates w
few_states w b c = record {
  alphabet = c.alphabet;
  own = c.of_wheel;
  few = not_more c.alphabet (effective_limit c.alphabet given_limit) (table_of b).states c.sound.family c.within;
}

-- a wheel that has none ends the work
pub no_image : (v u : View) (wheel image : List ℕ) (w : WheelParts) (out : Stream) (e : Cause) → HasRead v u wheel → Told v (HasWheel v.file wheel w) → u.faults_in ≡ v.faults_in → HasNoImage w e
    → Served (IsCompile v wheel image) (Some image) v u out out [] (Err e)
no_image v u wheel image w out (cause.Limit limit.Places) read has same many =
    stops _ _ _ _ _ _ _ _ _ (cause.Limit limit.Places) (stays v.faults_in u.faults_in _ (λ is. cc) same, inr (read, λ told. (w, (has told, many))))
no_image v u wheel image w out (cause.Limit (limit.States most)) read has same (few, many) =
    goes_on _ _ _ _ _ _ _ _ w _ _ _ _ _ read ((λ told. record { wheel = has told; few = few }), same) (judged_out _ _ _ _ _ _ (cause.Limit (limit.States most)) many)
no_image v u wheel image w out cause.Memory read has same none =
    stops _ _ _ _ _ _ _ _ _ cause.Memory (stays v.faults_in u.faults_in _ (λ is. cc) same, inr (read, tt))
no_image v u wheel image w out (cause.Limit limit.File) read has same none = absurd none
no_image v u wheel image w out (cause.Limit limit.Edges) read has same none = absurd none
no_image v u wheel image w out (cause.Refused r) read has same none = absurd none
no_image v u wheel image w out cause.Usage read has same none = absurd none
no_image v u wheel image w out cause.ReadFault read has same none = absurd none
no_image v u wheel image w out cause.WriteFault read has same none = absurd none

-- over a wheel that is accepted and a steady shelf a compile is done, or wants memory, or a write fails
pub compile_ends : (P : Result Done Cause → Type 0) (v : View) (wheel image : List ℕ) (w : WheelParts) (work : Work) → IsTrue v.tells → IsTrue v.steady → HasPlacedWheel v.file wheel w → HasFewStates w
    → P (Ok done.Whole) → P (Err cause.Memory) → P (Err cause.WriteFault) → IsCompile v wheel image work → P work.end
compile_ends P v wheel image w work told steady h few whole memory fault r =
    reads_ready v wheel (ModelGives v.file wheel) (HasPlacedWheel v.file wheel) (λ w. Judges (FamilyGives w) (HasFewStates w) (Makes image (IsCompiled w given_limit))) P
    h.wheel.bytes w work told steady h.wheel.holds.there (model_gives_none v.file wheel w h) (λ u k. file_has_one_wheel v.file wheel u w k.wheel h.wheel) memory
    (λ rest n.
    judges_ready (FamilyGives w) (HasFewStates w) (Makes image (IsCompiled w given_limit)) P rest (family_gives_none w few) memory
    (λ p. makes_end image (IsCompiled w given_limit) P rest whole stop p) n)
    r
  where
    stop : (e : Cause) → StopsWrite e → P (Err e)
    stop cause.WriteFault s = fault
    stop cause.Memory s = memory
    stop cause.Usage s = absurd s
    stop cause.ReadFault s = absurd s
    stop (cause.Refused r) s = absurd s
    stop (cause.Limit l) s = absurd s

-- no compile ends for usage
pub compile_not_usage : (v : View) (wheel image : List ℕ) (work : Work) → IsCompile v wheel image work → work.end ≡ Err cause.Usage → ⊥
compile_not_usage v wheel image work r =
    reads_not_usage v wheel (ModelGives v.file wheel) (HasPlacedWheel v.file wheel) (λ w. Judges (FamilyGives w) (HasFewStates w) (Makes image (IsCompiled w given_limit))) work
    (λ w rest n.
    judges_end (FamilyGives w) (HasFewStates w) (Makes image (IsCompiled w given_limit)) NotUsage rest (λ e s. not_cause e (judge_not_usage (FamilyGives w) e s))
    (λ few p. makes_end image (IsCompiled w given_limit) NotUsage rest (λ is. cc) (λ e s. not_cause e (write_not_usage e s)) p) n)
    r
  where
    NotUsage : Result Done Cause → Type 0
    NotUsage end = end ≡ Err cause.Usage → ⊥

    not_cause : (e : Cause) → (e ≡ cause.Usage → ⊥) → ◌≡◌ {A = Result Done Cause} (Err e) (Err cause.Usage) → ⊥
    not_cause e n is = let same : e ≡ cause.Usage = cc in n same
