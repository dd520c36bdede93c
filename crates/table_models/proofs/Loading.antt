-- A model's table that is loaded, and why it is not.
use Rattle.std.proofs.Common.{◌≡◌, ℕ, inl, inr, List, Ok, Err}
use Rattle.shelf_traits.specs.Shelf.{View}
use Rattle.wheel_types.specs.declared.parts.WheelParts.{WheelParts}
use Rattle.wheel_pattern.specs.WheelFile.{MeansWheel}
use Rattle.run_ends.specs.declared.cause.Cause.{Cause}
use Rattle.run_ends.specs.declared.cause.Cause.TheVariants as cause
use Rattle.run_ends.specs.declared.cause.Limit.TheVariants as limit
use Rattle.run_ends.specs.Works.{Told, StopsRead, StopsJudge}
use Rattle.run_ends.specs.Loads.{HasRead, Loads}
use Rattle.run_ends.proofs.Loading.{stays}
use Rattle.run_files.specs.Files.{Holds}
use Rattle.run_files.specs.Causes.{FileGives}
use Rattle.compile_command.specs.Compile.{HasNoImage}
use Rattle.table_models.specs.Models.{BeginAsImage, GivesImage, HasModelImage, NotWheelGives, NoImageGives, BytesGive, TableGives}

-- a cause that is given is given by what follows of that
pub judge_as : (G H : Cause → Type 0) (e : Cause) → ((x : Cause) → G x → H x) → StopsJudge G e → StopsJudge H e
judge_as G H (cause.Refused r) more s = more (cause.Refused r) s
judge_as G H (cause.Limit l) more s = more (cause.Limit l) s
judge_as G H cause.Usage more s = absurd s
judge_as G H cause.ReadFault more s = absurd s
judge_as G H cause.WriteFault more s = absurd s
judge_as G H cause.Memory more s = s

stops_as : (v : View) (G H : Cause → Type 0) (e : Cause) → ((x : Cause) → G x → H x) → StopsRead v G e → StopsRead v H e
stops_as v G H (cause.Refused r) more s = λ told. more (cause.Refused r) (s told)
stops_as v G H (cause.Limit l) more s = λ told. more (cause.Limit l) (s told)
stops_as v G H cause.Usage more s = absurd s
stops_as v G H cause.ReadFault more s = s
stops_as v G H cause.WriteFault more s = absurd s
stops_as v G H cause.Memory more s = s

-- a wheel that has no image gives its cause
no_image : (w : WheelParts) (e : Cause) → HasNoImage w e → StopsJudge (NoImageGives w) e
no_image w (cause.Limit limit.Places) h = h
no_image w (cause.Limit (limit.States most)) h = h
no_image w (cause.Limit limit.File) h = absurd h
no_image w (cause.Limit limit.Edges) h = absurd h
no_image w (cause.Refused r) h = absurd h
no_image w cause.Usage h = absurd h
no_image w cause.ReadFault h = absurd h
no_image w cause.WriteFault h = absurd h
no_image w cause.Memory h = h

pub bytes_give : (bytes : List ℕ) (w : WheelParts) (e : Cause) → ¬ BeginAsImage bytes → MeansWheel bytes w → HasNoImage w e → StopsJudge (BytesGive bytes) e
bytes_give bytes w e other means h = judge_as (NoImageGives w) (BytesGive bytes) e (λ x g. (other, inr (w, (means, g)))) (no_image w e h)

pub no_wheel : (bytes : List ℕ) (e : Cause) → ¬ BeginAsImage bytes → StopsJudge (NotWheelGives bytes) e → StopsJudge (BytesGive bytes) e
no_wheel bytes e other h = judge_as (NotWheelGives bytes) (BytesGive bytes) e (λ x g. (other, inl g)) h

-- a file that is not loaded gives no table
pub not_loaded : {X Y : Type 0} (t v w : View) (name : List ℕ) (accepts : X → Type 0) (next : Y → Type 0) (e : Cause) → Loads {X = X} t v w name (FileGives t.file name) accepts (Err e)
    → Loads {X = Y} t v w name (TableGives t.file name) next (Err e)
not_loaded t v w name accepts next e (rose, inl h) = (rose, inl h)
not_loaded t v w name accepts next e (rose, inr (read, s)) = (rose, inr (read, stops_as t (FileGives t.file name) (TableGives t.file name) e (λ x g. inl g) s))

-- nor does one whose bytes give none
pub not_given : {Y : Type 0} (v w : View) (name bytes : List ℕ) (next : Y → Type 0) (e : Cause) → HasRead v w name → Told v (Holds v.file name bytes) → w.faults_in ≡ v.faults_in → StopsJudge (BytesGive bytes) e
    → Loads {X = Y} v v w name (TableGives v.file name) next (Err e)
not_given v w name bytes next (cause.Refused r) read holds same g = (stays _ _ _ (λ is. cc) same, inr (read, λ told. inr (bytes, (holds told, g))))
not_given v w name bytes next (cause.Limit l) read holds same g = (stays _ _ _ (λ is. cc) same, inr (read, λ told. inr (bytes, (holds told, g))))
not_given v w name bytes next cause.Usage read holds same g = absurd g
not_given v w name bytes next cause.ReadFault read holds same g = absurd g
not_given v w name bytes next cause.WriteFault read holds same g = absurd g
not_given v w name bytes next cause.Memory read holds same g = (stays _ _ _ (λ is. cc) same, inr (read, tt))

-- and bytes that give an image are a table
pub given : (v w : View) (name bytes image : List ℕ) → HasRead v w name → Told v (Holds v.file name bytes) → w.faults_in ≡ v.faults_in → GivesImage bytes image
    → Loads {X = List ℕ} v v w name (TableGives v.file name) (HasModelImage v.file name) (Ok image)
given v w name bytes image read holds same g = (read, ((λ told. record { bytes = bytes; holds = holds told; gives = g }), same))
