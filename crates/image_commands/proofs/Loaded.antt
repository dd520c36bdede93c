-- A file that is loaded, and the image of its bytes.
use Rattle.std.proofs.Common.{◌≡◌, ℕ, inl, inr, List, Option, None, Result, Err, subst}
use Rattle.shelf_traits.specs.Shelf.{View}
use Rattle.shelf_io.specs.Touching.{Opened, Touches}
use Rattle.wheel_types.specs.declared.parts.WheelParts.{WheelParts}
use Rattle.capture_core.specs.declared.capture.Capture.{Capture}
use Rattle.command_words.specs.Options.{Options}
use Rattle.image_layout.specs.Tables.{KeepsLayout}
use Rattle.run_ends.specs.declared.cause.Cause.{Cause}
use Rattle.run_ends.specs.declared.cause.Cause.TheVariants as cause
use Rattle.run_ends.specs.declared.cause.Refusal.TheVariants as refusal
use Rattle.run_ends.specs.declared.cause.Limit.TheVariants as limit
use Rattle.run_ends.specs.Works.{Told, StopsRead}
use Rattle.run_ends.specs.Loads.{HasRead, Loads}
use Rattle.run_ends.proofs.Loading.{stays, loads_before}
use Rattle.run_files.specs.Files.{Holds}
use Rattle.run_files.specs.Causes.{FileGives}
use Rattle.named_captures.specs.Captures.{HasCleanCapture, CleanGives}
use Rattle.image_commands.specs.Images.{HasImage, LayoutGives, ImageGives}

-- a file gives no cause that an image's file does not give
by_image : (file : List ℕ → Option (List ℕ)) (name : List ℕ) (e : Cause) → FileGives file name e → ImageGives file name e
by_image file name (cause.Limit limit.File) g = g
by_image file name (cause.Limit limit.Places) g = g
by_image file name (cause.Limit (limit.States most)) g = g
by_image file name (cause.Limit limit.Edges) g = g
by_image file name (cause.Refused r) g = absurd g
by_image file name cause.Usage g = g
by_image file name cause.ReadFault g = g
by_image file name cause.WriteFault g = g
by_image file name cause.Memory g = g

stops_image : (v : View) (name : List ℕ) (e : Cause) → StopsRead v (FileGives v.file name) e → StopsRead v (ImageGives v.file name) e
stops_image v name (cause.Refused r) s = λ told. by_image v.file name (cause.Refused r) (s told)
stops_image v name (cause.Limit l) s = λ told. by_image v.file name (cause.Limit l) (s told)
stops_image v name cause.Usage s = s
stops_image v name cause.ReadFault s = s
stops_image v name cause.WriteFault s = s
stops_image v name cause.Memory s = s

-- a file that is not loaded is not loaded as an image
pub not_loaded : {X : Type 0} (t v w : View) (name : List ℕ) (accepts : X → Type 0) (e : Cause) → Loads {X = X} t v w name (FileGives t.file name) accepts (Err e)
    → Loads {X = List ℕ} t v w name (ImageGives t.file name) (HasImage t.file name) (Err e)
not_loaded t v w name accepts e (rose, inl h) = (rose, inl h)
not_loaded t v w name accepts e (rose, inr (read, s)) = (rose, inr (read, stops_image t name e s))

-- bytes that break a rule of the layout end the work
pub not_laid : (v w : View) (name bytes : List ℕ) (e : Cause) → HasRead v w name → Told v (Holds v.file name bytes) × (w.faults_in ≡ v.faults_in) → LayoutGives bytes e
    → Loads {X = List ℕ} v v w name (ImageGives v.file name) (HasImage v.file name) (Err e)
not_laid v w name bytes (cause.Refused (refusal.Image fault)) read (holds, same) f = (stays _ _ _ (λ is. cc) same, inr (read, λ told. (bytes, (holds told, f))))
not_laid v w name bytes (cause.Refused (refusal.Wheel no_wheel)) read holds f = absurd f
not_laid v w name bytes (cause.Refused (refusal.Table no_table)) read holds f = absurd f
not_laid v w name bytes (cause.Refused (refusal.Csv fault)) read holds f = absurd f
not_laid v w name bytes (cause.Refused (refusal.Vcd fault)) read holds f = absurd f
not_laid v w name bytes (cause.Refused (refusal.Report at)) read holds f = absurd f
not_laid v w name bytes (cause.Refused (refusal.Certificate at)) read holds f = absurd f
not_laid v w name bytes (cause.Refused (refusal.Audit not_sound)) read holds f = absurd f
not_laid v w name bytes (cause.Refused (refusal.Stuck gap low high)) read holds f = absurd f
not_laid v w name bytes (cause.Limit l) read holds f = absurd f
not_laid v w name bytes cause.Usage read holds f = absurd f
not_laid v w name bytes cause.ReadFault read holds f = absurd f
not_laid v w name bytes cause.WriteFault read holds f = absurd f
not_laid v w name bytes cause.Memory read holds f = absurd f

-- want of memory, once the file is read
pub no_room : {X : Type 0} (v w : View) (name : List ℕ) (gives : Cause → Type 0) (accepts : X → Type 0) → HasRead v w name → w.faults_in ≡ v.faults_in → Loads {X = X} v v w name gives accepts (Err cause.Memory)
no_room v w name gives accepts read same = (stays _ _ _ (λ is. cc) same, inr (read, tt))

-- bytes that keep the layout are an image
pub laid : (v w : View) (name bytes : List ℕ) → Told v (Holds v.file name bytes) × (w.faults_in ≡ v.faults_in) → KeepsLayout bytes → Told v (HasImage v.file name bytes) × (w.faults_in ≡ v.faults_in)
laid v w name bytes (holds, same) keeps = ((λ told. record { holds = holds told; layout = keeps }), same)

-- a capture that is loaded over a wheel is loaded over the same wheel, by another name, of the files that were told before
pub clean_before : (t v w : View) (opened : List Opened) (name : List ℕ) (p q : WheelParts) (o : Options) (r : Result Capture Cause) → p ≡ q → Touches t v opened None None
    → Loads {X = Capture} v v w name (CleanGives v.file name p o) (HasCleanCapture v.file name p o) r → Loads {X = Capture} t v w name (CleanGives t.file name q o) (HasCleanCapture t.file name q o) r
clean_before t v w opened name p q o r same touches h =
    loads_before {X = Capture} t v w opened name (λ file. CleanGives file name q o) (λ file. HasCleanCapture file name q o) r touches
    (subst (λ (x : WheelParts). Loads {X = Capture} v v w name (CleanGives v.file name x o) (HasCleanCapture v.file name x o) r) same h)
