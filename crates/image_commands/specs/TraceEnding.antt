-- How a trace ends, and what out got by then: what follows of its relation, end by end.
use Rattle.std.specs.Prelude.{◌≡◌, ◌≤◌, ◌⊎◌, ℕ, List, [], length, take, IsTrue, None, Result, Ok, Err}
use Rattle.std.specs.declared.option.Option.{Option}
use Rattle.shelf_traits.specs.Shelf.{View}
use Rattle.image_layout.specs.Fields.{wheel_parts_of}
use Rattle.capture_core.specs.declared.capture.Capture.{Capture}
use Rattle.command_words.specs.Options.{Options}
use Rattle.run_ends.specs.declared.cause.Done.{Done}
use Rattle.run_ends.specs.declared.cause.Done.TheVariants as done
use Rattle.run_ends.specs.declared.cause.Cause.{Cause}
use Rattle.run_ends.specs.declared.cause.Cause.TheVariants as cause
use Rattle.run_ends.specs.Works.{Work, Told, HandsOn}
use Rattle.named_captures.specs.Captures.{HasCleanCapture, CleanGives}
use Rattle.image_commands.specs.Images.{HasImage, ImageGives}
use Rattle.image_commands.specs.Trace.{IsTraced, IsTrace}

-- the files hold an image of these bytes, and a capture over its wheel, which ends clean
pub record AreTraced (file : List ℕ → Option (List ℕ)) (image capture : List ℕ) (o : Options) (b : List ℕ) (c : Capture) : Type 0 where
  pub image_file : HasImage file image b
  pub capture_file : HasCleanCapture file capture (wheel_parts_of b) o c

-- out got the lines of the capture's instants
abbrev pub GotTrace : (List ℕ → Option (List ℕ)) → (image capture : List ℕ) → Options → (out : List ℕ) → Type 0
GotTrace file image capture o out = (b : List ℕ) × ((c : Capture) × (AreTraced file image capture o b c × IsTraced b c.instants out (Ok done.Whole)))

-- out got nothing, or a front of those lines
abbrev pub GotTraceFront : (List ℕ → Option (List ℕ)) → (image capture : List ℕ) → Options → (out : List ℕ) → Type 0
GotTraceFront file image capture o out =
    (out ≡ []) ⊎ ((text : List ℕ) × ((k : ℕ) × (GotTrace file image capture o text × ((k ≤ length text) × (out ≡ take k text)))))

-- a named file is not there: the image, or, that being accepted, the capture
abbrev pub IsMissing : (List ℕ → Option (List ℕ)) → (image capture : List ℕ) → Type 0
IsMissing file image capture = (file image ≡ None) ⊎ ((b : List ℕ) × (HasImage file image b × (file capture ≡ None)))

-- the image's file gives the cause, or, that being accepted, the capture's does
abbrev pub TraceGives : (List ℕ → Option (List ℕ)) → (image capture : List ℕ) → Options → Cause → Type 0
TraceGives file image capture o e =
    ImageGives file image e ⊎ ((b : List ℕ) × (HasImage file image b × CleanGives file capture (wheel_parts_of b) o e))

-- how a trace ends, and what out got by then
abbrev pub TraceEnds : View → (image capture : List ℕ) → Options → Result Done Cause → (out : List ℕ) → Type 0
TraceEnds v image capture o (Ok x) out = (x ≡ done.Whole) × Told v (GotTrace v.file image capture o out)
TraceEnds v image capture o (Err cause.ReadFault) out = (out ≡ []) × Told v (IsTrue v.steady → IsMissing v.file image capture)
TraceEnds v image capture o (Err cause.WriteFault) out = Told v (GotTraceFront v.file image capture o out)
TraceEnds v image capture o (Err cause.Memory) out = Told v (GotTraceFront v.file image capture o out)
TraceEnds v image capture o (Err e) out = (out ≡ []) × Told v (TraceGives v.file image capture o e)

-- every trace ends so
abbrev pub TracesEnd : Type 0
TracesEnd = (v : View) (image capture : List ℕ) (o : Options) (work : Work) → HandsOn (IsTrace v image capture o) work
    → TraceEnds v image capture o work.end work.out
