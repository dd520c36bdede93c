-- Captures by the names that options give.
use Rattle.std.specs.Prelude.{◌≡◌, ◌⊎◌, ℕ, List, if◌then◌else◌, string_bytes, codes, nat_lt, Some, None, option_map, Err}
use Rattle.std.specs.declared.option.Option.{Option}
use Rattle.wheel_types.specs.declared.parts.WheelParts.{WheelParts}
use Rattle.wheel_types.specs.declared.channel.Channel.TheVariants.{Cam1, Cam2}
use Rattle.wheel_types.specs.declared.channel.Keep.{Keep}
use Rattle.wheel_types.specs.Edges.{edge_count}
use Rattle.capture_core.specs.declared.capture.Names.{Names}
use Rattle.capture_core.specs.declared.capture.Watch.{Watch}
use Rattle.capture_core.specs.declared.capture.Capture.{Capture}
use Rattle.capture_file.specs.Forms.{file_capture}
use Rattle.command_words.specs.Options.{Options}
use Rattle.capture_core.specs.declared.capture.End.TheVariants.{Clean}
use Rattle.run_ends.specs.declared.cause.Cause.{Cause}
use Rattle.run_files.specs.Files.{Holds}
use Rattle.run_files.specs.Causes.{FileGives, ended_by}

-- a name that an option gives, or the usual one
abbrev pub named : Option (List ℕ) → List ℕ → List ℕ
named None usual = usual
named (Some name) usual = name

-- the columns have the names that options give, or their usual ones; the time is the first column where no option names it
pub record HasNames (o : Options) (names : Names) : Type 0 where
  pub time : option_map string_bytes names.time ≡ o.time
  pub crank : string_bytes names.crank ≡ named o.crank (codes "crank")
  pub cam1 : string_bytes names.cam1 ≡ named o.cam1 (codes "cam1")
  pub cam2 : string_bytes names.cam2 ≡ named o.cam2 (codes "cam2")

-- a cam is watched where an option names it or the wheel has a kept edge on it
abbrev pub watched : Keep → ℕ → Option (List ℕ) → Option Keep
watched keep edges (Some name) = Some keep
watched keep edges None = if nat_lt 0 edges then Some keep else None

-- the crank is always watched
abbrev pub watch_of : WheelParts → Options → Watch
watch_of w o = record { crank = w.crank; cam1 = watched w.cam1 (edge_count w Cam1) o.cam1; cam2 = watched w.cam2 (edge_count w Cam2) o.cam2 }

-- this is the capture of the bytes over a wheel, by the names that options give
pub record IsCapture (w : WheelParts) (o : Options) (bytes : List ℕ) (capture : Capture) : Type 0 where
  pub names : Names
  pub named : HasNames o names
  pub is : capture ≡ file_capture names (watch_of w o) bytes

-- this is the capture of a file over a wheel, by the names that options give, however it ends
pub record HasNamedCapture (file : List ℕ → Option (List ℕ)) (name : List ℕ) (w : WheelParts) (o : Options) (capture : Capture) : Type 0 where
  pub bytes : List ℕ
  pub holds : Holds file name bytes
  pub read : IsCapture w o bytes capture

-- and it ends clean
pub record HasCleanCapture (file : List ℕ → Option (List ℕ)) (name : List ℕ) (w : WheelParts) (o : Options) (capture : Capture) : Type 0 where
  pub read : HasNamedCapture file name w o capture
  pub clean : capture.end ≡ Clean

-- the file gives this cause to one who wants a clean capture: it is too long, or its capture ends for it
abbrev pub CleanGives : (List ℕ → Option (List ℕ)) → List ℕ → WheelParts → Options → Cause → Type 0
CleanGives file name w o e = FileGives file name e ⊎ ((c : Capture) × (HasNamedCapture file name w o c × (ended_by c.end ≡ Err e)))
