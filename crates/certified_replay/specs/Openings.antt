-- What calls leave that open a file for reading, and then read it whole.
use Rattle.std.specs.Prelude.{◌≡◌, ◌≤◌, ◌<◌, ◌^◌, ℕ, List, [], ◌∷◌, length, IsTrue, IsSome, None, ⊤}
use Rattle.shelf_traits.specs.Count.{RoseWhere}
use Rattle.shelf_traits.specs.Shelf.{View, IsReader, left_at}
use Rattle.shelf_io.specs.Touching.{Touches}
use Rattle.wheel_types.specs.declared.parts.WheelParts.{WheelParts}
use Rattle.capture_core.specs.declared.capture.Capture.{Capture}
use Rattle.command_words.specs.Options.{Options}
use Rattle.named_captures.specs.Captures.{IsCapture}
use Rattle.run_ends.specs.declared.cause.Cause.{Cause}
use Rattle.run_ends.specs.declared.cause.Cause.TheVariants as cause
use Rattle.run_ends.specs.declared.cause.Limit.TheVariants as limit
use Rattle.run_ends.specs.Works.{StopsOpen, read_slot}

-- a file was opened, and this slot is open over it; no byte was taken yet
pub record HasOpened (v w : View) (name : List ℕ) (slot : ℕ) : Type 0 where
  pub next : slot ≡ length v.ways
  pub reader : IsReader w slot
  pub touches : Touches v w (read_slot name 0 ∷ []) None None
  pub there : IsTrue v.tells → IsSome (v.file name)
  pub reads : w.faults_in ≡ v.faults_in

-- a file was not opened, for this cause
pub record NotOpened (v w : View) (name : List ℕ) (e : Cause) : Type 0 where
  pub stops : StopsOpen v name e
  pub touches : Touches v w [] None None
  pub reads : RoseWhere (e ≡ cause.ReadFault) v.faults_in w.faults_in

-- why the rest of a slot's file is not taken: a fault of a shelf that is not steady, want of memory, or too many bytes
abbrev pub StopsTaking : View → ℕ → Cause → Type 0
StopsTaking v slot cause.ReadFault = ¬ IsTrue v.steady
StopsTaking v slot cause.Memory = ⊤
StopsTaking v slot (cause.Limit limit.File) = IsTrue v.tells → 2 ^ 28 < length (left_at v slot)
StopsTaking v slot e = ⊥

-- where the shelf tells its files, these bytes are what is left of the slot's file; and they are not too many
pub record AreLeft (v : View) (slot : ℕ) (bytes : List ℕ) : Type 0 where
  pub short : length bytes ≤ 2 ^ 28
  pub whole : IsTrue v.tells → bytes ≡ left_at v slot

-- where the shelf tells its files, what is left of the slot's file is not too long, and this is its capture over a wheel
pub record IsTaken (v : View) (slot : ℕ) (w : WheelParts) (o : Options) (c : Capture) : Type 0 where
  pub short : IsTrue v.tells → length (left_at v slot) ≤ 2 ^ 28
  pub read : IsTrue v.tells → IsCapture w o (left_at v slot) c
