-- What calls leave that create a file and put pieces into it.
use Rattle.std.specs.Prelude.{◌≡◌, ◌≤◌, ◌⊎◌, ℕ, List, [], ◌∷◌, ◌++◌, length, take, IsTrue, Some, None, Result, Ok, Err}
use Rattle.shelf_traits.specs.Shelf.{View, IsWriter}
use Rattle.shelf_io.specs.Touching.{Touches, FailedWrite}
use Rattle.run_ends.specs.declared.cause.Cause.{Cause}
use Rattle.run_ends.specs.declared.cause.Cause.TheVariants as cause
use Rattle.run_ends.specs.Works.{StopsWrite}
use Rattle.run_ends.specs.Stages.{write_slot}

-- a create or a write stopped for this cause: at a write fault the count rose, of a shelf that was not steady, and else it stays
pub record StoppedOver (v w : View) (e : Cause) : Type 0 where
  pub kinds : StopsWrite e
  pub fault : e ≡ cause.WriteFault → FailedWrite v w
  pub settled : ¬ (e ≡ cause.WriteFault) → w.faults_out ≡ v.faults_out
  pub reads : w.faults_in ≡ v.faults_in

-- a file was created, and this slot is open over it; it is empty
pub record HasCreated (v w : View) (name : List ℕ) (slot : ℕ) : Type 0 where
  pub last : slot ≡ length v.ways
  pub writer : IsWriter w slot
  pub named : IsTrue w.tells → (w.place slot).name ≡ name
  pub touches : Touches v w (write_slot name ∷ []) (Some name) (Some [])
  pub reads : w.faults_in ≡ v.faults_in
  pub writes : w.faults_out ≡ v.faults_out

-- a file was not created, for this cause, and no file changed
pub record NotCreated (v w : View) (name : List ℕ) (e : Cause) : Type 0 where
  pub stopped : StoppedOver v w e
  pub touches : Touches v w [] (Some name) None

-- where the shelf tells its files, and that of the slot is there, its text grows by a piece
abbrev pub Grows : (v w : View) (slot : ℕ) (piece : List ℕ) → Type 0
Grows v w slot piece = IsTrue v.tells → (text : List ℕ) → v.file (v.place slot).name ≡ Some text → w.file (v.place slot).name ≡ Some (text ++ piece)

-- it grows by a front of the piece
abbrev pub GrowsByFront : (v w : View) (slot : ℕ) (piece : List ℕ) → Type 0
GrowsByFront v w slot piece = (k : ℕ) × ((k ≤ length piece) × Grows v w slot (take k piece))

-- a file was created and got this text, and no count rose
pub record HasText (v w : View) (name text : List ℕ) : Type 0 where
  pub touches : Touches v w (write_slot name ∷ []) (Some name) (Some text)
  pub reads : w.faults_in ≡ v.faults_in
  pub writes : w.faults_out ≡ v.faults_out

-- a file was created and got a front of this text, where writing stopped for a cause
pub record HasFront (v w : View) (name text : List ℕ) (e : Cause) : Type 0 where
  pub stopped : StoppedOver v w e
  pub got : ℕ
  pub within : got ≤ length text
  pub touches : Touches v w (write_slot name ∷ []) (Some name) (Some (take got text))

-- what making a file of a text comes to: it has the text, or a front of it, or is not created
abbrev pub MakesFile : (v w : View) (name text : List ℕ) → Result Unit Cause → Type 0
MakesFile v w name text (Ok x) = HasText v w name text
MakesFile v w name text (Err e) = HasFront v w name text e ⊎ NotCreated v w name e
