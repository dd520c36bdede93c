-- What a call answers that loads a file.
use Rattle.std.specs.Prelude.{◌≡◌, ◌⊎◌, ℕ, List, [], ◌∷◌, None, Result, Ok, Err}
use Rattle.shelf_traits.specs.Count.{RoseWhere}
use Rattle.shelf_traits.specs.Shelf.{View}
use Rattle.run_ends.specs.declared.cause.Cause.{Cause}
use Rattle.run_ends.specs.declared.cause.Cause.TheVariants as cause
use Rattle.shelf_io.specs.Touching.{Touches}
use Rattle.run_ends.specs.Works.{Told, StopsOpen, StopsRead, read_slot}

-- the file was opened, and read as far as this
pub record HasRead (v w : View) (name : List ℕ) : Type 0 where
  pub taken : ℕ
  pub touches : Touches v w (read_slot name taken ∷ []) None None

-- From v to w one file was opened and read. It is accepted with a value; or it was not opened, or was and gives the cause. The count of
-- reads rose at a read fault, and else stays. What is said of files is said of those that t tells.
abbrev pub Loads : {X : Type 0} → (t v w : View) → (name : List ℕ) → (gives : Cause → Type 0) → (accepts : X → Type 0) → Result X Cause → Type 0
Loads t v w name gives accepts (Ok x) = HasRead v w name × (Told t (accepts x) × (w.faults_in ≡ v.faults_in))
Loads t v w name gives accepts (Err e) =
    RoseWhere (e ≡ cause.ReadFault) v.faults_in w.faults_in
    × ((Touches v w [] None None × StopsOpen t name e) ⊎ (HasRead v w name × StopsRead t gives e))
