-- What a shelf shows: its counts, its slots, and, where it tells them, its files and the slots' places.
use Rattle.std.specs.Prelude.{◌≡◌, ◌≢◌, ℕ, ◌+◌, ◌-◌, ◌≤◌, ◌<◌, Bool, List, [], ◌∷◌, ◌++◌, length, take, drop, slice_get, None, Some, IsTrue, Result, IfOk, OnErr, IsErrOf, unwrap_or, IsSome}
use Rattle.std.specs.declared.option.Option.{Option}
use Rattle.shelf_traits.specs.declared.fault.IoFault.{IoFault}
use Rattle.shelf_traits.specs.declared.fault.IoFault.TheVariants.{Failed}
use Rattle.shelf_traits.specs.declared.shelf.Way.{Way}
use Rattle.shelf_traits.specs.declared.shelf.Way.TheVariants.{Reads, Writes}
use Rattle.shelf_traits.specs.Count.{Rose, Fits}

-- the file of a slot, and how many of its bytes were read
pub record Position : Type 0 where
  pub name : List ℕ
  pub at : ℕ

-- what a shelf shows; `file` and `place` mean something only where `tells` is true
pub record View : Type 0 where
  pub faults_in : ℕ
  pub faults_out : ℕ
  pub ways : List Way
  pub tells : Bool
  pub steady : Bool
  pub file : List ℕ → Option (List ℕ)
  pub place : ℕ → Position

-- open gave this slot
abbrev pub IsReader : View → ℕ → Type 0
IsReader v slot = slice_get v.ways slot ≡ Some Reads

-- create gave this slot
abbrev pub IsWriter : View → ℕ → Type 0
IsWriter v slot = slice_get v.ways slot ≡ Some Writes

-- the bytes of a slot's file
abbrev pub file_at : View → ℕ → List ℕ
file_at v slot = unwrap_or (v.file (v.place slot).name) []

-- the bytes that reads of a slot have yet to give
abbrev pub left_at : View → ℕ → List ℕ
left_at v slot = drop (v.place slot).at (file_at v slot)

-- what calls keep that only read, from this slot or from none
pub record ReadsOn (v w : View) (slot : ℕ) : Type 0 where
  pub no_less : v.faults_in ≤ w.faults_in
  pub out : w.faults_out ≡ v.faults_out
  pub ways : w.ways ≡ v.ways
  pub tells : w.tells ≡ v.tells
  pub steady : IsTrue v.steady → IsTrue w.steady
  pub calm : IsTrue v.steady → w.faults_in ≡ v.faults_in
  pub files : IsTrue v.tells → w.file ≡ v.file
  pub others : IsTrue v.tells → (s : ℕ) → s ≢ slot → w.place s ≡ v.place s

-- what calls keep that write to this slot
pub record WritesOn (v w : View) (slot : ℕ) : Type 0 where
  pub no_less : v.faults_out ≤ w.faults_out
  pub reads : w.faults_in ≡ v.faults_in
  pub ways : w.ways ≡ v.ways
  pub tells : w.tells ≡ v.tells
  pub steady : IsTrue v.steady → IsTrue w.steady
  pub calm : IsTrue v.steady → w.faults_out ≡ v.faults_out
  pub place : IsTrue v.tells → w.place ≡ v.place
  pub files : IsTrue v.tells → (n : List ℕ) → n ≢ (v.place slot).name → w.file n ≡ v.file n

-- open of this name, whatever it answers
pub record Opens (v w : View) (name : List ℕ) (result : Result ℕ IoFault) : Type 0 where
  pub no_less : v.faults_in ≤ w.faults_in
  pub failed : IsErrOf result Failed → Rose v.faults_in w.faults_in
  pub quiet : ¬ IsErrOf result Failed → w.faults_in ≡ v.faults_in
  pub out : w.faults_out ≡ v.faults_out
  pub slot : IfOk result (λ slot. (slot ≡ length v.ways) × (w.ways ≡ v.ways ++ Reads ∷ []))
  pub no_slot : OnErr result (w.ways ≡ v.ways)
  pub tells : w.tells ≡ v.tells
  pub steady : IsTrue v.steady → IsTrue w.steady
  pub files : IsTrue v.tells → w.file ≡ v.file
  pub place : IsTrue v.tells → IfOk result (λ slot. w.place slot ≡ record { name = name; at = 0 })
  pub there : IsTrue v.tells → IfOk result (λ slot. IsSome (v.file name))
  pub others : IsTrue v.tells → (s : ℕ) → s < length v.ways → w.place s ≡ v.place s
  pub calm : IsTrue v.steady → IsErrOf result Failed → v.file name ≡ None
  pub calm_count : IsTrue v.steady → IsSome (v.file name) → w.faults_in ≡ v.faults_in

-- create of this name, whatever it answers
pub record Creates (v w : View) (name : List ℕ) (result : Result ℕ IoFault) : Type 0 where
  pub no_less : v.faults_out ≤ w.faults_out
  pub failed : IsErrOf result Failed → Rose v.faults_out w.faults_out
  pub quiet : ¬ IsErrOf result Failed → w.faults_out ≡ v.faults_out
  pub reads : w.faults_in ≡ v.faults_in
  pub slot : IfOk result (λ slot. (slot ≡ length v.ways) × (w.ways ≡ v.ways ++ Writes ∷ []))
  pub no_slot : OnErr result (w.ways ≡ v.ways)
  pub tells : w.tells ≡ v.tells
  pub steady : IsTrue v.steady → IsTrue w.steady
  pub emptied : IsTrue v.tells → IfOk result (λ slot. w.file name ≡ Some [])
  pub place : IsTrue v.tells → IfOk result (λ slot. w.place slot ≡ record { name = name; at = 0 })
  pub other_files : IsTrue v.tells → (n : List ℕ) → n ≢ name → w.file n ≡ v.file n
  pub unmade : IsTrue v.tells → OnErr result (w.file ≡ v.file)
  pub others : IsTrue v.tells → (s : ℕ) → s < length v.ways → w.place s ≡ v.place s
  pub calm : IsTrue v.steady → w.faults_out ≡ v.faults_out
  pub no_fault : IsTrue v.steady → ¬ IsErrOf result Failed

-- k bytes, from the slot's place on, were put into the front of buf
pub record Gave (v w : View) (slot : ℕ) (buf : List ℕ) (k : ℕ) : Type 0 where
  pub bytes : left_at v slot ≡ take k buf ++ left_at w slot
  pub moved : (w.place slot).at ≡ (v.place slot).at + k
  pub name : (w.place slot).name ≡ (v.place slot).name
  pub end : k ≡ 0 → left_at v slot ≡ []

-- each count is at most 2^64 - 1
pub record CountsFit (v : View) : Type 0 where
  pub faults_in : Fits v.faults_in
  pub faults_out : Fits v.faults_out

-- by how many bytes a slot's place moved
abbrev pub given_of : (v w : View) → ℕ → ℕ
given_of v w slot = (w.place slot).at - (v.place slot).at

-- so many bytes of what was left were given from a slot, whose file is the same
pub record Passed (v w : View) (slot given : ℕ) : Type 0 where
  pub moved : (w.place slot).at ≡ (v.place slot).at + given
  pub within : given ≤ length (left_at v slot)
  pub name : (w.place slot).name ≡ (v.place slot).name
