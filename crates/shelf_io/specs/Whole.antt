-- Whole files and whole texts.
use Rattle.std.specs.Prelude.{ℕ, ◌+◌, ◌^◌, ◌<◌, ◌≤◌, List, length, take, Result, Ok, Err, ⊤}
use Rattle.std.specs.declared.option.Option.{Option}
use Rattle.std.specs.Io.KnownBytes.{Appends}
use Rattle.shelf_io.specs.declared.fault.PutFault.{PutFault}
use Rattle.shelf_io.specs.declared.fault.PutFault.TheVariants.{Failed, Memory}
use Rattle.shelf_io.specs.declared.fault.LoadFault.{LoadFault}
use Rattle.shelf_io.specs.declared.fault.LoadFault.TheVariants as load

-- how many bytes went out before the fault
abbrev pub written_of : PutFault → ℕ
written_of (Failed n) = n
written_of (Memory n) = n

-- the told bytes grow by the first bytes of the piece, as many as the fault says, and not by all
pub record PutFront (old new : Option (List ℕ)) (piece : List ℕ) (fault : PutFault) : Type 0 where
  pub short : written_of fault < length piece
  pub front : Appends old new (take (written_of fault) piece)

-- a failure has its cause
abbrev pub PutCause : Type 0 → PutFault → Type 0
PutCause rose (Failed n) = rose
PutCause rose (Memory n) = Unit {0}

-- what holds of every end of a put but a failure
abbrev pub UnlessFailed : Type 0 → Result Unit PutFault → Type 0
UnlessFailed fact (Ok x) = fact
UnlessFailed fact (Err (Failed n)) = ⊤
UnlessFailed fact (Err (Memory n)) = fact

-- how many bytes were given before a fault of loading: more than 2^28 exactly where the fault is that
abbrev pub IsGiven : LoadFault → ℕ → Type 0
IsGiven load.Failed given = given ≤ 2 ^ 28
IsGiven load.TooLong given = (2 ^ 28 < given) × (given ≤ 2 ^ 28 + 2 ^ 16)
IsGiven load.Memory given = given ≤ 2 ^ 28
