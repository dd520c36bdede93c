-- What serving a command leaves: its work, as it came out on the shelf, on out and on notes.
use Rattle.std.specs.Prelude.{◌≡◌, ◌≤◌, ◌⊎◌, ℕ, Bool, List, IsTrue, [], Result, Err}
use Rattle.std.specs.declared.option.Option.{Option}
use Rattle.std.specs.Io.KnownBytes.{Appends, Keeps}
use Rattle.shelf_traits.specs.Count.{Rose}
use Rattle.shelf_traits.specs.Shelf.{View}
use Rattle.shelf_io.specs.Touching.{Touches, RoseOut}
use Rattle.run_ends.specs.declared.cause.Done.{Done}
use Rattle.run_ends.specs.declared.cause.Cause.{Cause}
use Rattle.run_ends.specs.declared.cause.Cause.TheVariants as cause
use Rattle.run_ends.specs.declared.status.Status.{Status}
use Rattle.run_ends.specs.declared.status.Status.TheVariants as status
use Rattle.run_ends.specs.Statuses.{status_of}
use Rattle.run_ends.specs.Finishing.{HasNoted, FailedNote, notes_text}
use Rattle.run_ends.specs.Works.{Work}

-- what a sink shows: its count, the bytes taken where it tells them, and whether no call on it fails from here on
pub record Stream : Type 0 where
  pub faults : ℕ
  pub taken : Option (List ℕ)
  pub steady : Bool

-- a stream by its parts
abbrev pub stream : ℕ → Option (List ℕ) → Bool → Stream
stream faults taken steady = record { faults = faults; taken = taken; steady = steady }

-- Some work that the relation allows is what the shelf and out show of it; its tails and its end are the answer. A fault has its cause
-- in a count, a count that rose shows in the end (a read's count may be hidden by want of memory, as taps are closed), and over a steady
-- shelf and a steady out no write fails.
pub record Served (allows : Work → Type 0) (writes : Option (List ℕ)) (v w : View) (old new : Stream) (tails : List ℕ) (end : Result Done Cause) : Type 0 where
  pub work : Work
  pub allowed : allows work
  pub ends : end ≡ work.end
  pub closes : tails ≡ work.tails
  pub out : Appends old.taken new.taken work.out
  pub shelf : Touches v w work.opened writes work.made
  pub read : end ≡ Err cause.ReadFault → Rose v.faults_in w.faults_in
  pub read_settled : ¬ (end ≡ Err cause.ReadFault) → ¬ (end ≡ Err cause.WriteFault) → ¬ (end ≡ Err cause.Memory) → w.faults_in ≡ v.faults_in
  pub write : end ≡ Err cause.WriteFault → Rose old.faults new.faults ⊎ RoseOut v w writes
  pub write_settled : ¬ (end ≡ Err cause.WriteFault) → (new.faults ≡ old.faults) × (w.faults_out ≡ v.faults_out)
  pub calm : end ≡ Err cause.WriteFault → IsTrue old.steady → IsTrue v.steady → ⊥
  pub later : old.faults ≤ new.faults
  pub steady : IsTrue old.steady → IsTrue new.steady

-- Work that taps are told of is served, before they are closed; they were told its marks, but where memory was wanting.
pub record Tells (allows : Work → Type 0) (writes : Option (List ℕ)) (v w : View) (old new : Stream) (told : List ℕ → Type 0) (end : Result Done Cause) : Type 0 where
  pub served : Served allows writes v w old new [] end
  pub heard : ¬ (end ≡ Err cause.Memory) → told served.work.marks

-- Out was handed on at the end of work: it takes nothing more, and the work ends as it did, or with a write fault where that failed.
pub record Handed (old new : Stream) (before after : Result Done Cause) : Type 0 where
  pub bytes : Keeps old.taken new.taken
  pub ends : (after ≡ before) ⊎ (after ≡ Err cause.WriteFault)
  pub write : after ≡ Err cause.WriteFault → (before ≡ Err cause.WriteFault) ⊎ (Rose old.faults new.faults × (IsTrue old.steady → ⊥))
  pub settled : ¬ (after ≡ Err cause.WriteFault) → new.faults ≡ old.faults
  pub later : old.faults ≤ new.faults
  pub steady : IsTrue old.steady → IsTrue new.steady

-- The command was served, and notes got the line of its end's cause and its tails; or a front of them, where a write on notes failed or
-- wanted memory.
pub record Ran (allows : Work → Type 0) (writes : Option (List ℕ)) (v w : View) (out new_out notes new_notes : Stream) (result : Status) : Type 0 where
  pub end : Result Done Cause
  pub tails : List ℕ
  pub served : Served allows writes v w out new_out tails end
  pub noted : HasNoted (FailedNote notes.faults new_notes.faults (IsTrue notes.steady)) notes.taken new_notes.taken (notes_text end tails) (status_of end) result
  pub settled : ¬ (result ≡ status.WriteFault) → new_notes.faults ≡ notes.faults
  pub calm : IsTrue notes.steady → new_notes.faults ≡ notes.faults
  pub later : notes.faults ≤ new_notes.faults

-- a status at which all writes went through
abbrev pub WentOut : Status → Type 0
WentOut s = (¬ (s ≡ status.WriteFault)) × (¬ (s ≡ status.Memory))

-- no call on a stream failed: it is steady, or its count did not rise
abbrev pub NoneFailed : (old new : Stream) → Type 0
NoneFailed old new = IsTrue old.steady ⊎ (¬ Rose old.faults new.faults)
