-- What a reader answers, and what stands after want of memory.
use Rattle.std.specs.Prelude.{◌≡◌, ◌++◌, List, Option, Some, None, Result, Ok, Err}
use Rattle.wheel_types.specs.declared.instant.Instant.{Instant}
use Rattle.capture_core.specs.declared.capture.VcdFault.{VcdFault}
use Rattle.vcd_reader.specs.declared.fault.FeedFault.{FeedFault}
use Rattle.vcd_reader.specs.declared.fault.FeedFault.TheVariants.{Refused, Memory}

-- the answer that tells this fault, or none
abbrev pub answer_to : Option VcdFault → Result Unit FeedFault
answer_to None = Ok tt
answer_to (Some fault) = Err (Refused fault)

-- an answer tells the fault, or that there is none. Want of memory tells nothing
abbrev pub Tells : Result Unit FeedFault → Option VcdFault → Type 0
Tells (Ok done) fault = fault ≡ None
Tells (Err (Refused f)) fault = fault ≡ Some f
Tells (Err Memory) fault = Unit {0}

-- the fact holds unless memory ran out
abbrev pub UnlessMemory : Result Unit FeedFault → Type 0 → Type 0
UnlessMemory (Err Memory) P = Unit {0}
UnlessMemory result P = P

-- these instants are the first of all, and at least those that stood before
pub record AreFirst (before these all : List Instant) : Type 0 where
  pub since : List Instant
  pub rest : List Instant
  pub at_least : these ≡ before ++ since
  pub first : all ≡ these ++ rest
