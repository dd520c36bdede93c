-- What a machine stands for.
use Rattle.std.specs.Prelude.{◌≡◌, ◌≤◌, ◌<◌, ◌+◌, ◌^◌, ℕ, List}
use Rattle.wheel_types.specs.declared.instant.Instant.{Instant}
use Rattle.image_layout.specs.declared.kind.Kind.{Kind}
use Rattle.image_layout.specs.declared.kind.Kind.TheVariants.{Dead, At, Open}
use Rattle.image_layout.specs.Layout.{time_total, ratio_total}
use Rattle.image_format.specs.Walk.{Stand, stand_after}
use Rattle.sync_machine.specs.declared.machine.Machine.{Machine}
use Rattle.sync_machine.specs.declared.verdict.MachineVerdict.{MachineVerdict}
use Rattle.sync_machine.specs.declared.verdict.MachineVerdict.TheVariants as verdict

-- the verdict that a state's kind gives
abbrev pub verdict_of : Kind → MachineVerdict
verdict_of Dead = verdict.Lost
verdict_of (At j) = verdict.At j
verdict_of (Open e f) = verdict.Open e f

-- where the machine stands in the walk
abbrev pub stand_of : Machine → Stand
stand_of m = record { state = m.state; started = m.started; time = m.time; crank = m.crank; crank_before = m.crank_before }

-- from a number of steps to another at most so many, and as many as the numbers of time cuts and of ratio cuts have binary digits
abbrev pub IsWithin : List ℕ → ℕ → ℕ → ℕ → Type 0
IsWithin b most old new = (c d : ℕ) → time_total b < 2 ^ c → ratio_total b < 2 ^ d → new ≤ old + (most + c + d)

-- the instants that the machine stands for, the last one first
abbrev pub StandsFor : Machine → List Instant → Type 0
StandsFor m past = stand_of m ≡ stand_after m.view.bytes.now past
