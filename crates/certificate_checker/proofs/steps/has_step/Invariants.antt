use Rattle.std.proofs.Common.{List, take}
use Rattle.wheel_types.specs.declared.instant.Instant.{Instant}
use Rattle.wheel_types.specs.declared.verdict.Verdict.{Verdict}
use Rattle.plain_motion.specs.Sets.{StandsFor, wheel_of}
use Rattle.certificate_checker.specs.Checking.{HasStep}
use Rattle.certificate_checker.proofs.steps.has_step.Given as goal

abbrev pub invariant-loop-place : goal.invariant-loop-place
invariant-loop-place l = (past : List Instant) (verdicts : List Verdict) (s : StandsFor l.set past verdicts) → HasStep (wheel_of l.set) s.kept.window (take l.place-index l.from) l.instant → ⊥
