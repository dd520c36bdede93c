use Rattle.std.proofs.Common.{take}
use Rattle.std.specs.Prelude.{Contains}
use Rattle.wheel_types.specs.declared.place.Place.{Place}
use Rattle.wheel_types.specs.Verdicts.{IsBefore}
use Rattle.plain_motion.specs.Ends.{IsOther}
use Rattle.certificate_checker.proofs.steps.is_least.Given as goal

abbrev pub invariant-loop-other : goal.invariant-loop-other
invariant-loop-other l = (q : Place) → Contains (take l.other-index l.cover) q → IsOther l.but q.j → IsBefore l.place q
