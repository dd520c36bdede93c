use Rattle.std.proofs.Common.{◌≡◌, take}
use Rattle.std.specs.Prelude.{All}
use Rattle.wheel_types.specs.declared.place.Place.{Place}
use Rattle.certificate_checker.proofs.lines.all_at.Given as goal

abbrev pub invariant-loop-place : goal.invariant-loop-place
invariant-loop-place l = All (λ (p : Place). p.j ≡ l.j) (take l.place-index l.cover)
