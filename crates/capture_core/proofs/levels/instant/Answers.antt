use Rattle.std.proofs.Common.{◌∙◌, ap, ℤ, rules}
use Rattle.capture_core.specs.Stamps.{instant_if}
use Rattle.capture_core.proofs.Instants.{instant_if-some, same_time}
use Rattle.capture_core.proofs.levels.instant.Goals as goal

pub returns-in-Some-default-default : goal.returns-in-Some-default-default
returns-in-Some-default-default c =
    instant_if-some _ _ _ _ _ ∙ ap (λ (t : ℤ). instant_if t c.args.crank c.args.cam1 c.args.cam2) (same_time c.args.time (search rules))
