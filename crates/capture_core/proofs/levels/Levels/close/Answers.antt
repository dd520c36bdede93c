use Rattle.std.proofs.Common.{◌∙◌, ap, ℤ, rules}
use Rattle.capture_core.specs.Stamps.{instant_if}
use Rattle.capture_core.proofs.Instants.{instant_at-is, same_time}
use Rattle.capture_core.proofs.KeptChanges.{none-kept}
use Rattle.capture_core.proofs.levels.Levels.close.Goals as goal

pub returns-clause-instant : goal.returns-clause-instant
returns-clause-instant c = λ s closed h.
    instant_at-is c.args.self.now s closed h c.in_ok-time.time _ _ _ _ c.in_ok-time.was c.edge-crank.ensures c.edge-cam1.ensures c.edge-cam2.ensures
    (c.instant.ensures ∙ ap (λ (t : ℤ). instant_if t c.edge-crank.result c.edge-cam1.result c.edge-cam2.result) (same_time c.in_ok-time.time (search rules)))

pub returns-clause-none : goal.returns-clause-none
returns-clause-none c = λ s closed h.
    none-kept c.args.self.now.watch closed s c.instant.result (returns-clause-instant c s closed h)
