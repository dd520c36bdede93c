-- Laws of captures.
use Rattle.std.specs.Prelude.{◌≡◌, ◌↔◌, List, ◌∷◌, ◌++◌, Contains}
use Rattle.wheel_types.specs.declared.instant.Instant.{Instant}
use Rattle.wheel_types.specs.Verdicts as instants
use Rattle.capture_core.specs.declared.capture.Stamp.{Stamp}
use Rattle.capture_core.specs.declared.capture.Watch.{Watch}
use Rattle.capture_core.specs.Captures.{Told, capture_of}
use Rattle.capture_core.specs.Changes.{IsInstantAt}
use Rattle.capture_core.specs.Stamps.{IsRising, instants_of}

-- the stamp is one of these, and stands behind those of its past
pub record StandsIn (closed : List Stamp) (s : Stamp) (past : List Stamp) : Type 0 where
  pub later : List Stamp
  pub all : closed ≡ later ++ s ∷ past

-- the instants at closed stamps are those of exactly the kept changes there
abbrev pub InstantsAreChanges : Type 0
InstantsAreChanges = (watch : Watch) (closed : List Stamp) (i : Instant)
    → Contains (instants_of watch closed) i ↔ ((s : Stamp) × ((past : List Stamp) × (StandsIn closed s past × IsInstantAt watch past s i)))

-- where the times of stamps rise, so do those of the capture's instants
abbrev pub InstantsRise : Type 0
InstantsRise = (watch : Watch) (told : Told) → IsRising told.stamps → instants.IsRising (capture_of watch told).instants

-- the instants of a longer list of stamps begin with those of the shorter
abbrev pub LongerBeginAlike : Type 0
LongerBeginAlike = (watch : Watch) (later earlier : List Stamp)
    → (more : List Instant) × (instants_of watch (later ++ earlier) ≡ instants_of watch earlier ++ more)
