-- Steps of places, after crank edges at known times.
use Rattle.std.specs.Prelude.{◌+◌, List, ℤ, pos, Option, Some, option_and_then}
use Rattle.wheel_types.specs.declared.place.Place.{Place}
use Rattle.wheel_types.specs.declared.instant.Instant.{Instant}
use Rattle.wheel_types.specs.declared.parts.WheelParts.{WheelParts}
use Rattle.wheel_types.specs.Motions.{Event}
use Rattle.wheel_types.specs.Verdicts.{place_of}
use Rattle.wheel_types.specs.Steps.{indices_of, KeepsGapsIf}
use Rattle.wheel_types.specs.PlainSteps.{first_walk}
use Rattle.legal_steps.specs.Passes.{PassesInstant}

-- q is the legal step of the place p at the instant, after crank edges at these times
pub record IsTimedStep (w : WheelParts) (times : List ℤ) (p : Place) (i : Instant) (q : Place) : Type 0 where
  pub passes : PassesInstant w p i q
  pub gaps : KeepsGapsIf i.crank w (pos (p.j + 1)) i.time times

-- the end of the first walk from a place that passes these edges in one of the orders
abbrev pub end_of : WheelParts → List (List Event) → Place → Option Place
end_of w os p = option_and_then (λ ix. Some (place_of w ix)) (first_walk w (indices_of p) os)
