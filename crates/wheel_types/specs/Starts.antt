-- Where motions began that end at a place.
use Rattle.std.specs.Prelude.{List, [], ◌∷◌, Option, Some, None, ℤ, pos, ◌-ℤ◌}
use Rattle.wheel_types.specs.declared.channel.Pol.{Pol}
use Rattle.wheel_types.specs.declared.place.Place.{Place}
use Rattle.wheel_types.specs.declared.instant.Instant.{Instant}
use Rattle.wheel_types.specs.declared.parts.WheelParts.{WheelParts}
use Rattle.wheel_types.specs.Motions.{Indices}
use Rattle.wheel_types.specs.Verdicts.{place_of}
use Rattle.wheel_types.specs.Steps.{indices_of}

-- the next edge of a channel before it passed an edge, where it passed one
abbrev pub edge_if : Option Pol → ℤ → ℤ
edge_if None n = n
edge_if (Some p) n = n -ℤ pos 1

-- the next edges before the edges of the instants
abbrev pub taken_back : List Instant → Indices → Indices
taken_back [] ix = ix
taken_back (i ∷ past) ix = taken_back past (record { crank = edge_if i.crank ix.crank; cam1 = edge_if i.cam1 ix.cam1; cam2 = edge_if i.cam2 ix.cam2 })

-- where the motions began that give the instants and end at the place
abbrev pub start_of : WheelParts → List Instant → Place → Place
start_of w past p = place_of w (taken_back past (indices_of p))
