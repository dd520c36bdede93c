-- Legal steps of a place at an instant.
use Rattle.std.specs.Prelude.{◌≡◌, ◌+◌, ◌<◌, List, [], ◌∷◌, Option, Some, None, ℤ, pos, ◌-ℤ◌, ⊤, Contains}
use Rattle.wheel_types.specs.declared.channel.Pol.{Pol}
use Rattle.wheel_types.specs.declared.place.Place.{Place}
use Rattle.wheel_types.specs.declared.instant.Instant.{Instant}
use Rattle.wheel_types.specs.declared.parts.WheelParts.{WheelParts}
use Rattle.wheel_types.specs.Edges.{edge_count, pol_of}
use Rattle.wheel_types.specs.Motions.{Indices, index_of, passed, Stands, Event, orders, events_of, KeepsSpeed, KeepsRatio, slots_between, time_between}
use Rattle.wheel_types.specs.Verdicts.{place_of}

-- the next edges of a place
abbrev pub indices_of : Place → Indices
indices_of p = record { crank = pos (p.j + 1); cam1 = p.n1; cam2 = p.n2 }

-- some angle stands with these next edges
abbrev pub IsStanding : WheelParts → Indices → Type 0
IsStanding w ix = (x : ℤ) × Stands w x ix

-- a walk over standing places that passes these edges, the last one first
abbrev pub Walks : WheelParts → Indices → List Event → Indices → Type 0
Walks w from [] to = to ≡ from
Walks w from (e ∷ es) to = (mid : Indices) × Walks w from es mid × (0 < edge_count w e.channel) × (pol_of w e.channel (index_of mid e.channel) ≡ e.polarity) × IsStanding w to × (to ≡ passed e.channel mid)

-- the times with one more, where there is an edge
abbrev pub time_if : Option Pol → ℤ → List ℤ → List ℤ
time_if None t ts = ts
time_if (Some p) t ts = t ∷ ts

-- the times of the crank edges of the instants
abbrev pub crank_times : List Instant → List ℤ
crank_times [] = []
crank_times (i ∷ past) = time_if i.crank i.time (crank_times past)

-- crank edge m at the time t, after crank edges at these times, keeps the limits
abbrev pub KeepsGaps : WheelParts → ℤ → ℤ → List ℤ → Type 0
KeepsGaps w m t [] = ⊤
KeepsGaps w m t (u ∷ []) = KeepsSpeed w (slots_between w (m -ℤ pos 1) m) (time_between u t)
KeepsGaps w m t (u ∷ v ∷ ts) = KeepsSpeed w (slots_between w (m -ℤ pos 1) m) (time_between u t) × KeepsRatio w (slots_between w ((m -ℤ pos 1) -ℤ pos 1) (m -ℤ pos 1)) (time_between v u) (slots_between w (m -ℤ pos 1) m) (time_between u t)

-- the same where a crank edge is seen
abbrev pub KeepsGapsIf : Option Pol → WheelParts → ℤ → ℤ → List ℤ → Type 0
KeepsGapsIf None w m t ts = ⊤
KeepsGapsIf (Some p) w m t ts = KeepsGaps w m t ts

-- the step from these next edges at the instant, within a window that has the instants of the past
pub record Steps (w : WheelParts) (past : List Instant) (from : Indices) (i : Instant) (to : Indices) : Type 0 where
  pub order : List Event
  pub is_order : Contains (orders (events_of i)) order
  pub walks : Walks w from order to
  pub gaps : KeepsGapsIf i.crank w from.crank i.time (crank_times past)

-- q is the legal step of the place p
abbrev pub IsLegalStep : WheelParts → List Instant → Place → Instant → Place → Type 0
IsLegalStep w past p i q = (to : Indices) × Steps w past (indices_of p) i to × (q ≡ place_of w to)
