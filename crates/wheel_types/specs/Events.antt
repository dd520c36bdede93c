-- The edges that are seen of a motion. A list of events or instants has the last one first.
use Rattle.std.specs.Prelude.{◌≡◌, List, [], ◌∷◌, ◌++◌, Option, Some, None, ℤ, Contains}
use Rattle.wheel_types.specs.declared.channel.Pol.{Pol}
use Rattle.wheel_types.specs.declared.channel.Channel.{Channel}
use Rattle.wheel_types.specs.declared.channel.Channel.TheVariants.{Crank, Cam1, Cam2}
use Rattle.wheel_types.specs.declared.instant.Instant.{Instant}
use Rattle.wheel_types.specs.declared.parts.WheelParts.{WheelParts}
use Rattle.wheel_types.specs.Edges.{pol_of}
use Rattle.wheel_types.specs.Indices.{Indices, index_of}
use Rattle.wheel_types.specs.Moves.{Move, indices_after}

-- an edge that is seen
pub record Event : Type 0 where
  pub time : ℤ
  pub channel : Channel
  pub polarity : Pol

-- the events with one more at the time t, where the channel has an edge
abbrev pub event_if : ℤ → Channel → Option Pol → List Event → List Event
event_if t c None es = es
event_if t c (Some p) es = record { time = t; channel = c; polarity = p } ∷ es

-- these edges at the time t: crank, first cam, second cam
abbrev pub events_at : ℤ → Option Pol → Option Pol → Option Pol → List Event
events_at t crank cam1 cam2 = event_if t Crank crank (event_if t Cam1 cam1 (event_if t Cam2 cam2 []))

-- the edges of an instant
abbrev pub events_of : Instant → List Event
events_of i = events_at i.time i.crank i.cam1 i.cam2

-- the edges that the moves pass
abbrev pub events_passed : WheelParts → Indices → List Move → List Event
events_passed w ix [] = []
events_passed w ix (v ∷ vs) = record { time = v.time; channel = v.channel; polarity = pol_of w v.channel (index_of (indices_after ix vs) v.channel) } ∷ events_passed w ix vs

-- the orders of at most three things, those that keep the first in front first
abbrev pub orders : {X : Type 0} → List X → List (List X)
orders [] = [] ∷ []
orders (a ∷ []) = (a ∷ []) ∷ []
orders (a ∷ b ∷ []) = (a ∷ b ∷ []) ∷ (b ∷ a ∷ []) ∷ []
orders (a ∷ b ∷ c ∷ xs) = (a ∷ b ∷ c ∷ []) ∷ (a ∷ c ∷ b ∷ []) ∷ (b ∷ a ∷ c ∷ []) ∷ (b ∷ c ∷ a ∷ []) ∷ (c ∷ a ∷ b ∷ []) ∷ (c ∷ b ∷ a ∷ []) ∷ []

-- the events are a group for each instant, its edges in any order
abbrev pub Groups : List Event → List Instant → Type 0
Groups es [] = es ≡ []
Groups es (i ∷ past) = (group : List Event) × (rest : List Event) × (es ≡ group ++ rest) × Contains (orders (events_of i)) group × Groups rest past
