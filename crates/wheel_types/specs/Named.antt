-- The one motion that a start place names, where a permitted motion from there gives the instants.
use Rattle.std.specs.Prelude.{◌≡◌, ℕ, ◌<◌, ◌⊎◌, List, [], ◌∷◌, ◌++◌, reverse, ℤ, ◌≤ℤ◌, ⊤, Contains}
use Rattle.wheel_types.specs.declared.channel.Channel.{Channel}
use Rattle.wheel_types.specs.declared.channel.Channel.TheVariants.{Crank, Cam1, Cam2}
use Rattle.wheel_types.specs.declared.place.Place.{Place}
use Rattle.wheel_types.specs.declared.instant.Instant.{Instant}
use Rattle.wheel_types.specs.declared.parts.WheelParts.{WheelParts}
use Rattle.wheel_types.specs.Motions.{Indices, passed, Stands, Move, Motion, Event, orders, events_of, events_passed, indices_after}
use Rattle.wheel_types.specs.Steps.{indices_of, Walks}

-- x is the least angle at which the engine stands with these next edges
pub record IsLeastAngle (w : WheelParts) (ix : Indices) (x : ℤ) : Type 0 where
  pub stands : Stands w x ix
  pub least : (y : ℤ) → Stands w y ix → x ≤ℤ y

-- each move is at the least angle that stands with the next edges after it
abbrev pub AtLeastAngles : WheelParts → Indices → List Move → Type 0
AtLeastAngles w ix [] = ⊤
AtLeastAngles w ix (v ∷ vs) = IsLeastAngle w (passed v.channel (indices_after ix vs)) v.angle × AtLeastAngles w ix vs

-- crank before first cam before second cam
abbrev pub rank_of : Channel → ℕ
rank_of Crank = 0
rank_of Cam1 = 1
rank_of Cam2 = 2

-- the first of these lists of edges, whose first edge stands first, is not after the other: their channels are compared in turn
abbrev pub IsNotAfter : List Event → List Event → Type 0
IsNotAfter [] fs = ⊤
IsNotAfter (e ∷ es) [] = ⊥
IsNotAfter (e ∷ es) (f ∷ fs) = (rank_of e.channel < rank_of f.channel) ⊎ ((e.channel ≡ f.channel) × IsNotAfter es fs)

-- an order of edges works where a walk over standing places passes them so
abbrev pub Works : WheelParts → Indices → List Event → Type 0
Works w from order = (to : Indices) × Walks w from order to

-- of the orders of the instant's edges that work from these next edges, this is the first
pub record IsFirstOrder (w : WheelParts) (from : Indices) (i : Instant) (order : List Event) : Type 0 where
  pub is_order : Contains (orders (events_of i)) order
  pub works : Works w from order
  pub first : (other : List Event) → Contains (orders (events_of i)) other → Works w from other → IsNotAfter (reverse order) (reverse other)

-- the moves are a group for each instant, its edges in the first order that works
abbrev pub InFirstOrders : WheelParts → Indices → List Move → List Instant → Type 0
InFirstOrders w ix vs [] = vs ≡ []
InFirstOrders w ix vs (i ∷ past) = (group : List Move) × (before : List Move) × (vs ≡ group ++ before) × IsFirstOrder w (indices_after ix before) i (events_passed w (indices_after ix before) group) × InFirstOrders w ix before past

-- the motion that the start place names over the instants
pub record IsNamedMotion (w : WheelParts) (past : List Instant) (from : Place) (e : Motion) : Type 0 where
  -- it starts with the next edges of the place, at the least angle that stands with them
  pub start : e.start ≡ indices_of from
  pub angle : IsLeastAngle w e.start e.angle
  -- within an instant its moves have the first of the orders that work
  pub groups : InFirstOrders w e.start e.moves past
  -- each move is at the least angle that stands with the place after it
  pub angles : AtLeastAngles w e.start e.moves
