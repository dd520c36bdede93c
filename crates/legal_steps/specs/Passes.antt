-- Edges that the engine passes, from place to place.
use Rattle.std.specs.Prelude.{◌≡◌, ◌<◌, ◌⊎◌, Option, Some, None}
use Rattle.wheel_types.specs.declared.channel.Channel.{Channel}
use Rattle.wheel_types.specs.declared.channel.Channel.TheVariants.{Crank, Cam1, Cam2}
use Rattle.wheel_types.specs.declared.channel.Pol.{Pol}
use Rattle.wheel_types.specs.declared.place.Place.{Place}
use Rattle.wheel_types.specs.declared.instant.Instant.{Instant}
use Rattle.wheel_types.specs.declared.parts.WheelParts.{WheelParts}
use Rattle.wheel_types.specs.Edges.{edge_count, pol_of}
use Rattle.wheel_types.specs.Motions.{index_of, passed}
use Rattle.wheel_types.specs.Verdicts.{place_of}
use Rattle.wheel_types.specs.Steps.{indices_of, IsStanding}
use Rattle.legal_steps.specs.declared.passes.Seen.{Seen}

-- the channel's next edge is of this polarity
pub record IsNextEdge (w : WheelParts) (p : Place) (c : Channel) (pol : Pol) : Type 0 where
  pub present : 0 < edge_count w c
  pub polarity : pol_of w c (index_of (indices_of p) c) ≡ pol

-- the engine can pass the channel's next edge, of this polarity, and comes from the place p to the place q
pub record IsPass (w : WheelParts) (p : Place) (c : Channel) (pol : Pol) (q : Place) : Type 0 where
  pub edge : IsNextEdge w p c pol
  pub standing : IsStanding w (passed c (indices_of p))
  pub end : q ≡ place_of w (passed c (indices_of p))

-- the same where an edge is seen of the channel, and no move where none is
abbrev pub PassesIf : WheelParts → Place → Channel → Option Pol → Place → Type 0
PassesIf w p c None q = q ≡ p
PassesIf w p c (Some pol) q = IsPass w p c pol q

-- the same for what is seen of a channel
abbrev pub Passes : WheelParts → Place → Seen → Place → Type 0
Passes w p s q = PassesIf w p s.channel s.edge q

-- the one and then the other
abbrev pub PassesBoth : WheelParts → Place → Seen → Seen → Place → Type 0
PassesBoth w p a b q = (m : Place) × (Passes w p a m × Passes w m b q)

-- the first one, and then the two others in one of their orders
abbrev pub PassesFirst : WheelParts → Place → Seen → Seen → Seen → Place → Type 0
PassesFirst w p a b c q = (m : Place) × (Passes w p a m × (PassesBoth w m b c q ⊎ PassesBoth w m c b q))

-- all three, in some order
abbrev pub PassesAll : WheelParts → Place → Seen → Seen → Seen → Place → Type 0
PassesAll w p a b c q = PassesFirst w p a b c q ⊎ (PassesFirst w p b a c q ⊎ PassesFirst w p c a b q)

-- the edges of an instant, in some order
abbrev pub PassesInstant : WheelParts → Place → Instant → Place → Type 0
PassesInstant w p i q =
    PassesAll w p (record { channel = Crank; edge = i.crank }) (record { channel = Cam1; edge = i.cam1 })
    (record { channel = Cam2; edge = i.cam2 }) q

-- a place with the property, or None where no place has it
abbrev pub Finds : (Place → Type 0) → Option Place → Type 0
Finds P None = (q : Place) → P q → ⊥
Finds P (Some q) = P q
