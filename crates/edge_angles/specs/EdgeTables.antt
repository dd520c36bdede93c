-- Tables of a wheel's kept edges.
use Rattle.std.specs.Prelude.{◌≡◌, ℕ, Bool, true, false, List, map, Option, Some, None}
use Rattle.wheel_types.specs.declared.channel.Pol.{Pol}
use Rattle.wheel_types.specs.declared.channel.Channel.{Channel}
use Rattle.wheel_types.specs.declared.channel.Channel.TheVariants.{Crank, Cam1, Cam2}
use Rattle.wheel_types.specs.declared.parts.WheelParts.{WheelParts}
use Rattle.wheel_types.specs.Edges.{slot_count, edge_slots, level_of, pol_to}
use Rattle.edge_angles.specs.declared.edges.Edge.{Edge}
use Rattle.edge_angles.specs.declared.edges.Edges.{Edges}

-- the polarity where the test holds
abbrev pub some_if : Bool → Pol → Option Pol
some_if true p = Some p
some_if false p = None

-- the edge at the start of slot k, with the polarity to its level
abbrev pub edge_from : WheelParts → Channel → ℕ → Edge
edge_from w c k = record { slot = k; pol = pol_to (level_of w c k) }

-- the kept edges of a channel, with their slots and polarities
abbrev pub edges_of : WheelParts → Channel → List Edge
edges_of w c = map (edge_from w c) (edge_slots w c)

-- the edges that a table has of a channel
abbrev pub edges_in : Edges → Channel → List Edge
edges_in e Crank = e.crank
edges_in e Cam1 = e.cam1
edges_in e Cam2 = e.cam2

-- the table has the wheel's edges
pub record AreEdgesOf (w : WheelParts) (e : Edges) : Type 0 where
  pub slots : e.slots ≡ slot_count w
  pub edges : (c : Channel) → edges_in e c ≡ edges_of w c
