-- How many edges the instants of a window have, and places taken back by them. Lists of instants have the last one first.
use Rattle.std.specs.Prelude.{◌≡◌, ◌+◌, ◌≤◌, ℕ, List, [], ◌∷◌, Option, Some, None, pos, ◌-ℤ◌}
use Rattle.std.specs.Int.{saturate_signed, w32}
use Rattle.wheel_types.specs.declared.channel.Pol.{Pol}
use Rattle.wheel_types.specs.declared.channel.Channel.TheVariants.{Crank, Cam1, Cam2}
use Rattle.wheel_types.specs.declared.instant.Instant.{Instant}
use Rattle.wheel_types.specs.declared.place.Place.{Place}
use Rattle.wheel_types.specs.declared.parts.WheelParts.{WheelParts}
use Rattle.wheel_types.specs.Edges.{edge_count}
use Rattle.wheel_types.specs.Motions.{Indices}
use Rattle.wheel_types.specs.Steps.{indices_of}
use Rattle.wheel_types.specs.Verdicts.{place_of}
use Rattle.replay_core.specs.declared.counts.EdgeCounts.{EdgeCounts}
use Rattle.replay_core.specs.declared.starts.CycleEdges.{CycleEdges}

-- one more, where there is an edge
abbrev pub more_if : Option Pol → ℕ → ℕ
more_if None n = n
more_if (Some p) n = n + 1

-- the counts with those of one more instant
abbrev pub with_edges : Instant → EdgeCounts → EdgeCounts
with_edges i c = record { crank = more_if i.crank c.crank; cam1 = more_if i.cam1 c.cam1; cam2 = more_if i.cam2 c.cam2 }

-- no edges
abbrev pub no_edges : EdgeCounts
no_edges = record { crank = 0; cam1 = 0; cam2 = 0 }

-- how many edges of each channel the instants have
abbrev pub counts_of : List Instant → EdgeCounts
counts_of [] = no_edges
counts_of (i ∷ since) = with_edges i (counts_of since)

-- no channel has more edges than that
pub record AreAtMost (n : ℕ) (c : EdgeCounts) : Type 0 where
  pub crank : c.crank ≤ n
  pub cam1 : c.cam1 ≤ n
  pub cam2 : c.cam2 ≤ n

-- so many edges of each channel stand in a cycle of the wheel
pub record AreEdgesIn (w : WheelParts) (c : CycleEdges) : Type 0 where
  pub crank : c.crank ≡ edge_count w Crank
  pub cam1 : c.cam1 ≡ edge_count w Cam1
  pub cam2 : c.cam2 ≡ edge_count w Cam2

-- the next edges before so many edges
abbrev pub before_edges : EdgeCounts → Indices → Indices
before_edges c ix = record { crank = ix.crank -ℤ pos c.crank; cam1 = ix.cam1 -ℤ pos c.cam1; cam2 = ix.cam2 -ℤ pos c.cam2 }

-- the place with its cam indices cut down to the nearest ends of the range of 32 bits
abbrev pub cut_place : Place → Place
cut_place p = record { j = p.j; n1 = saturate_signed w32 p.n1; n2 = saturate_signed w32 p.n2 }

-- the place taken back by so many edges, and its indices cut down
abbrev pub place_back : WheelParts → EdgeCounts → Place → Place
place_back w c p = cut_place (place_of w (before_edges c (indices_of p)))
