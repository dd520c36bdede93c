-- The edges of a stimulus that is made up to some gap.
use Rattle.std.specs.Prelude.{◌≡◌, ℕ, ◌<◌}
use Rattle.wheel_types.specs.declared.channel.Channel.{Channel}
use Rattle.wheel_types.specs.declared.channel.Channel.TheVariants.{Crank, Cam1, Cam2}
use Rattle.wheel_types.specs.declared.parts.WheelParts.{WheelParts}
use Rattle.stimulus_files.specs.Changes.{Edge}
use Rattle.stimulus.specs.Drawn.{crank_edge_at, IsEdgeIn}

-- the edge is one of those made: crank edges before edge i, and cam edges before edge k in gaps before gap i
abbrev pub CamHasEdge : WheelParts → Channel → ℕ → ℕ → ℕ → Edge → Type 0
CamHasEdge w c seed i k e = (j n : ℕ) × (j < i) × (n < k) × IsEdgeIn w c seed j n e

abbrev pub HasEdge : Channel → WheelParts → ℕ → ℕ → ℕ → ℕ → Edge → Type 0
HasEdge Crank w seed i k1 k2 e = (j : ℕ) × (j < i) × (e ≡ crank_edge_at w seed j)
HasEdge Cam1 w seed i k1 k2 e = CamHasEdge w Cam1 seed i k1 e
HasEdge Cam2 w seed i k1 k2 e = CamHasEdge w Cam2 seed i k2 e
