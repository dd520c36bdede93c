-- The instants of a stimulus that is made up to some angle.
use Rattle.std.specs.Prelude.{◌≡◌, ℕ, suc, ◌<◌, ◌↔◌, List, ℤ, pos, ◌<ℤ◌, Contains}
use Rattle.std.specs.List.{AllByRecursion}
use Rattle.wheel_types.specs.declared.channel.Channel.{Channel}
use Rattle.wheel_types.specs.declared.channel.Channel.TheVariants.{Cam1, Cam2}
use Rattle.wheel_types.specs.declared.instant.Instant.{Instant}
use Rattle.wheel_types.specs.declared.parts.WheelParts.{WheelParts}
use Rattle.wheel_types.specs.Edges.{edge_count}
use Rattle.wheel_types.specs.Verdicts.{IsRising}
use Rattle.stimulus.specs.Gaps.{crank_angle}
use Rattle.stimulus.specs.Cams.{cam_angle, IsInGap, time_in}
use Rattle.stimulus_files.specs.Changes.{Edge, edges_on}
use Rattle.stimulus.specs.MadeEdges.{HasEdge}

-- at an angle of gap m the cam has passed its first k edges, which are before the gap's end, and no others
pub record HasPassed (w : WheelParts) (c : Channel) (seed m k : ℕ) (x : ℤ) : Type 0 where
  pub absent : edge_count w c ≡ 0 → k ≡ 0
  pub before : (n : ℕ) → n < k → cam_angle w c seed n <ℤ crank_angle w seed (suc m)
  pub ahead : 0 < edge_count w c → x <ℤ cam_angle w c seed k

-- the instants have exactly the edges up to this angle of gap m, of which so many are of the cams
pub record IsMadeTo (w : WheelParts) (seed m k1 k2 : ℕ) (x : ℤ) (is : List Instant) : Type 0 where
  pub gap : IsInGap w seed m x
  pub cam1 : HasPassed w Cam1 seed m k1 x
  pub cam2 : HasPassed w Cam2 seed m k2 x
  pub rise : IsRising is
  pub last : (t : ℤ) → pos (time_in w seed m x) <ℤ t → AllByRecursion (λ (i : Instant). i.time <ℤ t) is
  pub edges : (c : Channel) (e : Edge) → Contains (edges_on c is) e ↔ HasEdge c w seed (suc m) k1 k2 e
