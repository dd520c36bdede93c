-- The motion of a stimulus and its instants.
use Rattle.std.specs.Prelude.{◌≡◌, ℕ, ◌+◌, ◌<◌, ◌≤◌, ◌↔◌, List, reverse, pos, ◌<ℤ◌, ◌≤ℤ◌, Contains}
use Rattle.wheel_types.specs.declared.channel.Channel.{Channel}
use Rattle.wheel_types.specs.declared.channel.Channel.TheVariants.{Crank, Cam1, Cam2}
use Rattle.wheel_types.specs.declared.instant.Instant.{Instant}
use Rattle.wheel_types.specs.declared.parts.WheelParts.{WheelParts}
use Rattle.wheel_types.specs.Edges.{edge_count, pol_of}
use Rattle.wheel_types.specs.Motions.{Indices, Move, Motion, IsPermitted, Gives}
use Rattle.wheel_types.specs.Verdicts.{IsRising}
use Rattle.stimulus.specs.Gaps.{crank_edge, crank_angle, crank_time}
use Rattle.stimulus.specs.Cams.{cam_edge, cam_angle, IsInGap, time_in}
use Rattle.stimulus_files.specs.Changes.{Edge, edges_on}

-- the next edges when the stimulus begins
abbrev pub start_of : WheelParts → ℕ → Indices
start_of w seed = record { crank = crank_edge w seed 0; cam1 = cam_edge w Cam1 seed 0; cam2 = cam_edge w Cam2 seed 0 }

-- crank edge i, at its time and angle
abbrev pub crank_move : WheelParts → ℕ → ℕ → Move
crank_move w seed i = record { time = pos (crank_time w seed i); channel = Crank; angle = crank_angle w seed i }

-- edge k of a cam, at its time in gap i and its angle
abbrev pub cam_move : WheelParts → Channel → ℕ → ℕ → ℕ → Move
cam_move w c seed i k = record { time = pos (time_in w seed i (cam_angle w c seed k)); channel = c; angle = cam_angle w c seed k }

-- edge k of a cam falls in gap i, and this is its move
pub record FallsIn (w : WheelParts) (c : Channel) (seed i k : ℕ) (v : Move) : Type 0 where
  pub present : 0 < edge_count w c
  pub gap : IsInGap w seed i (cam_angle w c seed k)
  pub move : v ≡ cam_move w c seed i k

-- the move is one of a cam, in the first so many gaps
abbrev pub IsCamMove : WheelParts → Channel → ℕ → ℕ → Move → Type 0
IsCamMove w c seed gaps v = (i k : ℕ) × (i < gaps) × FallsIn w c seed i k v

-- the move is one of the stimulus
abbrev pub IsMoveOn : Channel → WheelParts → ℕ → ℕ → Move → Type 0
IsMoveOn Crank w seed gaps v = (i : ℕ) × (i ≤ gaps) × (v ≡ crank_move w seed i)
IsMoveOn Cam1 w seed gaps v = IsCamMove w Cam1 seed gaps v
IsMoveOn Cam2 w seed gaps v = IsCamMove w Cam2 seed gaps v

-- the motion begins at the first crank edge and makes exactly these moves
pub record IsDrawn (w : WheelParts) (seed gaps : ℕ) (e : Motion) : Type 0 where
  pub angle : e.angle ≡ crank_angle w seed 0
  pub start : e.start ≡ start_of w seed
  pub moves : (v : Move) → Contains e.moves v ↔ IsMoveOn v.channel w seed gaps v

-- crank edge i: its time and polarity
abbrev pub crank_edge_at : WheelParts → ℕ → ℕ → Edge
crank_edge_at w seed i = record { time = pos (crank_time w seed i); polarity = pol_of w Crank (crank_edge w seed i) }

-- edge k of a cam, in gap i
abbrev pub cam_edge_at : WheelParts → Channel → ℕ → ℕ → ℕ → Edge
cam_edge_at w c seed i k = record { time = pos (time_in w seed i (cam_angle w c seed k)); polarity = pol_of w c (cam_edge w c seed k) }

-- edge k of a cam falls in gap i, and is this one
pub record IsEdgeIn (w : WheelParts) (c : Channel) (seed i k : ℕ) (e : Edge) : Type 0 where
  pub present : 0 < edge_count w c
  pub gap : IsInGap w seed i (cam_angle w c seed k)
  pub edge : e ≡ cam_edge_at w c seed i k

-- the edge is one of a cam, in the first so many gaps
abbrev pub IsCamEdge : WheelParts → Channel → ℕ → ℕ → Edge → Type 0
IsCamEdge w c seed gaps e = (i k : ℕ) × (i < gaps) × IsEdgeIn w c seed i k e

-- the edge is one of the channel in the stimulus
abbrev pub IsDrawnEdge : Channel → WheelParts → ℕ → ℕ → Edge → Type 0
IsDrawnEdge Crank w seed gaps e = (i : ℕ) × (i ≤ gaps) × (e ≡ crank_edge_at w seed i)
IsDrawnEdge Cam1 w seed gaps e = IsCamEdge w Cam1 seed gaps e
IsDrawnEdge Cam2 w seed gaps e = IsCamEdge w Cam2 seed gaps e

-- the instants are those of the drawn motion, which is permitted, and have exactly the drawn edges
pub record IsStimulus (w : WheelParts) (seed gaps : ℕ) (is : List Instant) : Type 0 where
  pub motion : Motion
  pub is_drawn : IsDrawn w seed gaps motion
  pub permitted : IsPermitted w motion
  pub gives : Gives w motion (reverse is)
  pub rise : IsRising is
  pub edges : (c : Channel) (e : Edge) → Contains (edges_on c is) e ↔ IsDrawnEdge c w seed gaps e

-- so many edges of a cam are in the first so many gaps
pub record IsCamCount (w : WheelParts) (c : Channel) (seed gaps n : ℕ) : Type 0 where
  pub absent : edge_count w c ≡ 0 → n ≡ 0
  pub before : (k : ℕ) → k < n → cam_angle w c seed k <ℤ crank_angle w seed gaps
  pub from : 0 < edge_count w c → crank_angle w seed gaps ≤ℤ cam_angle w c seed n

-- so many edges are in the stimulus
pub record IsEdgeCount (w : WheelParts) (seed gaps n : ℕ) : Type 0 where
  pub cam1 : ℕ
  pub cam2 : ℕ
  pub first : IsCamCount w Cam1 seed gaps cam1
  pub second : IsCamCount w Cam2 seed gaps cam2
  pub all : n ≡ gaps + 1 + cam1 + cam2
