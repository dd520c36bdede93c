-- The edges of the cams of a stimulus. Those of the first are drawn from stream 1, those of the second from stream 2.
use Rattle.std.specs.Prelude.{ℕ, zero, suc, ◌+◌, ◌*◌, ◌/◌, nat_lt, length, filter, slice_index}
use Rattle.std.specs.Prelude.{ℤ, pos, ◌+ℤ◌, ◌-ℤ◌, ◌≤ℤ◌, ◌<ℤ◌, unsigned_abs}
use Rattle.std.specs.Int.{int_max}
use Rattle.wheel_types.specs.declared.channel.Channel.{Channel}
use Rattle.wheel_types.specs.declared.channel.Channel.TheVariants.{Crank, Cam1, Cam2}
use Rattle.wheel_types.specs.declared.parts.WheelParts.{WheelParts}
use Rattle.wheel_types.specs.Edges.{edge_slots, first_angle, last_angle}
use Rattle.stimulus.specs.Draws.{generator_of, before_draw, drawn_angle}
use Rattle.stimulus.specs.Gaps.{first_edge, crank_angle, crank_time, gap_time}

-- the stream from which a channel's numbers are drawn
abbrev pub stream_of : Channel → ℕ
stream_of Crank = 0
stream_of Cam1 = 1
stream_of Cam2 = 2

-- how many edges of a cam's cycle are at slots before that of the first crank edge: the next one is the cam's first
unfoldable pub edges_before : WheelParts → Channel → ℕ → ℕ
edges_before w c seed = length (filter (λ k. nat_lt k (slice_index (edge_slots w Crank) (first_edge w seed))) (edge_slots w c))

-- edge k of a cam in the stimulus, from 0, among those of the wheel
abbrev pub cam_edge : WheelParts → Channel → ℕ → ℕ → ℤ
cam_edge w c seed k = pos (edges_before w c seed + k)

-- the angle of edge k, drawn from those of its range that are not before this one
abbrev pub angle_from : WheelParts → Channel → ℕ → ℕ → ℤ → ℤ
angle_from w c seed k x =
    drawn_angle
    (int_max (first_angle w c (cam_edge w c seed k)) x)
    (last_angle w c (cam_edge w c seed k))
    (before_draw (generator_of seed (stream_of c)) k)

-- the angle from which edge k may come: that of the first crank edge, and past the edge before
unfoldable pub free_from : WheelParts → Channel → ℕ → ℕ → ℤ
free_from w c seed zero = crank_angle w seed 0
free_from w c seed (suc k) = angle_from w c seed k (free_from w c seed k) +ℤ pos 1

-- the angle of edge k
abbrev pub cam_angle : WheelParts → Channel → ℕ → ℕ → ℤ
cam_angle w c seed k = angle_from w c seed k (free_from w c seed k)

-- the angle is in gap i, which ends before the next crank edge
pub record IsInGap (w : WheelParts) (seed i : ℕ) (x : ℤ) : Type 0 where
  pub from : crank_angle w seed i ≤ℤ x
  pub before : x <ℤ crank_angle w seed (i + 1)

-- the time at an angle of gap i, in which angles pass evenly: rounded down
abbrev pub time_in : WheelParts → ℕ → ℕ → ℤ → ℕ
time_in w seed i x =
    crank_time w seed i
    + gap_time w seed i * unsigned_abs (x -ℤ crank_angle w seed i) / unsigned_abs (crank_angle w seed (i + 1) -ℤ crank_angle w seed i)
