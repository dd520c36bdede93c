-- The crank's edges of a stimulus, gap by gap. Its generator is that of stream 0.
use Rattle.std.specs.Prelude.{ℕ, zero, suc, ◌+◌, ◌-◌, ◌*◌, ◌/◌, ◌^◌, ◌<◌, ◌≤◌, Option, Some, None, ℤ, pos, ◌≡◌}
use Rattle.std.specs.Int.{div_ceil}
use Rattle.std.specs.Prelude.{max, min}
use Rattle.wheel_types.specs.declared.channel.Channel.TheVariants.{Crank}
use Rattle.wheel_types.specs.declared.parts.WheelParts.{WheelParts}
use Rattle.wheel_types.specs.Edges.{edge_count, angle_of}
use Rattle.wheel_types.specs.Speeds.{slots_between}
use Rattle.motion_bounds.specs.Times.{least_of, greatest_of}
use Rattle.stimulus.specs.Draws.{generator_of, before_draw, drawn}

-- the number of the first crank edge, drawn from those of a cycle
unfoldable pub first_edge : WheelParts → ℕ → ℕ
first_edge w seed = drawn 0 (edge_count w Crank - 1) (before_draw (generator_of seed 0) 0)

-- crank edge i of the stimulus, from 0, among those of the wheel
abbrev pub crank_edge : WheelParts → ℕ → ℕ → ℤ
crank_edge w seed i = pos (first_edge w seed + i)

-- its angle
abbrev pub crank_angle : WheelParts → ℕ → ℕ → ℤ
crank_angle w seed i = angle_of w Crank (crank_edge w seed i)

-- the slots of gap i, from crank edge i to the next
abbrev pub gap_slots : WheelParts → ℕ → ℕ → ℕ
gap_slots w seed i = slots_between w (crank_edge w seed i) (crank_edge w seed (i + 1))

-- a gap that has passed
pub record Gap : Type 0 where
  pub slots : ℕ
  pub time : ℕ

-- the least time that the limits on speed and on the ratio allow to so many slots, after another gap or none
abbrev pub least_after : WheelParts → Option Gap → ℕ → ℕ
least_after w None s = least_of w s
least_after w (Some g) s = max (least_of w s) (div_ceil (s * g.time * w.rd) (g.slots * w.rn))

-- the greatest time that they allow
abbrev pub greatest_after : WheelParts → Option Gap → ℕ → ℕ
greatest_after w None s = greatest_of w s
greatest_after w (Some g) s = min (greatest_of w s) (s * g.time * w.rn / (g.slots * w.rd))

-- the gap before gap i, if there is one: its slots, and its time, which is drawn between the least and the greatest
unfoldable pub gap_before : WheelParts → ℕ → ℕ → Option Gap
gap_before w seed zero = None
gap_before w seed (suc i) =
    let s = gap_slots w seed i in
    let before = gap_before w seed i in
    let g = before_draw (generator_of seed 0) (suc i) in
    Some (record { slots = s; time = drawn (least_after w before s) (greatest_after w before s) g })

-- the least time of gap i
abbrev pub gap_least : WheelParts → ℕ → ℕ → ℕ
gap_least w seed i = least_after w (gap_before w seed i) (gap_slots w seed i)

-- its greatest time
abbrev pub gap_greatest : WheelParts → ℕ → ℕ → ℕ
gap_greatest w seed i = greatest_after w (gap_before w seed i) (gap_slots w seed i)

-- the time that is drawn for it
abbrev pub gap_time : WheelParts → ℕ → ℕ → ℕ
gap_time w seed i = drawn (gap_least w seed i) (gap_greatest w seed i) (before_draw (generator_of seed 0) (suc i))

-- the time of the first crank edge
abbrev pub first_time : ℕ
first_time = 10 ^ 12

-- the time of crank edge i
abbrev pub crank_time : WheelParts → ℕ → ℕ → ℕ
crank_time w seed zero = first_time
crank_time w seed (suc i) = crank_time w seed i + gap_time w seed i

-- so many gaps have times
abbrev pub HasTimes : WheelParts → ℕ → ℕ → Type 0
HasTimes w seed gaps = (i : ℕ) → i < gaps → gap_least w seed i ≤ gap_greatest w seed i

-- of so many gaps this is the first that has no time, and these are its bounds
pub record IsStuck (w : WheelParts) (seed gaps gap low high : ℕ) : Type 0 where
  pub within : gap < gaps
  pub before : HasTimes w seed gap
  pub low_is : low ≡ gap_least w seed gap
  pub high_is : high ≡ gap_greatest w seed gap
  pub none : high < low
