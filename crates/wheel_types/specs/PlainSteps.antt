-- Legal steps, computed: what the definitions of standing, limits and legal step say, as tests and functions.
use Rattle.std.specs.Prelude.{ℕ, ◌+◌, ◌*◌, ◌^◌, Bool, true, false, cond, ◌&&◌, ◌||◌, not, List, [], ◌∷◌, Option, Some, None, ℤ, pos, ◌-ℤ◌, int_lt, int_le, nat_lt, nat_le, ◌==◌, option_and_then, is_some}
use Rattle.wheel_types.specs.declared.channel.Pol.{Pol}
use Rattle.wheel_types.specs.declared.channel.Pol.TheVariants.{Rise, Fall}
use Rattle.wheel_types.specs.declared.channel.Channel.{Channel}
use Rattle.wheel_types.specs.declared.channel.Channel.TheVariants.{Crank, Cam1, Cam2}
use Rattle.wheel_types.specs.declared.place.Place.{Place}
use Rattle.wheel_types.specs.declared.instant.Instant.{Instant}
use Rattle.wheel_types.specs.declared.parts.WheelParts.{WheelParts}
use Rattle.wheel_types.specs.Edges.{edge_count, slot_count, pol_of, angle_of, first_angle, last_angle}
use Rattle.wheel_types.specs.Motions.{Indices, index_of, passed, Event, orders, events_of, slots_between, time_between}
use Rattle.wheel_types.specs.Verdicts.{place_of}
use Rattle.wheel_types.specs.Steps.{indices_of, crank_times}

-- whether two polarities are one
abbrev pub same_pol : Pol → Pol → Bool
same_pol Rise Rise = true
same_pol Rise Fall = false
same_pol Fall Rise = false
same_pol Fall Fall = true

-- the least angle from x on at which edge n - 1 of the cam may have fallen
abbrev pub cam_low : WheelParts → Channel → ℤ → ℤ → ℤ
cam_low w c n x = cond (edge_count w c == 0) x (cond (int_lt x (first_angle w c (n -ℤ pos 1))) (first_angle w c (n -ℤ pos 1)) x)

-- the greatest angle up to x at which edge n of the cam need not have fallen
abbrev pub cam_high : WheelParts → Channel → ℤ → ℤ → ℤ
cam_high w c n x = cond (edge_count w c == 0) x (cond (int_lt (last_angle w c n) x) (last_angle w c n) x)

-- the least angle that can stand with these next edges
abbrev pub low_of : WheelParts → Indices → ℤ
low_of w ix = cam_low w Cam1 ix.cam1 (cam_low w Cam2 ix.cam2 (angle_of w Crank (ix.crank -ℤ pos 1)))

-- the greatest angle that can stand with these next edges
abbrev pub high_of : WheelParts → Indices → ℤ
high_of w ix = cam_high w Cam1 ix.cam1 (cam_high w Cam2 ix.cam2 (angle_of w Crank ix.crank))

-- the index of an absent cam is 0
abbrev pub is_counted : WheelParts → Channel → ℤ → Bool
is_counted w c n = not (edge_count w c == 0) || (int_le n (pos 0) && int_le (pos 0) n)

-- whether some angle stands with these next edges
abbrev pub is_standing : WheelParts → Indices → Bool
is_standing w ix = int_le (low_of w ix) (high_of w ix) && (is_counted w Cam1 ix.cam1 && is_counted w Cam2 ix.cam2)

-- the next edges after this edge, where it is of the polarity seen and they stand
abbrev pub pass_event : WheelParts → Event → Indices → Option Indices
pass_event w e mid = cond (nat_lt 0 (edge_count w e.channel) && (same_pol (pol_of w e.channel (index_of mid e.channel)) e.polarity && is_standing w (passed e.channel mid))) (Some (passed e.channel mid)) None

-- the next edges after these edges, the last one first, where each of them can be passed
abbrev pub walk : WheelParts → Indices → List Event → Option Indices
walk w from [] = Some from
walk w from (e ∷ es) = option_and_then (pass_event w e) (walk w from es)

-- the next edges after the first of these orders that works
abbrev pub first_walk : WheelParts → Indices → List (List Event) → Option Indices
first_walk w from [] = None
first_walk w from (o ∷ os) = cond (is_some (walk w from o)) (walk w from o) (first_walk w from os)

-- whether s slots in t femtoseconds keep the limits of speed
abbrev pub keeps_speed : WheelParts → ℕ → ℕ → Bool
keeps_speed w s t = nat_le 1 t && (nat_le (w.rpm_low * 6 * slot_count w * t) (s * w.degrees * 10 ^ 15) && nat_le (s * w.degrees * 10 ^ 15) (w.rpm_high * 6 * slot_count w * t))

-- whether s0 slots in t0 and then s1 slots in t1 keep the limit on the ratio of two speeds
abbrev pub keeps_ratio : WheelParts → ℕ → ℕ → ℕ → ℕ → Bool
keeps_ratio w s0 t0 s1 t1 = nat_le (s0 * t1 * w.rd) (s1 * t0 * w.rn) && nat_le (s1 * t0 * w.rd) (s0 * t1 * w.rn)

-- whether crank edge m at the time t, after crank edges at these times, keeps the limits
abbrev pub keeps_gaps : WheelParts → ℤ → ℤ → List ℤ → Bool
keeps_gaps w m t [] = true
keeps_gaps w m t (u ∷ []) = keeps_speed w (slots_between w (m -ℤ pos 1) m) (time_between u t)
keeps_gaps w m t (u ∷ v ∷ ts) = keeps_speed w (slots_between w (m -ℤ pos 1) m) (time_between u t) && keeps_ratio w (slots_between w ((m -ℤ pos 1) -ℤ pos 1) (m -ℤ pos 1)) (time_between v u) (slots_between w (m -ℤ pos 1) m) (time_between u t)

-- the same where a crank edge is seen
abbrev pub keeps_gaps_if : Option Pol → WheelParts → ℤ → ℤ → List ℤ → Bool
keeps_gaps_if None w m t ts = true
keeps_gaps_if (Some p) w m t ts = keeps_gaps w m t ts

-- the legal step of a place at an instant, within a window that has the instants of the past
abbrev pub legal_step : WheelParts → List Instant → Instant → Place → Option Place
legal_step w past i p = cond (keeps_gaps_if i.crank w (pos (p.j + 1)) i.time (crank_times past)) (option_and_then (λ ix. Some (place_of w ix)) (first_walk w (indices_of p) (orders (events_of i)))) None
