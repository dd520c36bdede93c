-- The kept edges of a wheel, unrolled over every cycle.
use Rattle.std.specs.Prelude.{ℕ, zero, suc, ◌-◌, ◌*◌, ◌/◌, ◌%◌, ◌^◌, List, [], ◌∷◌, ◌++◌, length, filter, slice_index, Option, Some, None, ℤ, pos, ◌+ℤ◌, ◌-ℤ◌, ◌*ℤ◌, unsigned_abs, is_some}
use Rattle.std.specs.Int.{int_div_euclid, int_rem_euclid}
use Rattle.wheel_types.specs.declared.channel.Pol.{Pol}
use Rattle.wheel_types.specs.declared.channel.Pol.TheVariants.{Rise, Fall}
use Rattle.wheel_types.specs.declared.channel.Keep.{Keep}
use Rattle.wheel_types.specs.declared.channel.Keep.TheVariants.{Rising, Falling, Both}
use Rattle.wheel_types.specs.declared.channel.Channel.{Channel}
use Rattle.wheel_types.specs.declared.channel.Channel.TheVariants.{Crank, Cam1, Cam2}
use Rattle.wheel_types.specs.declared.parts.WheelParts.{WheelParts}

-- the numbers below n, ascending
abbrev pub below : ℕ → List ℕ
below zero = []
below (suc n) = below n ++ n ∷ []

-- how many slots a cycle has
abbrev pub slot_count : WheelParts → ℕ
slot_count w = length w.slots

-- the bit of a slot that is the channel's level
abbrev pub bit_of : Channel → ℕ
bit_of Crank = 0
bit_of Cam1 = 1
bit_of Cam2 = 2

-- which edges of a channel are kept
abbrev pub keep_of : WheelParts → Channel → Keep
keep_of w Crank = w.crank
keep_of w Cam1 = w.cam1
keep_of w Cam2 = w.cam2

-- by how many millidegrees an edge of a channel may fall before its angle
abbrev pub early_of : WheelParts → Channel → ℕ
early_of w Crank = 0
early_of w Cam1 = w.cam1_early
early_of w Cam2 = w.cam2_early

-- and after it
abbrev pub late_of : WheelParts → Channel → ℕ
late_of w Crank = 0
late_of w Cam1 = w.cam1_late
late_of w Cam2 = w.cam2_late

-- the level of a channel in slot k
abbrev pub level_of : WheelParts → Channel → ℕ → ℕ
level_of w c k = slice_index w.slots k / 2 ^ bit_of c % 2

-- the slot before slot k, the last one standing before slot 0
abbrev pub slot_before : WheelParts → ℕ → ℕ
slot_before w zero = slot_count w - 1
slot_before w (suc k) = k

-- the edge from one level to another
abbrev pub change : ℕ → ℕ → Option Pol
change zero zero = None
change zero (suc b) = Some Rise
change (suc a) zero = Some Fall
change (suc a) (suc b) = None

-- the edge where it is of a kept polarity
abbrev pub kept : Keep → Option Pol → Option Pol
kept k None = None
kept Rising (Some Rise) = Some Rise
kept Rising (Some Fall) = None
kept Falling (Some Rise) = None
kept Falling (Some Fall) = Some Fall
kept Both (Some p) = Some p

-- the kept edge at the start of slot k
abbrev pub edge_at : WheelParts → Channel → ℕ → Option Pol
edge_at w c k = kept (keep_of w c) (change (level_of w c (slot_before w k)) (level_of w c k))

-- the slots of the kept edges of a channel, ascending
abbrev pub edge_slots : WheelParts → Channel → List ℕ
edge_slots w c = filter (λ k. is_some (edge_at w c k)) (below (slot_count w))

-- how many kept edges a channel has: J, K1, K2
abbrev pub edge_count : WheelParts → Channel → ℕ
edge_count w c = length (edge_slots w c)

-- the number of edge m within its cycle
abbrev pub number_of : ℕ → ℤ → ℕ
number_of count m = unsigned_abs (int_rem_euclid m (pos count))

-- the cycle of edge m
abbrev pub cycle_of : ℕ → ℤ → ℤ
cycle_of count m = int_div_euclid m (pos count)

-- the slot of edge m, counted on through all cycles
abbrev pub slot_of : WheelParts → Channel → ℤ → ℤ
slot_of w c m = cycle_of (edge_count w c) m *ℤ pos (slot_count w) +ℤ pos (slice_index (edge_slots w c) (number_of (edge_count w c) m))

-- the angle of edge m, in units: one millidegree is as many units as the wheel has slots
abbrev pub angle_of : WheelParts → Channel → ℤ → ℤ
angle_of w c m = pos (1000 * w.degrees) *ℤ slot_of w c m

-- the polarity of an edge to this level
abbrev pub pol_to : ℕ → Pol
pol_to zero = Fall
pol_to (suc b) = Rise

-- the polarity of edge m
abbrev pub pol_of : WheelParts → Channel → ℤ → Pol
pol_of w c m = pol_to (level_of w c (slice_index (edge_slots w c) (number_of (edge_count w c) m)))

-- the first angle at which edge n may fall
abbrev pub first_angle : WheelParts → Channel → ℤ → ℤ
first_angle w c n = angle_of w c n -ℤ pos (early_of w c * slot_count w)

-- the last angle at which edge n may fall
abbrev pub last_angle : WheelParts → Channel → ℤ → ℤ
last_angle w c n = angle_of w c n +ℤ pos (late_of w c * slot_count w)
