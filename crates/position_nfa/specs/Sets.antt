-- What the letters make of sets of places.
use Rattle.std.specs.Prelude.{ℕ, zero, suc, ◌+◌, ◌-◌, ◌*◌, ◌/◌, ◌%◌, ◌==◌, if◌then◌else◌, nat_lt, nat_le, List, Option, Some, None}
use Rattle.std.specs.Prelude.{Bool, true, false, ◌&&◌, ◌||◌, int_le, pos, ◌-ℤ◌}
use Rattle.wheel_types.specs.declared.place.Place.{Place}
use Rattle.wheel_types.specs.declared.parts.WheelParts.{WheelParts}
use Rattle.wheel_types.specs.Shapes.{edge_of}
use Rattle.wheel_types.specs.Motions.{slots_between, events_at, orders}
use Rattle.motion_bounds.specs.Times.{least_of, greatest_of}
use Rattle.gap_thresholds.specs.declared.cuts.Cuts.{Cuts}
use Rattle.gap_thresholds.specs.Classes.{wheel_of, times_of, ratios_of, time_class_of, ratio_class_of}
use Rattle.legal_steps.specs.TimedSteps.{end_of}
use Rattle.place_words.specs.Words.{has, set_of}
use Rattle.position_nfa.specs.Alphabets.{Alphabet, wheel, count, place, time_classes, ratio_classes}

-- the slots of a place's next gap
abbrev pub next_gap : WheelParts → Place → ℕ
next_gap w p = slots_between w (pos (p.j + 1) -ℤ pos 1) (pos (p.j + 1))

-- and of its last one
abbrev pub last_gap : WheelParts → Place → ℕ
last_gap w p = slots_between w ((pos (p.j + 1) -ℤ pos 1) -ℤ pos 1) (pos (p.j + 1) -ℤ pos 1)

-- the class is from the one to the other
abbrev pub is_from : ℕ → ℕ → ℕ → Bool
is_from class first last = nat_le first class && nat_le class last

-- the first time class in which so many slots keep the limits of speed: that of their least time
abbrev pub first_time : Cuts → ℕ → ℕ
first_time c s = time_class_of (times_of c) (least_of (wheel_of c) s)

-- and the last one: that of their greatest time
abbrev pub last_time : Cuts → ℕ → ℕ
last_time c s = time_class_of (times_of c) (greatest_of (wheel_of c) s)

-- the first ratio class in which s0 slots and then s1 keep the limit on the ratio of two speeds: that of the least ratio t1 / t0
abbrev pub first_ratio : Cuts → ℕ → ℕ → ℕ
first_ratio c s0 s1 = ratio_class_of (ratios_of c) (s0 * (wheel_of c).rn) (s1 * (wheel_of c).rd)

-- and the last one: that of the greatest
abbrev pub last_ratio : Cuts → ℕ → ℕ → ℕ
last_ratio c s0 s1 = ratio_class_of (ratios_of c) (s0 * (wheel_of c).rd) (s1 * (wheel_of c).rn)

-- a time class keeps the places whose next gap it allows
abbrev pub keeps_time : Alphabet → ℕ → ℕ → Bool
keeps_time a class i =
    let s = next_gap (wheel a) (place a i) in
    is_from class (first_time a.cuts s) (last_time a.cuts s)

-- a ratio class keeps those whose last and next gap it allows
abbrev pub keeps_ratio : Alphabet → ℕ → ℕ → Bool
keeps_ratio a class i =
    let s0 = last_gap (wheel a) (place a i) in
    let s1 = next_gap (wheel a) (place a i) in
    is_from class (first_ratio a.cuts s0 s1) (last_ratio a.cuts s0 s1)

-- the end of the walks from a place that make a shape's moves, where there is one: they all have the same end
abbrev pub walk_end : WheelParts → ℕ → Place → Option Place
walk_end w shape p = end_of w (orders (events_at (pos 0) (edge_of (shape % 3)) (edge_of (shape / 3 % 3)) (edge_of (shape / 9)))) p

-- whether two places are one
abbrev pub same_place : Place → Place → Bool
same_place p q = (p.j == q.j) && ((int_le p.n1 q.n1 && int_le q.n1 p.n1) && (int_le p.n2 q.n2 && int_le q.n2 p.n2))

-- whether there is an end, and it is this place
abbrev pub is_end : Option Place → Place → Bool
is_end None q = false
is_end (Some p) q = same_place p q

-- whether one of the numbers below n passes
abbrev pub any_below : ℕ → (ℕ → Bool) → Bool
any_below zero test = false
any_below (suc n) test = test n || any_below n test

-- the set of all places
abbrev pub all_places : Alphabet → List ℕ
all_places a = set_of (count a) (λ i. true)

-- the set of none
abbrev pub no_places : Alphabet → List ℕ
no_places a = set_of (count a) (λ i. false)

-- the members below n that pass
abbrev pub kept : ℕ → (ℕ → Bool) → List ℕ → List ℕ
kept n test set = set_of n (λ i. has set i && test i)

-- the members that a time class keeps
abbrev pub time_kept : Alphabet → ℕ → List ℕ → List ℕ
time_kept a class set = kept (count a) (keeps_time a class) set

-- the members that a ratio class keeps
abbrev pub ratio_kept : Alphabet → ℕ → List ℕ → List ℕ
ratio_kept a class set = kept (count a) (keeps_ratio a class) set

-- the ends of the walks from the members that make a shape's moves in some order
abbrev pub shape_ends : Alphabet → ℕ → List ℕ → List ℕ
shape_ends a shape set =
    set_of (count a) (λ k. any_below (count a) (λ i. has set i && is_end (walk_end (wheel a) shape (place a i)) (place a k)))

-- what the column's letter makes of the set
abbrev pub effect : Alphabet → ℕ → List ℕ → List ℕ
effect a column set =
    if nat_lt column (time_classes a)
    then time_kept a column set
    else if nat_lt column (time_classes a + ratio_classes a)
    then ratio_kept a (column - time_classes a) set
    else shape_ends a (column - (time_classes a + ratio_classes a) + 1) set
