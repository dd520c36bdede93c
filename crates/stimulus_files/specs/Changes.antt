-- The levels of a stimulus' files. A channel that keeps both polarities changes at its edges; one that keeps a single polarity goes
-- back halfway to its next edge. Lists of instants, edges and changes are in the order of their times; lists of stamps have the last one
-- first.
use Rattle.std.specs.Prelude.{◌≡◌, Bool, false, not, ◌⊎◌, ◌↔◌, List, [], ◌∷◌, Option, Some, None, ℤ, pos, ◌+ℤ◌, Contains}
use Rattle.std.specs.Int.{int_div_euclid}
use Rattle.wheel_types.specs.declared.channel.Pol.{Pol}
use Rattle.wheel_types.specs.declared.channel.Keep.{Keep}
use Rattle.wheel_types.specs.declared.channel.Keep.TheVariants.{Rising, Falling, Both}
use Rattle.wheel_types.specs.declared.channel.Channel.{Channel}
use Rattle.wheel_types.specs.declared.instant.Instant.{Instant}
use Rattle.capture_core.specs.declared.capture.Stamp.{Stamp}
use Rattle.capture_core.specs.declared.capture.Watch.{Watch}
use Rattle.capture_core.specs.Changes.{edge_on, keep_on, level_on, level_after}
use Rattle.capture_core.specs.Stamps.{IsRising}

-- an edge of one channel
pub record Edge : Type 0 where
  pub time : ℤ
  pub polarity : Pol

-- the edges with one more, where there is one
abbrev pub with_edge : ℤ → Option Pol → List Edge → List Edge
with_edge t None es = es
with_edge t (Some p) es = record { time = t; polarity = p } ∷ es

-- the edges of a channel
abbrev pub edges_on : Channel → List Instant → List Edge
edges_on c [] = []
edges_on c (i ∷ is) = with_edge i.time (edge_on c i) (edges_on c is)

-- a level from a time on
pub record Change : Type 0 where
  pub time : ℤ
  pub level : Bool

-- halfway between two times, rounded down
abbrev pub halfway : ℤ → ℤ → ℤ
halfway t u = int_div_euclid (t +ℤ u) (pos 2)

-- the change of an edge
abbrev pub change_of : Edge → Change
change_of e = record { time = e.time; level = level_after e.polarity }

-- the change back halfway between two edges of a channel
abbrev pub back_between : Edge → Edge → Change
back_between e f = record { time = halfway e.time f.time; level = not (level_after e.polarity) }

-- it is made where the channel keeps a single polarity
abbrev pub back_if : Keep → Edge → Edge → List Change → List Change
back_if Both e f more = more
back_if Rising e f more = back_between e f ∷ more
back_if Falling e f more = back_between e f ∷ more

-- the changes of a channel with these edges; it stays as its last edge leaves it
abbrev pub changes_of : Keep → List Edge → List Change
changes_of keep [] = []
changes_of keep (e ∷ []) = change_of e ∷ []
changes_of keep (e ∷ f ∷ es) = change_of e ∷ back_if keep e f (changes_of keep (f ∷ es))

-- the level before the first edge, and 0 where there is none
abbrev pub first_level : List Edge → Bool
first_level [] = false
first_level (e ∷ es) = not (level_after e.polarity)

-- the channel, if it is watched, is given this level at this time: at time 0 that before its first edge, and then that of each change
abbrev pub IsGivenOn : Option Keep → List Edge → ℤ → Bool → Type 0
IsGivenOn None es t level = ⊥
IsGivenOn (Some keep) es t level =
    ((t ≡ pos 0) × (level ≡ first_level es)) ⊎ Contains (changes_of keep es) (record { time = t; level = level })

-- some channel is given a level at the stamp
abbrev pub GivesSome : Stamp → Type 0
GivesSome s = (c : Channel) × ((level : Bool) × (level_on c s.given ≡ Some level))

-- these are the stamps of the instants' files: of exactly the times with a level, and with exactly the levels
pub record AreStamps (watch : Watch) (is : List Instant) (stamps : List Stamp) : Type 0 where
  pub rise : IsRising stamps
  pub some : (s : Stamp) → Contains stamps s → GivesSome s
  pub given : (c : Channel) (t : ℤ) (level : Bool)
      → ((s : Stamp) × (Contains stamps s × ((s.time ≡ t) × (level_on c s.given ≡ Some level))))
      ↔ IsGivenOn (keep_on c watch) (edges_on c is) t level
