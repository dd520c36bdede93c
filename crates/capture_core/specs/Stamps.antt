-- A capture is a list of stamps. Here are the instants that stand at them. Lists of stamps have the last one first.
use Rattle.std.specs.Prelude.{refl, Bool, true, false, List, [], ◌∷◌, ◌++◌, Option, Some, None, ℤ, ◌<ℤ◌}
use Rattle.wheel_types.specs.declared.channel.Pol.{Pol}
use Rattle.wheel_types.specs.declared.channel.Pol.TheVariants.{Rise, Fall}
use Rattle.wheel_types.specs.declared.channel.Keep.{Keep}
use Rattle.wheel_types.specs.declared.channel.Keep.TheVariants.{Rising, Falling, Both}
use Rattle.wheel_types.specs.declared.channel.Channel.{Channel}
use Rattle.wheel_types.specs.declared.channel.Channel.TheVariants.{Crank, Cam1, Cam2}
use Rattle.wheel_types.specs.declared.instant.Instant.{Instant}
use Rattle.capture_core.specs.declared.capture.Watch.{Watch}
use Rattle.capture_core.specs.declared.capture.Given.{Given}
use Rattle.capture_core.specs.declared.capture.Stamp.{Stamp}

-- no level for any channel
abbrev pub nothing : Given
nothing = record { crank = None; cam1 = None; cam2 = None }

-- the level of the one, or of the other where the one has none
abbrev pub or_else : Option Bool → Option Bool → Option Bool
or_else (Some level) before = Some level
or_else None before = before

-- the levels of the one, with those of the other where the one has none
abbrev pub over : Given → Given → Given
over now before = record { crank = or_else now.crank before.crank; cam1 = or_else now.cam1 before.cam1; cam2 = or_else now.cam2 before.cam2 }

-- the levels with one more given
abbrev pub with_level : Channel → Bool → Given → Given
with_level Crank level g = record { crank = Some level; cam1 = g.cam1; cam2 = g.cam2 }
with_level Cam1 level g = record { crank = g.crank; cam1 = Some level; cam2 = g.cam2 }
with_level Cam2 level g = record { crank = g.crank; cam1 = g.cam1; cam2 = Some level }

-- the levels with one more, where it is given
abbrev pub with_level_if : Channel → Option Bool → Given → Given
with_level_if channel None given = given
with_level_if channel (Some level) given = with_level channel level given

-- the levels that the stamps leave: of each channel, that of the last stamp that gives one
abbrev pub known_after : List Stamp → Given
known_after [] = nothing
known_after (s ∷ past) = over s.given (known_after past)

-- the edge from one level to another, where it is of a kept polarity
abbrev pub kept_edge : Keep → Bool → Bool → Option Pol
kept_edge Rising false true = Some Rise
kept_edge Both false true = Some Rise
kept_edge Falling true false = Some Fall
kept_edge Both true false = Some Fall
kept_edge keep before now = None

-- the edge of a channel that is watched, has a level now and had one before
abbrev pub edge_of : Option Keep → Option Bool → Option Bool → Option Pol
edge_of (Some keep) (Some before) (Some now) = kept_edge keep before now
edge_of keep before now = None

-- the instant of these edges, where there is one
abbrev pub instant_if : ℤ → Option Pol → Option Pol → Option Pol → Option Instant
instant_if t (Some a) b c = Some (record { time = t; crank = Some a; cam1 = b; cam2 = c; some_edge = refl })
instant_if t None (Some b) c = Some (record { time = t; crank = None; cam1 = Some b; cam2 = c; some_edge = refl })
instant_if t None None (Some c) = Some (record { time = t; crank = None; cam1 = None; cam2 = Some c; some_edge = refl })
instant_if t None None None = None

-- the instant at a stamp that comes after these levels
abbrev pub instant_at : Watch → Given → Stamp → Option Instant
instant_at watch before s =
    instant_if s.time (edge_of (Some watch.crank) before.crank s.given.crank) (edge_of watch.cam1 before.cam1 s.given.cam1) (edge_of watch.cam2 before.cam2 s.given.cam2)

-- the instants with one more at the end, where there is one
abbrev pub with_last : List Instant → Option Instant → List Instant
with_last is None = is
with_last is (Some i) = is ++ i ∷ []

-- the instants at closed stamps, in the order of their times
abbrev pub instants_of : Watch → List Stamp → List Instant
instants_of watch [] = []
instants_of watch (s ∷ past) = with_last (instants_of watch past) (instant_at watch (known_after past) s)

-- the instant at the last stamp
abbrev pub last_instant : Watch → List Stamp → Option Instant
last_instant watch [] = None
last_instant watch (s ∷ past) = instant_at watch (known_after past) s

-- the time of the last stamp
abbrev pub last_time : List Stamp → Option ℤ
last_time [] = None
last_time (s ∷ past) = Some s.time

-- times rise strictly
abbrev pub IsRising : List Stamp → Type 0
IsRising [] = Unit {0}
IsRising (s ∷ []) = Unit {0}
IsRising (s ∷ r ∷ past) = (r.time <ℤ s.time) × IsRising (r ∷ past)
