-- The changes of level that are kept at a stamp, channel by channel.
use Rattle.std.specs.Prelude.{◌≡◌, ◌↔◌, Bool, true, false, not, List, Option, Some}
use Rattle.wheel_types.specs.declared.channel.Channel.{Channel}
use Rattle.wheel_types.specs.declared.channel.Channel.TheVariants.{Crank, Cam1, Cam2}
use Rattle.wheel_types.specs.declared.channel.Keep.{Keep}
use Rattle.wheel_types.specs.declared.channel.Keep.TheVariants.{Rising, Falling, Both}
use Rattle.wheel_types.specs.declared.channel.Pol.{Pol}
use Rattle.wheel_types.specs.declared.channel.Pol.TheVariants.{Rise, Fall}
use Rattle.wheel_types.specs.declared.instant.Instant.{Instant}
use Rattle.capture_core.specs.declared.capture.Given.{Given}
use Rattle.capture_core.specs.declared.capture.Stamp.{Stamp}
use Rattle.capture_core.specs.declared.capture.Watch.{Watch}
use Rattle.capture_core.specs.Stamps.{known_after}

-- the level of a channel, where it has one
abbrev pub level_on : Channel → Given → Option Bool
level_on Crank g = g.crank
level_on Cam1 g = g.cam1
level_on Cam2 g = g.cam2

-- which edges of a channel are kept, where it is watched
abbrev pub keep_on : Channel → Watch → Option Keep
keep_on Crank watch = Some watch.crank
keep_on Cam1 watch = watch.cam1
keep_on Cam2 watch = watch.cam2

-- the edge of a channel in an instant, where it has one
abbrev pub edge_on : Channel → Instant → Option Pol
edge_on Crank i = i.crank
edge_on Cam1 i = i.cam1
edge_on Cam2 i = i.cam2

-- edges of this polarity are kept
abbrev pub IsKept : Keep → Pol → Type 0
IsKept Both pol = Unit {0}
IsKept Rising Rise = Unit {0}
IsKept Rising Fall = ⊥
IsKept Falling Rise = ⊥
IsKept Falling Fall = Unit {0}

-- the level after an edge
abbrev pub level_after : Pol → Bool
level_after Rise = true
level_after Fall = false

-- a channel is watched, had one level before, is given the other, and the change is of a kept polarity
pub record IsKeptEdge (watched : Option Keep) (known given : Option Bool) (pol : Pol) : Type 0 where
  pub keep : Keep
  pub is_watched : watched ≡ Some keep
  pub kept : IsKept keep pol
  pub before : known ≡ Some (not (level_after pol))
  pub now : given ≡ Some (level_after pol)

-- the channel's level changes so at a stamp, from the one that earlier stamps leave
abbrev pub IsKeptChange : Watch → List Stamp → Stamp → Channel → Pol → Type 0
IsKeptChange watch past s channel pol = IsKeptEdge (keep_on channel watch) (level_on channel (known_after past)) (level_on channel s.given) pol

-- no channel has a kept change at a stamp
abbrev pub HasNoChange : Watch → List Stamp → Stamp → Type 0
HasNoChange watch past s = (channel : Channel) (pol : Pol) → ¬ IsKeptChange watch past s channel pol

-- the instant is at the stamp, and has exactly the kept changes
pub record IsInstantAt (watch : Watch) (past : List Stamp) (s : Stamp) (i : Instant) : Type 0 where
  pub time : i.time ≡ s.time
  pub edges : (channel : Channel) (pol : Pol) → (edge_on channel i ≡ Some pol) ↔ IsKeptChange watch past s channel pol
