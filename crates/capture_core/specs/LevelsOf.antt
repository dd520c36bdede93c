-- What a `Levels` keeps of the stamps that it stands for.
use Rattle.std.specs.Prelude.{◌≡◌, ℤ, Bool, List, [], ◌∷◌, true, false, Option, Some}
use Rattle.capture_core.specs.declared.capture.Watch.{Watch}
use Rattle.capture_core.specs.declared.capture.Stamp.{Stamp}
use Rattle.capture_core.specs.declared.levels.Levels.{Levels}
use Rattle.capture_core.specs.Stamps.{known_after, last_time}

-- which channels are watched, and for which edges
abbrev pub watched_by : Levels → Watch
watched_by l = l.watch

-- a stamp is open
abbrev pub is_open : Levels → Bool
is_open l = l.is_open

-- the time of the last stamp, open or closed
abbrev pub time_of_last : Levels → Option ℤ
time_of_last l = l.last

-- these stamps are closed, and none is open
pub record StandsFor (l : Levels) (closed : List Stamp) : Type 0 where
  pub known : l.known ≡ known_after closed
  pub last : l.last ≡ last_time closed
  pub shut : l.is_open ≡ false

-- these stamps are closed, and this one is open
pub record StandsOpen (l : Levels) (s : Stamp) (closed : List Stamp) : Type 0 where
  pub known : l.known ≡ known_after closed
  pub given : l.given ≡ s.given
  pub last : l.last ≡ Some s.time
  pub is_open : l.is_open ≡ true

-- these stamps were opened, and all but the last are closed
abbrev pub StandsAt : Levels → List Stamp → Type 0
StandsAt l [] = StandsFor l []
StandsAt l (s ∷ closed) = StandsOpen l s closed
