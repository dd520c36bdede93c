-- What a window keeps, and what it stands for.
use Rattle.std.specs.Prelude.{◌≡◌, ◌≢◌, ℕ, ◌<◌, ℤ, take, List, [], ◌∷◌, map, All, Contains, ◌↔◌, Option, Some, None}
use Rattle.std.specs.Prelude.{Bool, true, false, ⊤}
use Rattle.wheel_types.specs.declared.place.Place.{Place}
use Rattle.wheel_types.specs.declared.instant.Instant.{Instant}
use Rattle.wheel_types.specs.declared.parts.WheelParts.{WheelParts}
use Rattle.wheel_types.specs.Verdicts.{Leads, IsBefore}
use Rattle.wheel_types.specs.Steps.{IsStanding, indices_of, crank_times}
use Rattle.wheel_types.specs.Edges.{edge_count}
use Rattle.wheel_types.specs.declared.channel.Channel.TheVariants.{Crank}
use Rattle.cam_ranges.specs.Places.{IsPlace, IsAscending}
use Rattle.cam_ranges.specs.Gathered.{AreExactly}
use Rattle.legal_steps.specs.Times.{times_of, AreSmall}
use Rattle.legal_steps.specs.TimedSteps.{IsTimedStep}
use Rattle.plain_motion.specs.declared.window.Walk.{Walk}
use Rattle.plain_motion.specs.declared.window.Window.{Window}

-- the place is one of the wheel, and no more than that is said: which angle stands with it is left out
pub record IsTestedPlace (w : WheelParts) (p : Place) : Type 0 where
  pub edge : p.j < edge_count w Crank
  pub standing : ∥ IsStanding w (indices_of p) ∥₁

-- these are all places of the wheel, ascending
abbrev pub AreAllPlaces : WheelParts → List Place → Type 0
AreAllPlaces w places = AreExactly (IsPlace w) places

-- the walk ends at a place of the wheel
abbrev pub EndsOn : WheelParts → Walk → Type 0
EndsOn w v = IsTestedPlace w v.end

-- what a window keeps is within the wheel's bounds
pub record IsWindowOf (w : WheelParts) (s : Window) : Type 0 where
  pub ends : All (EndsOn w) s.walks
  pub times : AreSmall s.times

-- there are instants
abbrev pub some_instant : List Instant → Bool
some_instant [] = false
some_instant (i ∷ past) = true

-- where the walks begin
abbrev pub starts_of : List Walk → List Place
starts_of walks = map (λ v. v.start) walks

-- the walks are those of the motions that give the instants
abbrev pub AreWalksOf : WheelParts → List Instant → List Walk → Type 0
AreWalksOf w past walks = (a e : Place) → Contains walks (record { start = a; end = e }) ↔ Leads w past a e

-- what a window keeps is what its instants give: the walks, each once, by ascending start
pub record Keeps (w : WheelParts) (s : Window) (past : List Instant) : Type 0 where
  pub walks : AreWalksOf w past s.walks
  pub ascend : IsAscending (starts_of s.walks)
  pub begun : s.begun ≡ some_instant past
  pub times : times_of s.times ≡ take 2 (crank_times past)

-- the walk v goes on by a step at the instant, after crank edges at these times, and is then u
pub record GoesOnTo (w : WheelParts) (times : List ℤ) (i : Instant) (v u : Walk) : Type 0 where
  pub start : u.start ≡ v.start
  pub step : IsTimedStep w times v.end i u.end

-- a position other than the given one
abbrev pub IsOther : Option ℕ → ℕ → Type 0
IsOther None j = ⊤
IsOther (Some k) j = j ≢ k

-- the walk with the least end place at another position, if there is one
abbrev pub IsLeastBut : List Walk → Option ℕ → Option Walk → Type 0
IsLeastBut vs k None = (v : Walk) → Contains vs v → IsOther k v.end.j → ⊥
IsLeastBut vs k (Some v) = Contains vs v × IsOther k v.end.j × ((u : Walk) → Contains vs u → IsOther k u.end.j → IsBefore v.end u.end)
