-- What a state holds of a window, and what a kind says of it.
use Rattle.std.specs.Prelude.{◌≡◌, ◌≢◌, ◌↔◌, ℕ, ◌<◌, List, [], ◌∷◌, Bool, true, false, Option, Some, None, ℤ}
use Rattle.wheel_types.specs.declared.place.Place.{Place}
use Rattle.wheel_types.specs.declared.instant.Instant.{Instant}
use Rattle.wheel_types.specs.Steps.{crank_times}
use Rattle.wheel_types.specs.Verdicts.{EndsAt, AreGiven, IsLeast}
use Rattle.image_layout.specs.declared.kind.Kind.{Kind}
use Rattle.image_layout.specs.declared.kind.Kind.TheVariants.{Dead, At, Open}
use Rattle.image_layout.specs.Layout.{place_total, state_total}
use Rattle.image_layout.specs.Fields.{place_at, phase_at, wheel_parts_of}
use Rattle.image_format.specs.Walk.{Stand}
use Rattle.place_words.specs.Words.{Has}
use Rattle.table_images.specs.Images.{set_at}

-- the place is a member of the state's set
abbrev pub HasMember : List ℕ → ℕ → Place → Type 0
HasMember b q p = (k : ℕ) × ((k < place_total b) × (Has (set_at b q) k × (place_at b k ≡ p)))

-- the phase of a window whose crank edges were at these times: none, one, or two and more
abbrev pub phase_of : List ℤ → ℕ
phase_of [] = 0
phase_of (t ∷ []) = 1
phase_of (t ∷ u ∷ ts) = 2

-- the last of these times, the first in the list
abbrev pub last_of : List ℤ → Option ℤ
last_of [] = None
last_of (t ∷ ts) = Some t

-- and the one before it
abbrev pub before_last : List ℤ → Option ℤ
before_last [] = None
before_last (t ∷ ts) = last_of ts

-- there are instants
abbrev pub some_instant : List Instant → Bool
some_instant [] = false
some_instant (i ∷ past) = true

-- the state has the window's phase, and its members are exactly the places where the motions end that give the window's instants
pub record HoldsEnds (b : List ℕ) (q : ℕ) (since : List Instant) : Type 0 where
  pub alive : q ≢ 0
  pub there : q < state_total b
  pub phase : phase_at b q ≡ phase_of (crank_times since)
  pub members : (p : Place) → HasMember b q p ↔ EndsAt (wheel_parts_of b) since p

-- the walk stands in a window with these instants
pub record StandsIn (b : List ℕ) (s : Stand) (since : List Instant) : Type 0 where
  pub holds : HoldsEnds b s.state since
  pub started : s.started ≡ some_instant since
  pub crank : s.crank ≡ last_of (crank_times since)
  pub crank_before : s.crank_before ≡ before_last (crank_times since)

-- the kind says where the motions end that give the instants: nowhere, all at one position, or else at the least end place and the
-- least one at another position
abbrev pub SaysEnds : List ℕ → List Instant → Kind → Type 0
SaysEnds b since Dead = ¬ AreGiven (wheel_parts_of b) since
SaysEnds b since (At j) = AreGiven (wheel_parts_of b) since × ((p : Place) → EndsAt (wheel_parts_of b) since p → p.j ≡ j)
SaysEnds b since (Open e f) =
    IsLeast (EndsAt (wheel_parts_of b) since) (place_at b e)
    × IsLeast (λ p. EndsAt (wheel_parts_of b) since p × (p.j ≢ (place_at b e).j)) (place_at b f)
