-- The walks from places, by the places' numbers.
use Rattle.std.specs.Prelude.{◌≡◌, ℕ, ◌<◌, IsTrue, List, length, slice_index, Option, Some}
use Rattle.wheel_types.specs.declared.place.Place.{Place}
use Rattle.wheel_types.specs.declared.instant.Instant.{Instant}
use Rattle.wheel_types.specs.declared.parts.WheelParts.{WheelParts}
use Rattle.wheel_types.specs.Motions.{events_of, orders}
use Rattle.legal_steps.specs.TimedSteps.{end_of}
use Rattle.place_words.specs.Words.{Has, has, words_for}
use Rattle.position_nfa.specs.Alphabets.{nth}

-- which of n places have a walk, and the number of the place where it ends
pub record IsWalkTable (n : ℕ) (end : ℕ → Option Place) (at : ℕ → Place) (sources targets : List ℕ) : Type 0 where
  pub words : length sources ≡ words_for n
  pub whole : (i : ℕ) (q : Place) → i < n → end i ≡ Some q → IsTrue (has sources i)
  pub inside : (i : ℕ) → IsTrue (has sources i) → (i < n) × (i < length targets)
  pub within : (i : ℕ) → IsTrue (has sources i) → slice_index targets i < n
  pub ends : (i : ℕ) → IsTrue (has sources i) → end i ≡ Some (at (slice_index targets i))

-- the same, for the first k places
pub record IsWalkTableTo (n k : ℕ) (end : ℕ → Option Place) (at : ℕ → Place) (sources targets : List ℕ) : Type 0 where
  pub words : length sources ≡ words_for n
  pub numbers : length targets ≡ k
  pub whole : (i : ℕ) (q : Place) → i < k → end i ≡ Some q → Has sources i
  pub inside : (i : ℕ) → Has sources i → i < k
  pub within : (i : ℕ) → Has sources i → slice_index targets i < n
  pub ends : (i : ℕ) → Has sources i → end i ≡ Some (at (slice_index targets i))

-- the end of the walk from place k that passes an instant's edges
abbrev pub instant_end : WheelParts → List Place → Instant → ℕ → Option Place
instant_end w ps i k = end_of w (orders (events_of i)) (nth ps k)
