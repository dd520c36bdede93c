-- Places, verdicts and windows.
use Rattle.std.specs.Prelude.{◌≡◌, ◌≢◌, ℕ, ◌<◌, ◌⊎◌, List, [], ◌∷◌, ℤ, pos, ◌-ℤ◌, ◌*ℤ◌, ◌≤ℤ◌, ◌<ℤ◌, slice_index, slice_index_or, length, ◌+◌, ◌≤◌, unsigned_abs, All}
use Rattle.std.specs.List.{AllByRecursion}
use Rattle.wheel_types.specs.declared.channel.Channel.TheVariants.{Crank, Cam1, Cam2}
use Rattle.wheel_types.specs.declared.place.Place.{Place}
use Rattle.wheel_types.specs.declared.instant.Instant.{Instant}
use Rattle.wheel_types.specs.declared.verdict.Verdict.{Verdict}
use Rattle.wheel_types.specs.declared.verdict.Verdict.TheVariants.{At, Open, Lost}
use Rattle.wheel_types.specs.declared.parts.WheelParts.{WheelParts}
use Rattle.wheel_types.specs.Edges.{edge_count, edge_slots, cycle_of, number_of}
use Rattle.wheel_types.specs.Motions.{Indices, Motion, IsPermitted, Gives, indices_after}

-- the place of the indices: carried by whole cycles until the last crank edge is one of the first cycle
abbrev pub place_of : WheelParts → Indices → Place
place_of w ix =
    let behind = ix.crank -ℤ pos 1 in
    let cycle = cycle_of (edge_count w Crank) behind in
    record { j = number_of (edge_count w Crank) behind; n1 = ix.cam1 -ℤ cycle *ℤ pos (edge_count w Cam1); n2 = ix.cam2 -ℤ cycle *ℤ pos (edge_count w Cam2) }

-- the order of places
abbrev pub IsBefore : Place → Place → Type 0
IsBefore p q = (p.j < q.j) ⊎ ((p.j ≡ q.j) × ((p.n1 <ℤ q.n1) ⊎ ((p.n1 ≡ q.n1) × (p.n2 ≤ℤ q.n2))))

-- some permitted motion from the one place to the other gives the instants
pub record Leads (w : WheelParts) (is : List Instant) (from to : Place) : Type 0 where
  pub motion : Motion
  pub permitted : IsPermitted w motion
  pub gives : Gives w motion is
  pub starts : place_of w motion.start ≡ from
  pub ends : place_of w (indices_after motion.start motion.moves) ≡ to

-- some permitted motion that ends at the place gives the instants
abbrev pub EndsAt : WheelParts → List Instant → Place → Type 0
EndsAt w is to = (from : Place) × Leads w is from to

-- the least place with the property
pub record IsLeast (P : Place → Type 0) (p : Place) : Type 0 where
  pub holds : P p
  pub least : (q : Place) → P q → IsBefore p q

-- the verdict of the instants
abbrev pub IsVerdict : WheelParts → List Instant → Verdict → Type 0
-- no permitted motion gives them
IsVerdict w is Lost = (p : Place) → EndsAt w is p → ⊥
-- some does, and all end at the position
IsVerdict w is (At j slot) = ((p : Place) × EndsAt w is p) × ((p : Place) → EndsAt w is p → p.j ≡ j) × (slot ≡ slice_index (edge_slots w Crank) j)
-- two end at different positions
IsVerdict w is (Open a b) = (e : Place) × (f : Place) × IsLeast (EndsAt w is) e × IsLeast (λ p. EndsAt w is p × (p.j ≢ e.j)) f × Leads w is a e × Leads w is b f

-- some permitted motion gives the instants
abbrev pub AreGiven : WheelParts → List Instant → Type 0
AreGiven w is = (p : Place) × EndsAt w is p

-- where an instant had the verdict v in a window with these instants before it, the next instant comes after these
abbrev pub IsNextWindow : WheelParts → Instant → List Instant → Verdict → List Instant → Type 0
IsNextWindow w i before (At j slot) next = next ≡ i ∷ before
IsNextWindow w i before (Open a b) next = next ≡ i ∷ before
IsNextWindow w i [] Lost next = next ≡ []
IsNextWindow w i (h ∷ before) Lost next = (AreGiven w (i ∷ []) × (next ≡ i ∷ [])) ⊎ (IsVerdict w (i ∷ []) Lost × (next ≡ []))

-- the verdicts of the instants, the last first, and the instants of the window that the next one comes into
abbrev pub AreVerdicts : WheelParts → List Instant → List Verdict → List Instant → Type 0
AreVerdicts w [] [] window = window ≡ []
AreVerdicts w (i ∷ past) (v ∷ vs) window = (before : List Instant) × AreVerdicts w past vs before × IsVerdict w (i ∷ before) v × IsNextWindow w i before v window
AreVerdicts w [] (v ∷ vs) window = ⊥
AreVerdicts w (i ∷ past) [] window = ⊥

-- the times of the instants, in order, rise
abbrev pub IsRising : List Instant → Type 0
IsRising is = (k : ℕ) (d : Instant) → k + 1 < length is → (slice_index_or is k d).time <ℤ (slice_index_or is (k + 1) d).time

-- each of the instants is before the time t
abbrev pub AllEarlier : ℤ → List Instant → Type 0
AllEarlier t past = AllByRecursion (λ (i : Instant). i.time <ℤ t) past

-- each time is at most so large
abbrev pub AreWithin : ℕ → List Instant → Type 0
AreWithin size is = All (λ (i : Instant). unsigned_abs i.time ≤ size) is
