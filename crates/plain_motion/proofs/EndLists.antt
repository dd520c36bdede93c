-- The end places of walks.
use Rattle.std.proofs.Common.{◌≡◌, ℕ, ◌+◌, ◌<◌, ◌⊎◌, inl, inr, true, false, Bool, List, [], ◌∷◌, length, take, get_or, refl, sym, ◌∙◌, ap, subst, arith}
use Rattle.std.specs.Prelude.{Contains, ◌↔◌}
use Rattle.wheel_types.specs.declared.place.Place.{Place}
use Rattle.wheel_types.specs.declared.instant.Instant.{Instant}
use Rattle.wheel_types.specs.declared.parts.WheelParts.{WheelParts}
use Rattle.wheel_types.specs.Verdicts.{Leads, EndsAt}
use Rattle.cam_ranges.specs.Gathered.{AreExactly}
use Rattle.cam_ranges.specs.Places.{IsAscending}
use Rattle.plain_motion.specs.declared.window.Walk.{Walk}
use Rattle.plain_motion.specs.declared.window.Window.{Window}
use Rattle.plain_motion.specs.Ends.{Keeps, AreWalksOf, some_instant}
use Rattle.plain_motion.specs.EndPlaces.{AreEndsOf, IsEndIn, AreEndsBy, AreEndsIn}
use Rattle.plain_motion.proofs.Images.{AreImages}
use Rattle.plain_motion.proofs.LeastPlaces.{take_one}
use Rattle.std.proofs.lemmas.List.Elements.{Contains-push_cases}

-- the place is where the walk ends
abbrev pub EndsWalk : Walk → Place → Type 0
EndsWalk v p = p ≡ v.end

from_there : (v : Walk) (p : Place) → p ≡ v.end → v ≡ record { start = v.start; end = p }
from_there v p e = ap (λ (q : Place). record { start = v.start; end = q }) (sym e)

-- the ends of all walks
pub ends_in : (walks : List Walk) (ends : List Place) → AreImages EndsWalk walks ends → (p : Place) → Contains ends p ↔ IsEndIn walks p
ends_in walks ends h p = (
  λ c.
      let from = (h p).0 c in
      (from.0.start, subst (Contains walks) (from_there from.0 p from.1.1) from.1.0),
  λ e. (h p).1 (record { start = e.0; end = p }, (e.1, refl)),
)

-- what is kept of walks, in order, has the end places of the window's instants
exact_ends : (w : WheelParts) (past : List Instant) (walks : List Walk) (ends : List Place) → AreWalksOf w past walks → AreExactly (IsEndIn walks) ends → AreExactly (EndsAt w past) ends
exact_ends w past walks ends are h = record {
  ascend = h.ascend;
  exact = λ p. (
    λ c. let e = (h.exact p).0 c in (e.0, (are e.0 p).0 e.1),
    λ e. (h.exact p).1 (e.0, (are e.0 p).1 e.1),
  );
}

by_begun : (w : WheelParts) (past : List Instant) (walks : List Walk) (ends : List Place) (b : Bool) → b ≡ some_instant past → AreWalksOf w past walks → AreEndsBy b walks ends → AreEndsOf w past ends
by_begun w [] walks ends false e are h = h
by_begun w [] walks ends true e are h = absurd (cc)
by_begun w (i ∷ past) walks ends true e are h = exact_ends w (i ∷ past) walks ends are h
by_begun w (i ∷ past) walks ends false e are h = absurd (cc)

pub kept_ends : (w : WheelParts) (s : Window) (past : List Instant) (ends : List Place) → Keeps w s past → AreEndsIn s ends → AreEndsOf w past ends
kept_ends w s past ends k h = by_begun w past s.walks ends s.begun k.begun k.walks h

-- where a window has begun, what has the end places of its walks is as it should be
pub ends_begun : (b : Bool) (walks : List Walk) (all ends places : List Place) → b ≡ true → places ≡ ends → IsAscending ends → ((p : Place) → Contains ends p ↔ Contains all p) → ((p : Place) → Contains all p ↔ IsEndIn walks p) → AreEndsBy b walks places
ends_begun true walks all ends places e same ascend h k = subst (AreExactly (IsEndIn walks)) (sym same) (record { ascend = ascend; exact = λ p. (λ c. (k p).0 ((h p).0 c), λ i. (h p).1 ((k p).1 i)) })
ends_begun false walks all ends places e same ascend h k = absurd (cc)

-- no walk of an empty list ends at the place, nor of one with one more that does not
pub none_to_more : (walks : List Walk) (k : ℕ) (d : Walk) (end : Place) → k < length walks → ((v : Walk) → Contains (take k walks) v → v.end ≡ end → ⊥) → ((get_or walks k d).end ≡ end → ⊥) → (v : Walk) → Contains (take (k + 1) walks) v → v.end ≡ end → ⊥
none_to_more walks k d end h none here v c e = by_cases (Contains-push_cases (take k walks) (get_or walks k d) v (subst (λ l. Contains l v) (take_one walks k d h) c))
  where
    by_cases : Contains (take k walks) v ⊎ (get_or walks k d ≡ v) → ⊥
    by_cases (inl k) = none v k e
    by_cases (inr f) = here (ap (λ (u : Walk). u.end) f ∙ e)

-- a walk of the window is that of its motions
pub walk_leads : (w : WheelParts) (past : List Instant) (walks : List Walk) (v : Walk) (end : Place) → AreWalksOf w past walks → Contains walks v → v.end ≡ end → Leads w past v.start end
walk_leads w past walks v end are c e = subst (Leads w past v.start) e ((are v.start v.end).0 c)

-- each end place has a walk
ends_at : (w : WheelParts) (past : List Instant) (ends : List Place) (end : Place) → AreEndsOf w past ends → Contains ends end → EndsAt w past end
ends_at w [] ends end are c = let none : Contains [] end = subst (λ l. Contains l end) are c in absurd (omega (arith, none.1))
ends_at w (i ∷ past) ends end are c = (are.exact end).0 c

pub some_to : (w : WheelParts) (past : List Instant) (walks : List Walk) (ends : List Place) (end : Place) → AreWalksOf w past walks → AreEndsOf w past ends → Contains ends end → ((v : Walk) → Contains walks v → v.end ≡ end → ⊥) → ⊥
some_to w past walks ends end are h c none =
    let e : EndsAt w past end = ends_at w past ends end h c in
    none (record { start = e.0; end = end }) ((are e.0 end).1 e.1) refl
