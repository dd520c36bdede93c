-- Motions end at places that stand, and before any instant at all of these.
use Rattle.std.proofs.Common.{◌≡◌, ℕ, ◌+◌, ◌<◌, ◌↔◌, List, [], ◌∷◌, ℤ, pos, ◌+ℤ◌, ◌-ℤ◌, ◌*ℤ◌, neg_ℤ, refl, sym, ◌∙◌, ap, subst, arith}
use Rattle.std.proofs.lemmas.Int.{ints}
use Rattle.std.proofs.Math.IntN.{zero-*ℤ}
use Rattle.wheel_types.specs.declared.channel.Channel.TheVariants.{Crank, Cam1, Cam2}
use Rattle.wheel_types.specs.declared.place.Place.{Place}
use Rattle.wheel_types.specs.declared.instant.Instant.{Instant}
use Rattle.wheel_types.specs.declared.parts.WheelParts.{WheelParts}
use Rattle.wheel_types.specs.Edges.{edge_count}
use Rattle.wheel_types.specs.Motions.{Indices, Stands, Event, indices_after, angle_after}
use Rattle.wheel_types.specs.Verdicts.{place_of, EndsAt}
use Rattle.wheel_types.specs.Steps.{indices_of, IsStanding, Walks}
use Rattle.wheel_types.proofs.Unrolled.{number_below, carried_once}
use Rattle.wheel_types.proofs.Shifted.{cycle_at, turned, to_place, stands-later}
use Rattle.wheel_types.proofs.Forward.{motion_of}
use Rattle.wheel_types.proofs.GoesOn.{ends_standing}

-- the place names a crank edge of the first cycle, and some angle stands with its next edges
pub record PlaceStands (w : WheelParts) (p : Place) : Type 0 where
  pub edge : p.j < edge_count w Crank
  pub standing : IsStanding w (indices_of p)

-- indices that stand have a place that stands
pub place_stands : (w : WheelParts) (x : ℤ) (ix : Indices) → 0 < edge_count w Crank → Stands w x ix → PlaceStands w (place_of w ix)
place_stands w x ix h s =
    let k = neg_ℤ (cycle_at w ix) in
    record {
      edge = number_below (edge_count w Crank) (ix.crank -ℤ pos 1) h;
      standing = (turned w k x, subst (Stands w (turned w k x)) (to_place w ix h) (stands-later w k x ix h s));
    }

pub ends_stand : (w : WheelParts) (past : List Instant) (p : Place) → 0 < edge_count w Crank → EndsAt w past p → PlaceStands w p
ends_stand w past p h e =
    let m = e.1.motion in
    let s = ends_standing w m.angle m.start m.moves e.1.permitted.motion.standing e.1.permitted.motion.moves in
    subst (PlaceStands w) e.1.ends (place_stands w (angle_after m.angle m.moves) (indices_after m.start m.moves) h s)

alike : (a d : ℕ) (b c e f : ℤ) → a ≡ d → b ≡ e → c ≡ f → ◌≡◌ {A = Place} (record { j = a; n1 = b; n2 = c }) (record { j = d; n1 = e; n2 = f })
alike a d b c e f p q r = rw (p, q, r)

first_cycle : (j count : ℕ) → pos (j + 1) -ℤ pos 1 ≡ pos 0 *ℤ pos count +ℤ pos j
first_cycle j count =
    let back : pos (j + 1) -ℤ pos 1 ≡ pos 0 +ℤ pos j = omega (arith, ints) in
    back ∙ ap (λ z. z +ℤ pos j) (sym (zero-*ℤ (pos count)))

none_off : (n q : ℤ) (count : ℕ) → q ≡ pos 0 → n -ℤ q *ℤ pos count ≡ n
none_off n q count e =
    let same : n -ℤ pos 0 ≡ n = omega (arith, ints) in
    ap (λ z. n -ℤ z) (ap (λ z. z *ℤ pos count) e ∙ zero-*ℤ (pos count)) ∙ same

-- a place is that of its own next edges
pub place_of-indices : (w : WheelParts) (p : Place) → p.j < edge_count w Crank → place_of w (indices_of p) ≡ p
place_of-indices w p h =
    let count = edge_count w Crank in
    let once = carried_once count (pos (p.j + 1) -ℤ pos 1) (pos 0) p.j h (first_cycle p.j count) in
    alike _ _ _ _ _ _ once.1 (none_off p.n1 _ (edge_count w Cam1) once.0) (none_off p.n2 _ (edge_count w Cam2) once.0)

-- before any instant motions end at exactly the places that stand
pub ends_of_none : (w : WheelParts) (p : Place) → 0 < edge_count w Crank → EndsAt w [] p ↔ PlaceStands w p
ends_of_none w p h = (
  ends_stand w [] p h,
  λ s. (
    p,
    record {
      motion = motion_of s.standing.0 (indices_of p) [];
      permitted = record { motion = record { standing = s.standing.1; moves = tt; times = tt }; speed = tt; ratio = tt };
      gives = refl;
      starts = place_of-indices w p s.edge;
      ends = place_of-indices w p s.edge;
    },
  ),
)

-- a walk from where the engine can stand ends where it can stand
pub walks_stand : (w : WheelParts) (from : Indices) (es : List Event) (to : Indices) → Walks w from es to → IsStanding w from → IsStanding w to
walks_stand w from [] to h s = subst (IsStanding w) (sym h) s
walks_stand w from (e ∷ es) to h s = h.4
