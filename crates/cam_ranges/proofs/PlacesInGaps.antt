-- Places, gap by gap.
use Rattle.std.proofs.Common.{◌≡◌, ℕ, ◌+◌, ◌<◌, ◌↔◌, ℤ, pos, ◌-ℤ◌, ◌≤ℤ◌, ◌<ℤ◌, sym, ◌∙◌, ap, subst, arith}
use Rattle.std.proofs.lemmas.Int.{ints}
use Rattle.wheel_types.specs.declared.channel.Channel.TheVariants.{Crank, Cam1, Cam2}
use Rattle.wheel_types.specs.declared.parts.WheelParts.{WheelParts}
use Rattle.wheel_types.specs.declared.place.Place.{Place}
use Rattle.wheel_types.specs.Edges.{edge_count, angle_of}
use Rattle.wheel_types.specs.Motions.{Stands}
use Rattle.wheel_types.specs.Steps.{indices_of}
use Rattle.cam_ranges.specs.declared.span.Span.{Span}
use Rattle.cam_ranges.specs.Places.{IsPlace}
use Rattle.cam_ranges.proofs.GatheredPlaces.{AreFrom, AreFirstsFrom}
use Rattle.cam_ranges.specs.Spans.{IsIn, IsGap, StandsIn, IsPart}

-- the edge before the next one of a place is its own
back_to : (j : ℕ) → pos (j + 1) -ℤ pos 1 ≡ pos j
back_to j = omega (arith, ints)

-- an angle that stands with the next edges of a place is in its gap
in_gap : (w : WheelParts) (p : Place) (gap : Span) (x : ℤ) → IsGap w p.j gap → Stands w x (indices_of p) → IsIn gap x
in_gap w p gap x g s = (subst (λ z. z ≤ℤ x) (ap (angle_of w Crank) (back_to p.j) ∙ sym g.low) s.behind, subst (λ z. x ≤ℤ z) (sym g.high) s.ahead)

-- a place stands where the second cam does so in the part of its gap in which the first one does
pub stands_by_part : (w : WheelParts) (p : Place) (gap part : Span) → IsGap w p.j gap → IsPart w Cam1 p.n1 gap part → StandsIn w Cam2 p.n2 part ↔ ((x : ℤ) × Stands w x (indices_of p))
stands_by_part w p gap part g is = (
  λ s.
      let x = s.0 in
      let first = (is x).0 s.1.0 in (
        x,
        record {
          behind = subst (λ z. z ≤ℤ x) (g.low ∙ ap (angle_of w Crank) (sym (back_to p.j))) first.0.0;
          ahead = subst (λ z. x ≤ℤ z) g.high first.0.1;
          cam1 = first.1;
          cam2 = s.1.1;
        },
      ),
  λ s. (s.0, ((is s.0).1 (in_gap w p gap s.0 g s.1, s.1.cam1), s.1.cam2)),
)

-- and where it stands, the first cam stands in its gap
pub first_stands : (w : WheelParts) (p : Place) (gap : Span) → IsGap w p.j gap → ((x : ℤ) × Stands w x (indices_of p)) → StandsIn w Cam1 p.n1 gap
first_stands w p gap g s = (s.0, (in_gap w p gap s.0 g s.1, s.1.cam1))

-- ---- edge by edge

-- a place at the position has its gap
at_position : (w : WheelParts) (p : Place) (j : ℕ) (gap : Span) → p.j ≡ j → IsGap w j gap → IsGap w p.j gap
at_position w p j gap e g = subst (λ n. IsGap w n gap) (sym e) g

-- the places at position j with edge n of the first cam next have the edges of the second cam with which it stands in the part
pub places_at_edge : (w : WheelParts) (j : ℕ) (n first end : ℤ) (gap part : Span) → j < edge_count w Crank → IsGap w j gap → IsPart w Cam1 n gap part → ((m : ℤ) → ((first ≤ℤ m) × (m <ℤ end)) ↔ StandsIn w Cam2 m part) → AreFrom w j n first end
places_at_edge w j n first end gap part h g is are p e f =
    let here = at_position w p j gap e g in
    let by = stands_by_part w p gap part here (subst (λ k. IsPart w Cam1 k gap part) (sym f) is) in (
      λ s. (are p.n2).1 (by.1 s.stands),
      λ k. record { edge = subst (λ i. i < edge_count w Crank) (sym e) h; stands = by.0 ((are p.n2).0 k) },
    )

-- there are none where the first cam does not stand with it
pub no_places_at_edge : (w : WheelParts) (j : ℕ) (n : ℤ) (gap : Span) → IsGap w j gap → (StandsIn w Cam1 n gap → ⊥) → (p : Place) → p.j ≡ j → p.n1 ≡ n → IsPlace w p → ⊥
no_places_at_edge w j n gap g none p e f s = none (subst (λ k. StandsIn w Cam1 k gap) f (first_stands w p gap (at_position w p j gap e g) s.stands))

-- the places at position j have the edges of the first cam with which it stands in the gap
pub places_at_position : (w : WheelParts) (j : ℕ) (first end : ℤ) (gap : Span) → IsGap w j gap → ((n : ℤ) → ((first ≤ℤ n) × (n <ℤ end)) ↔ StandsIn w Cam1 n gap) → AreFirstsFrom w j first end
places_at_position w j first end gap g are p e s = (are p.n1).1 (first_stands w p gap (at_position w p j gap e g) s.stands)
