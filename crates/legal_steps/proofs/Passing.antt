-- Edges passed from place to place, and walks over next edges.
use Rattle.std.proofs.Common.{◌≡◌, ◌<◌, List, [], ◌∷◌, ℤ, neg_ℤ, refl, sym, ◌∙◌, ap, subst}
use Rattle.std.specs.Prelude.{Option, Some, None}
use Rattle.wheel_types.specs.declared.channel.Channel.{Channel}
use Rattle.wheel_types.specs.declared.channel.Channel.TheVariants.{Crank}
use Rattle.wheel_types.specs.declared.channel.Pol.{Pol}
use Rattle.wheel_types.specs.declared.place.Place.{Place}
use Rattle.wheel_types.specs.declared.parts.WheelParts.{WheelParts}
use Rattle.wheel_types.specs.Edges.{edge_count, pol_of}
use Rattle.wheel_types.specs.Motions.{Indices, index_of, passed, Stands, Event}
use Rattle.wheel_types.specs.Verdicts.{place_of}
use Rattle.wheel_types.specs.Steps.{indices_of, IsStanding, Walks}
use Rattle.wheel_types.proofs.Shifted.{shifted, turned, cycle_at, of_place, to_place, stands-later, pol_of-later, index_of-shifted, passed-shifted, place_of-shifted}
use Rattle.wheel_types.proofs.Standing.{place_stands}
use Rattle.cam_ranges.specs.Places.{IsPlace}
use Rattle.legal_steps.specs.Passes.{IsNextEdge, IsPass, PassesIf, Passes}
use Rattle.legal_steps.specs.declared.passes.Seen.{Seen}

-- a pass leads to one place
pub passes_once : (w : WheelParts) (p : Place) (c : Channel) (o : Option Pol) (q r : Place) → PassesIf w p c o q → PassesIf w p c o r → q ≡ r
passes_once w p c None q r h k = h ∙ sym k
passes_once w p c (Some pol) q r h k = h.end ∙ sym k.end

-- next edges that stand have a place that stands
pub carried_place : (w : WheelParts) (ix : Indices) → 0 < edge_count w Crank → IsStanding w ix → IsPlace w (place_of w ix)
carried_place w ix some s = let p = place_stands w s.0 ix some s.1 in record { edge = p.edge; stands = p.standing }

-- and stand where it does
pub stands_carried : (w : WheelParts) (ix : Indices) → 0 < edge_count w Crank → IsStanding w (indices_of (place_of w ix)) → IsStanding w ix
stands_carried w ix some s =
    let k = cycle_at w ix in
    (turned w k s.0, subst (Stands w (turned w k s.0)) (of_place w ix some) (stands-later w k s.0 (indices_of (place_of w ix)) some s.1))

-- what is passed leads to a place of the wheel
pub pass_place : (w : WheelParts) (p : Place) (c : Channel) (o : Option Pol) (q : Place) → 0 < edge_count w Crank → IsPlace w p → PassesIf w p c o q → IsPlace w q
pass_place w p c None q some is h = subst (IsPlace w) (sym h) is
pass_place w p c (Some pol) q some is h = subst (IsPlace w) (sym h.end) (carried_place w (passed c (indices_of p)) some h.standing)

-- the channel's next edge is of this polarity, and can be passed
pub record CanPass (w : WheelParts) (ix : Indices) (c : Channel) (pol : Pol) : Type 0 where
  pub present : 0 < edge_count w c
  pub polarity : pol_of w c (index_of ix c) ≡ pol
  pub standing : IsStanding w (passed c ix)

can_pass-later : (w : WheelParts) (k : ℤ) (ix : Indices) (c : Channel) (pol : Pol) → 0 < edge_count w Crank → CanPass w ix c pol → CanPass w (shifted w k ix) c pol
can_pass-later w k ix c pol some h = record {
  present = h.present;
  polarity = ap (pol_of w c) (index_of-shifted w k ix c) ∙ pol_of-later w k c (index_of ix c) h.present ∙ h.polarity;
  standing = (turned w k h.standing.0, subst (Stands w (turned w k h.standing.0)) (sym (passed-shifted w k c ix)) (stands-later w k h.standing.0 (passed c ix) some h.standing.1));
}

-- a pass from next edges is one from their place
pub pass_of : (w : WheelParts) (ix : Indices) (c : Channel) (pol : Pol) → 0 < edge_count w Crank → CanPass w ix c pol → IsPass w (place_of w ix) c pol (place_of w (passed c ix))
pass_of w ix c pol some h =
    let k = neg_ℤ (cycle_at w ix) in
    let here = to_place w ix some in
    let can = subst (λ z. CanPass w z c pol) here (can_pass-later w k ix c pol some h) in
    record {
      edge = record { present = can.present; polarity = can.polarity };
      standing = can.standing;
      end = sym (place_of-shifted w k (passed c ix) some) ∙ ap (place_of w) (sym (passed-shifted w k c ix)) ∙ ap (λ z. place_of w (passed c z)) here;
    }

-- and the other way round
pub pass_from : (w : WheelParts) (ix : Indices) (c : Channel) (pol : Pol) (q : Place) → 0 < edge_count w Crank → IsPass w (place_of w ix) c pol q → CanPass w ix c pol × (q ≡ place_of w (passed c ix))
pass_from w ix c pol q some h =
    let k = cycle_at w ix in
    let from = indices_of (place_of w ix) in
    let here = of_place w ix some in
    let can : CanPass w from c pol = record { present = h.edge.present; polarity = h.edge.polarity; standing = h.standing } in (
      subst (λ z. CanPass w z c pol) here (can_pass-later w k from c pol some can),
      h.end ∙ sym (place_of-shifted w k (passed c from) some) ∙ ap (place_of w) (sym (passed-shifted w k c from)) ∙ ap (λ z. place_of w (passed c z)) here,
    )

-- passes from place to place, the last one first
abbrev pub PlaceWalks : WheelParts → Place → List Event → Place → Type 0
PlaceWalks w p [] q = q ≡ p
PlaceWalks w p (e ∷ es) q = (m : Place) × (PlaceWalks w p es m × IsPass w m e.channel e.polarity q)

-- a walk over next edges is one over their places
pub walk_of : (w : WheelParts) (from : Indices) (es : List Event) (to : Indices) → 0 < edge_count w Crank → Walks w from es to → PlaceWalks w (place_of w from) es (place_of w to)
walk_of w from [] to some h = ap (place_of w) h
walk_of w from (e ∷ es) to some h =
    let standing = subst (IsStanding w) h.5 h.4 in
    (place_of w h.0, (walk_of w from es h.0 some h.1, subst (λ z. IsPass w (place_of w h.0) e.channel e.polarity (place_of w z)) (sym h.5) (pass_of w h.0 e.channel e.polarity some (record { present = h.2; polarity = h.3; standing = standing }))))

-- and the other way round
pub record WalksFrom (w : WheelParts) (from : Indices) (es : List Event) (q : Place) : Type 0 where
  pub to : Indices
  pub walks : Walks w from es to
  pub end : q ≡ place_of w to

pub walk_from : (w : WheelParts) (from : Indices) (es : List Event) (q : Place) → 0 < edge_count w Crank → PlaceWalks w (place_of w from) es q → WalksFrom w from es q
walk_from w from [] q some h = record { to = from; walks = refl; end = h }
walk_from w from (e ∷ es) q some h =
    let before = walk_from w from es h.0 some h.1.0 in
    let pass = pass_from w before.to e.channel e.polarity q some (subst (λ z. IsPass w z e.channel e.polarity q) before.end h.1.1) in
    record {
      to = passed e.channel before.to;
      walks = (before.to, before.walks, pass.0.present, pass.0.polarity, pass.0.standing, refl);
      end = pass.1;
    }

-- the place found after an edge that can be passed
pub pass_found : (w : WheelParts) (p : Place) (s : Seen) (pol : Pol) (q : Place) → 0 < edge_count w Crank → s.edge ≡ Some pol → IsNextEdge w p s.channel pol → q ≡ place_of w (passed s.channel (indices_of p)) → IsStanding w (indices_of q) → Passes w p s q
pass_found w p s pol q some e next end stands =
    let standing = stands_carried w (passed s.channel (indices_of p)) some (subst (λ r. IsStanding w (indices_of r)) end stands) in
    subst (λ o. PassesIf w p s.channel o q) (sym e) (record { edge = next; standing = standing; end = end })

-- and none after one that cannot
pub pass_lost : (w : WheelParts) (p : Place) (s : Seen) (pol : Pol) (q : Place) → 0 < edge_count w Crank → s.edge ≡ Some pol → q ≡ place_of w (passed s.channel (indices_of p)) → (IsStanding w (indices_of q) → ⊥) → (r : Place) → Passes w p s r → ⊥
pass_lost w p s pol q some e end none r h =
    let pass : IsPass w p s.channel pol r = subst (λ o. PassesIf w p s.channel o r) e h in
    none (subst (λ x. IsStanding w (indices_of x)) (sym end) (carried_place w (passed s.channel (indices_of p)) some pass.standing).stands)
