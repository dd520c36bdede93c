-- Walks that are legal at each instant are those of permitted motions.
use Rattle.std.proofs.Common.{◌≡◌, ◌<◌, List, [], ◌∷◌, sym, ◌∙◌, subst}
use Rattle.wheel_types.specs.declared.channel.Channel.TheVariants.{Crank}
use Rattle.wheel_types.specs.declared.place.Place.{Place}
use Rattle.wheel_types.specs.declared.instant.Instant.{Instant}
use Rattle.wheel_types.specs.declared.parts.WheelParts.{WheelParts}
use Rattle.wheel_types.specs.Edges.{edge_count}
use Rattle.wheel_types.specs.Verdicts.{Leads, EndsAt}
use Rattle.wheel_types.proofs.Places.{leads_after_step}
use Rattle.wheel_types.proofs.BothWays.{step_leads}
use Rattle.wheel_types.proofs.StartsAndEnds.{start_determined}
use Rattle.wheel_types.proofs.Standing.{ends_of_none, place_of-indices}
use Rattle.wheel_types.proofs.RisingTimes.{RisesTo}
use Rattle.cam_ranges.specs.Places.{IsPlace}
use Rattle.cam_ranges.proofs.SmallPlaces.{place_stands}
use Rattle.certificate_checker.specs.Situations.{IsWalk}

-- before any instant motions end at exactly the places of the wheel
pub place_ends : (w : WheelParts) (p : Place) → 0 < edge_count w Crank → IsPlace w p → EndsAt w [] p
place_ends w p some is = (ends_of_none w p some).1 ((place_stands w p).1 is)

pub ends_place : (w : WheelParts) (p : Place) → 0 < edge_count w Crank → EndsAt w [] p → IsPlace w p
ends_place w p some e = (place_stands w p).0 ((ends_of_none w p some).0 e)

-- a motion that passes no edge ends where it begins
stays : (w : WheelParts) (a e : Place) → 0 < edge_count w Crank → IsPlace w e → Leads w [] a e → e ≡ a
stays w a e some is l = sym (start_determined w [] a e some l ∙ place_of-indices w e is.edge)

pub place_leads : (w : WheelParts) (p : Place) → 0 < edge_count w Crank → IsPlace w p → Leads w [] p p
place_leads w p some is =
    let e : EndsAt w [] p = place_ends w p some is in
    subst (λ a. Leads w [] a p) (sym (stays w e.0 p some is e.1)) e.1

-- a motion's places make a walk
pub leads_walk : (w : WheelParts) (past : List Instant) (a e : Place) → 0 < edge_count w Crank → Leads w past a e → IsWalk w past a e
leads_walk w [] a e some l =
    let is : IsPlace w e = ends_place w e some (a, l) in
    let same : e ≡ a = stays w a e some is l in
    (subst (IsPlace w) same is, same)
leads_walk w (i ∷ past) a e some l =
    let s = leads_after_step w i past a e some l in
    (s.0, (leads_walk w past a s.0 some s.1, s.2))

-- and over instants whose times rise a walk is that of a motion
pub walk_leads : (w : WheelParts) (past : List Instant) (a e : Place) → 0 < edge_count w Crank → RisesTo past → IsWalk w past a e → Leads w past a e
walk_leads w [] a e some r k = subst (Leads w [] a) (sym k.1) (place_leads w a some k.0)
walk_leads w (i ∷ past) a e some r k = step_leads w i past a k.0 e some r.0 (walk_leads w past a k.0 some r.1 k.1.0) k.1.1
