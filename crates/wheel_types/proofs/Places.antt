-- The places at which motions end, instant by instant.
use Rattle.std.proofs.Common.{◌<◌, List, ◌∷◌, neg_ℤ, refl, sym, subst}
use Rattle.wheel_types.specs.declared.channel.Channel.TheVariants.{Crank}
use Rattle.wheel_types.specs.declared.parts.WheelParts.{WheelParts}
use Rattle.wheel_types.specs.declared.place.Place.{Place}
use Rattle.wheel_types.specs.declared.instant.Instant.{Instant}
use Rattle.wheel_types.specs.Edges.{edge_count}
use Rattle.wheel_types.specs.Motions.{Indices, indices_after}
use Rattle.wheel_types.specs.Verdicts.{place_of, Leads, EndsAt}
use Rattle.wheel_types.specs.Steps.{Steps, IsLegalStep}
use Rattle.wheel_types.proofs.Forward.{motion_of, stepped}
use Rattle.wheel_types.proofs.Shifted.{shifted, cycle_at, to_place, steps-later, place_of-shifted}

-- a step between indices is a legal step between their places
pub legal_step : (w : WheelParts) (past : List Instant) (from : Indices) (i : Instant) (to : Indices) → 0 < edge_count w Crank → Steps w past from i to → IsLegalStep w past (place_of w from) i (place_of w to)
legal_step w past from i to h s =
    let k = neg_ℤ (cycle_at w from) in
    (shifted w k to, subst (λ ix. Steps w past ix i (shifted w k to)) (to_place w from h) (steps-later w k past from i to h s), sym (place_of-shifted w k to h))

-- a motion that gives one more instant made a legal step from where it was
pub leads_after_step : (w : WheelParts) (i : Instant) (past : List Instant) (a q : Place) → 0 < edge_count w Crank → Leads w (i ∷ past) a q → (p : Place) × Leads w past a p × IsLegalStep w past p i q
leads_after_step w i past a q h l =
    let m = l.motion in
    let s = stepped w m.angle m.start i past m.moves l.permitted l.gives in
    let before = indices_after m.start s.moves in (
      place_of w before,
      record { motion = motion_of m.angle m.start s.moves; permitted = s.permitted; gives = s.gave; starts = l.starts; ends = refl },
      subst (IsLegalStep w past (place_of w before) i) l.ends (legal_step w past before i (indices_after m.start m.moves) h s.step),
    )

pub ends_after_step : (w : WheelParts) (i : Instant) (past : List Instant) (q : Place) → 0 < edge_count w Crank → EndsAt w (i ∷ past) q → (p : Place) × EndsAt w past p × IsLegalStep w past p i q
ends_after_step w i past q h e = let s = leads_after_step w i past e.0 q h e.1 in (s.0, (e.0, s.1), s.2)
