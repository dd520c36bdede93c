-- The start place of a permitted motion names one motion.
use Rattle.std.proofs.Common.{◌<◌, List, reverse, refl, ◌∙◌, ap, subst, arith}
use Rattle.std.specs.Prelude.{pos, ◌-ℤ◌}
use Rattle.wheel_types.specs.declared.channel.Channel.TheVariants.{Crank}
use Rattle.wheel_types.specs.declared.place.Place.{Place}
use Rattle.wheel_types.specs.declared.instant.Instant.{Instant}
use Rattle.wheel_types.specs.declared.parts.WheelParts.{WheelParts}
use Rattle.wheel_types.specs.Wheels.{IsWheel}
use Rattle.wheel_types.specs.Edges.{edge_count}
use Rattle.wheel_types.specs.Motions.{Motion, IsPermitted, indices_after}
use Rattle.wheel_types.specs.Verdicts.{Leads, IsRising, place_of}
use Rattle.wheel_types.specs.Named.{IsNamedMotion}
use Rattle.wheel_types.proofs.Unrolled.{number_below}
use Rattle.wheel_types.proofs.Standing.{place_of-indices}
use Rattle.wheel_types.proofs.RisingTimes.{RisesTo, rises_to-reverse}
use Rattle.wheel_types.proofs.StartsAndEnds.{end_once}
use Rattle.wheel_types.proofs.NamedMotion.{named_motion, named_motion_once, named_gives}
use Rattle.cam_ranges.specs.Laws.{NamesOne}

-- a start place names a crank edge of the first cycle
starts_within : (w : WheelParts) (past : List Instant) (from to : Place) → 0 < edge_count w Crank → Leads w past from to → from.j < edge_count w Crank
starts_within w past from to some l = subst (λ (p : Place). p.j < edge_count w Crank) l.starts (number_below (edge_count w Crank) (l.motion.start.crank -ℤ pos 1) some)

-- the named motion leads from the start place to where it ends
named_leads : (w : WheelParts) (past : List Instant) (from to : Place) (e : Motion) → 0 < edge_count w Crank → Leads w past from to → IsNamedMotion w past from e → IsPermitted w e → Leads w past from (place_of w (indices_after e.start e.moves))
named_leads w past from to e some l named permitted = record {
  motion = e;
  permitted = permitted;
  gives = named_gives w past from e named;
  starts = ap (place_of w) named.start ∙ place_of-indices w from (starts_within w past from to some l);
  ends = refl;
}

-- the start place names one motion
names_one : (w : WheelParts) (past : List Instant) (from to : Place) → 0 < edge_count w Crank → RisesTo past → Leads w past from to → NamesOne w past from to
names_one w past from to some rises l =
    let n = named_motion w past from to some rises l in
    record {
      motion = n.motion;
      named = n.named;
      permitted = n.permitted;
      gives = named_gives w past from n.motion n.named;
      ends = end_once w past from (place_of w (indices_after n.motion.start n.motion.moves)) to some (named_leads w past from to n.motion some l n.named n.permitted) l;
      one = λ other named. named_motion_once w past from other n.motion named n.named;
    }

-- the same of instants in order
pub names_one_rising : (w : WheelParts) (is : List Instant) (from to : Place) → IsWheel w → IsRising is → Leads w (reverse is) from to → NamesOne w (reverse is) from to
names_one_rising w is from to wheel rising l =
    let some : 0 < edge_count w Crank = omega (arith, wheel.crank_edge) in
    names_one w (reverse is) from to some (rises_to-reverse is rising) l
