-- Legal steps by passes from place to place, and by the last two crank edges.
use Rattle.std.proofs.Common.{◌≡◌, ◌+◌, ◌<◌, List, ℤ, pos, sym, ◌∙◌, ap, subst, arith, take}
use Rattle.std.specs.Prelude.{Option, Some, None, MatchOption}
use Rattle.wheel_types.specs.declared.channel.Channel.TheVariants.{Crank}
use Rattle.wheel_types.specs.declared.channel.Pol.{Pol}
use Rattle.wheel_types.specs.declared.place.Place.{Place}
use Rattle.wheel_types.specs.declared.instant.Instant.{Instant}
use Rattle.wheel_types.specs.declared.parts.WheelParts.{WheelParts}
use Rattle.wheel_types.specs.Edges.{edge_count}
use Rattle.wheel_types.specs.Motions.{Event}
use Rattle.wheel_types.specs.Verdicts.{place_of}
use Rattle.wheel_types.specs.Steps.{indices_of, IsLegalStep, KeepsGaps, KeepsGapsIf, crank_times}
use Rattle.wheel_types.proofs.OneStep.{after_instant, walks_to, indices_by-order}
use Rattle.wheel_types.proofs.Standing.{place_of-indices, walks_stand}
use Rattle.cam_ranges.specs.Places.{IsPlace}
use Rattle.legal_steps.specs.Passes.{PassesInstant, Finds}
use Rattle.legal_steps.specs.TimedSteps.{IsTimedStep}
use Rattle.legal_steps.proofs.KeptGaps.{gaps_if-by_two, gaps_if-from_two}
use Rattle.legal_steps.proofs.Passing.{PlaceWalks, WalksFrom, walk_of, walk_from, carried_place}
use Rattle.legal_steps.proofs.InOrder.{order_passes, passes_in_order}

some_edge : (w : WheelParts) (p : Place) → IsPlace w p → 0 < edge_count w Crank
some_edge w p is = let h : p.j < edge_count w Crank = is.edge in omega (arith, h)

-- walks from the next edges of a place
from_place : (w : WheelParts) (p q : Place) (es : List Event) → IsPlace w p → PlaceWalks w p es q → WalksFrom w (indices_of p) es q
from_place w p q es is h = walk_from w (indices_of p) es q (some_edge w p is) (subst (λ r. PlaceWalks w r es q) (sym (place_of-indices w p is.edge)) h)

-- what passes an instant's edges comes to one place
pub passes_to : (w : WheelParts) (p q : Place) (i : Instant) → IsPlace w p → PassesInstant w p i q → q ≡ place_of w (after_instant i (indices_of p))
passes_to w p q i is h =
    let o = passes_in_order w p q i h in
    let walk = from_place w p q o.order is o.walks in
    walk.end ∙ ap (place_of w) (walks_to w (indices_of p) o.order walk.to walk.walks ∙ indices_by-order i (indices_of p) o.order o.is_order)

pub timed_step_once : (w : WheelParts) (times : List ℤ) (p : Place) (i : Instant) (q r : Place) → IsPlace w p → IsTimedStep w times p i q → IsTimedStep w times p i r → q ≡ r
timed_step_once w times p i q r is h k = passes_to w p q i is h.passes ∙ sym (passes_to w p r i is k.passes)

-- a step after the last two crank edges is a legal step
pub timed_is_legal : (w : WheelParts) (past : List Instant) (times : List ℤ) (p : Place) (i : Instant) (q : Place) → IsPlace w p → times ≡ take 2 (crank_times past) → IsTimedStep w times p i q → IsLegalStep w past p i q
timed_is_legal w past times p i q is e h =
    let o = passes_in_order w p q i h.passes in
    let walk = from_place w p q o.order is o.walks in
    (walk.to, record { order = o.order; is_order = o.is_order; walks = walk.walks; gaps = gaps_if-from_two w i.crank (pos (p.j + 1)) i.time (crank_times past) times e h.gaps }, walk.end)

-- and the other way round
pub legal_is_timed : (w : WheelParts) (past : List Instant) (times : List ℤ) (p : Place) (i : Instant) (q : Place) → IsPlace w p → times ≡ take 2 (crank_times past) → IsLegalStep w past p i q → IsTimedStep w times p i q
legal_is_timed w past times p i q is e h =
    let step = h.1 in
    let over = walk_of w (indices_of p) step.order h.0 (some_edge w p is) step.walks in
    let from = subst (λ r. PlaceWalks w r step.order (place_of w h.0)) (place_of-indices w p is.edge) over in
    let walk = subst (PlaceWalks w p step.order) (sym h.2) from in
    record { passes = order_passes w p q i step.order step.is_order walk; gaps = gaps_if-by_two w i.crank (pos (p.j + 1)) i.time (crank_times past) times e step.gaps }

-- a step leads to a place of the wheel
pub timed_step_place : (w : WheelParts) (times : List ℤ) (p : Place) (i : Instant) (q : Place) → IsPlace w p → IsTimedStep w times p i q → IsPlace w q
timed_step_place w times p i q is h =
    let o = passes_in_order w p q i h.passes in
    let walk = from_place w p q o.order is o.walks in
    let stands = walks_stand w (indices_of p) o.order walk.to walk.walks is.stands in
    subst (IsPlace w) (sym walk.end) (carried_place w walk.to (some_edge w p is) stands)

-- where the limits are not kept there is no step
pub no_step : (w : WheelParts) (times : List ℤ) (p : Place) (i : Instant) (pol : Pol) → i.crank ≡ Some pol → (KeepsGaps w (pos (p.j + 1)) i.time times → ⊥) → (q : Place) → IsTimedStep w times p i q → ⊥
no_step w times p i pol e none q h = none (subst (λ o. KeepsGapsIf o w (pos (p.j + 1)) i.time times) e h.gaps)

-- where they are, the step passes the instant's edges
pub step_by : (w : WheelParts) (times : List ℤ) (p : Place) (i : Instant) (r : Option Place) → KeepsGapsIf i.crank w (pos (p.j + 1)) i.time times → Finds (PassesInstant w p i) r → Finds (IsTimedStep w times p i) r
step_by w times p i None gaps f = λ q h. f q h.passes
step_by w times p i (Some q) gaps f = record { passes = f; gaps = gaps }

pub gaps_seen : (w : WheelParts) (o : Option Pol) (pol : Pol) (m t : ℤ) (times : List ℤ) → o ≡ Some pol → KeepsGaps w m t times → KeepsGapsIf o w m t times
gaps_seen w o pol m t times e g = subst (λ x. KeepsGapsIf x w m t times) (sym e) g

pub no_gaps : (w : WheelParts) (o : Option Pol) (m t : ℤ) (times : List ℤ) → o ≡ None → KeepsGapsIf o w m t times
no_gaps w o m t times e = subst (λ x. KeepsGapsIf x w m t times) (sym e) tt

-- what is found is the legal step
pub found_legal : (w : WheelParts) (past : List Instant) (times : List ℤ) (p : Place) (i : Instant) (r : Option Place) → IsPlace w p → times ≡ take 2 (crank_times past) → Finds (IsTimedStep w times p i) r → MatchOption r ((q : Place) → IsLegalStep w past p i q → ⊥) (λ q. IsLegalStep w past p i q)
found_legal w past times p i None is e f = λ q h. f q (legal_is_timed w past times p i q is e h)
found_legal w past times p i (Some q) is e f = timed_is_legal w past times p i q is e f
