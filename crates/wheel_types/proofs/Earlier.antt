-- A motion that goes on after instants that are all earlier.
use Rattle.std.proofs.Common.{◌≡◌, List, [], ◌∷◌, ◌++◌, ℤ, ◌<ℤ◌, sym, subst}
use Rattle.std.specs.Prelude.{Option, Some, None, ⊤}
use Rattle.std.specs.List.{AllByRecursion}
use Rattle.std.proofs.lemmas.List.Elements.{All-from_recursion, All-contains}
use Rattle.wheel_types.specs.declared.channel.Pol.{Pol}
use Rattle.wheel_types.specs.declared.instant.Instant.{Instant}
use Rattle.wheel_types.specs.declared.parts.WheelParts.{WheelParts}
use Rattle.wheel_types.specs.Motions.{Indices, Move, IsPermitted, Event, AllKeepSpeed, AllKeepRatio, orders, events_at, events_of, events_passed, Groups, indices_after}
use Rattle.wheel_types.specs.Steps.{KeepsGaps}
use Rattle.wheel_types.specs.Verdicts.{AllEarlier}
use Rattle.wheel_types.proofs.Forward.{motion_of, numbered}

abbrev pub EventsEarlier : ℤ → List Event → Type 0
EventsEarlier t es = AllByRecursion (λ (e : Event). e.time <ℤ t) es

group_earlier : (t u : ℤ) (a b c : Option Pol) → u <ℤ t → AllByRecursion (EventsEarlier t) (orders (events_at u a b c))
group_earlier t u None None None h = (tt, tt)
group_earlier t u None None (Some c) h = ((h, tt), tt)
group_earlier t u None (Some b) None h = ((h, tt), tt)
group_earlier t u None (Some b) (Some c) h = ((h, (h, tt)), ((h, (h, tt)), tt))
group_earlier t u (Some a) None None h = ((h, tt), tt)
group_earlier t u (Some a) None (Some c) h = ((h, (h, tt)), ((h, (h, tt)), tt))
group_earlier t u (Some a) (Some b) None h = ((h, (h, tt)), ((h, (h, tt)), tt))
group_earlier t u (Some a) (Some b) (Some c) h =
    let three : (u <ℤ t) × ((u <ℤ t) × ((u <ℤ t) × ⊤)) = (h, (h, (h, tt))) in
    (three, (three, (three, (three, (three, (three, tt))))))

earlier-append : (t : ℤ) (es fs : List Event) → EventsEarlier t es → EventsEarlier t fs → EventsEarlier t (es ++ fs)
earlier-append t [] fs h k = k
earlier-append t (e ∷ es) fs h k = (h.0, earlier-append t es fs h.1 k)

pub events_earlier : (t : ℤ) (es : List Event) (past : List Instant) → AllEarlier t past → Groups es past → EventsEarlier t es
events_earlier t es [] h g = subst (EventsEarlier t) (sym g) tt
events_earlier t es (i ∷ past) h g =
    let first : EventsEarlier t g.0 = All-contains (EventsEarlier t) (orders (events_of i)) g.0 (All-from_recursion (EventsEarlier t) (orders (events_of i)) (group_earlier t i.time i.crank i.cam1 i.cam2 h.0)) g.3 in
    subst (EventsEarlier t) (sym g.2) (earlier-append t g.0 g.1 first (events_earlier t g.1 past h.1 g.4))

pub speed_more : (w : WheelParts) (m t : ℤ) (ts : List ℤ) → KeepsGaps w m t ts → AllKeepSpeed w (numbered m ts) → AllKeepSpeed w (record { time = t; edge = m } ∷ numbered m ts)
speed_more w m t [] k s = tt
speed_more w m t (u ∷ []) k s = (k, s)
speed_more w m t (u ∷ v ∷ ts) k s = (k.0, s)

pub ratio_more : (w : WheelParts) (m t : ℤ) (ts : List ℤ) → KeepsGaps w m t ts → AllKeepRatio w (numbered m ts) → AllKeepRatio w (record { time = t; edge = m } ∷ numbered m ts)
ratio_more w m t [] k s = tt
ratio_more w m t (u ∷ []) k s = tt
ratio_more w m t (u ∷ v ∷ ts) k s = (k.1, s)

-- a motion that goes on by a step
pub record GoesOn (w : WheelParts) (x : ℤ) (ix : Indices) (vs : List Move) (i : Instant) (past : List Instant) (to : Indices) : Type 0 where
  pub moves : List Move
  pub permitted : IsPermitted w (motion_of x ix moves)
  pub gives : Groups (events_passed w ix moves) (i ∷ past)
  pub ends : to ≡ indices_after ix moves
