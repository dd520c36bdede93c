-- Where motions end after one more instant: at the legal steps of where they ended before, on every wheel.
use Rattle.std.proofs.Common.{◌≡◌, ◌≢◌, ◌<◌, ◌↔◌, List, [], ◌∷◌, ◌++◌, ℤ, ◌≤ℤ◌, refl, sym, ◌∙◌, ap, subst, arith, Bool, true, false}
use Rattle.std.proofs.lemmas.Int.{ints}
use Rattle.std.specs.Prelude.{Contains, Option, Some, None, ⊤}
use Rattle.std.specs.List.{AllByRecursion}
use Rattle.std.proofs.lemmas.List.Elements.{All-from_recursion, All-contains}
use Rattle.wheel_types.specs.declared.channel.Pol.{Pol}
use Rattle.wheel_types.specs.declared.channel.Channel.{Channel}
use Rattle.wheel_types.specs.declared.channel.Channel.TheVariants.{Crank, Cam1, Cam2}
use Rattle.wheel_types.specs.declared.place.Place.{Place}
use Rattle.wheel_types.specs.declared.instant.Instant.{Instant}
use Rattle.wheel_types.specs.declared.parts.WheelParts.{WheelParts}
use Rattle.wheel_types.specs.Edges.{edge_count}
use Rattle.wheel_types.specs.Motions.{Indices, Move, Event, Pass, InTime, NoneAfter, NoneAt, IsPermitted, AllKeepSpeed, AllKeepRatio, orders, events_at, events_of, events_passed, Groups, indices_after, crank_passes}
use Rattle.wheel_types.specs.Verdicts.{place_of, Leads, EndsAt, AllEarlier}
use Rattle.wheel_types.specs.Steps.{Steps, indices_of, IsLegalStep, KeepsGapsIf, crank_times}
use Rattle.wheel_types.proofs.Places.{ends_after_step}
use Rattle.wheel_types.proofs.Forward.{motion_of, numbered, pass_at, passes-numbered, passes_by-order}
use Rattle.wheel_types.proofs.Earlier.{EventsEarlier, events_earlier, speed_more, ratio_more, GoesOn}
use Rattle.wheel_types.proofs.GoesOn.{makes_walk}
use Rattle.wheel_types.proofs.Shifted.{shifted, cycle_at, of_place, steps-later, place_of-shifted}

abbrev pub same_channel : Channel → Channel → Bool
same_channel Crank Crank = true
same_channel Crank Cam1 = false
same_channel Crank Cam2 = false
same_channel Cam1 Crank = false
same_channel Cam1 Cam1 = true
same_channel Cam1 Cam2 = false
same_channel Cam2 Crank = false
same_channel Cam2 Cam1 = false
same_channel Cam2 Cam2 = true

apart : (c d : Channel) → same_channel c d ≡ false → c ≢ d
apart Crank Crank h e = cc
apart Crank Cam1 h e = cc
apart Crank Cam2 h e = cc
apart Cam1 Crank h e = cc
apart Cam1 Cam1 h e = cc
apart Cam1 Cam2 h e = cc
apart Cam2 Crank h e = cc
apart Cam2 Cam1 h e = cc
apart Cam2 Cam2 h e = cc

-- the channel is none of those of the events, each of which is at the time t
abbrev pub Others : ℤ → Channel → List Event → Type 0
Others t c [] = ⊤
Others t c (e ∷ es) = (e.time ≡ t) × ((same_channel e.channel c ≡ false) × Others t c es)

abbrev pub Once : ℤ → List Event → Type 0
Once t [] = ⊤
Once t (e ∷ es) = (e.time ≡ t) × (Others t e.channel es × Once t es)

orders_once : (t : ℤ) (a b c : Option Pol) → AllByRecursion (Once t) (orders (events_at t a b c))
orders_once t None None None = (tt, tt)
orders_once t None None (Some c) = ((refl, (tt, tt)), tt)
orders_once t None (Some b) None = ((refl, (tt, tt)), tt)
orders_once t (Some a) None None = ((refl, (tt, tt)), tt)
orders_once t None (Some b) (Some c) = ((refl, ((refl, (refl, tt)), (refl, (tt, tt)))), ((refl, ((refl, (refl, tt)), (refl, (tt, tt)))), tt))
orders_once t (Some a) None (Some c) = ((refl, ((refl, (refl, tt)), (refl, (tt, tt)))), ((refl, ((refl, (refl, tt)), (refl, (tt, tt)))), tt))
orders_once t (Some a) (Some b) None = ((refl, ((refl, (refl, tt)), (refl, (tt, tt)))), ((refl, ((refl, (refl, tt)), (refl, (tt, tt)))), tt))
orders_once t (Some a) (Some b) (Some c) = (
  (refl, ((refl, (refl, (refl, (refl, tt)))), (refl, ((refl, (refl, tt)), (refl, (tt, tt)))))),
  (
    (refl, ((refl, (refl, (refl, (refl, tt)))), (refl, ((refl, (refl, tt)), (refl, (tt, tt)))))),
    (
      (refl, ((refl, (refl, (refl, (refl, tt)))), (refl, ((refl, (refl, tt)), (refl, (tt, tt)))))),
      (
        (refl, ((refl, (refl, (refl, (refl, tt)))), (refl, ((refl, (refl, tt)), (refl, (tt, tt)))))),
        (
          (refl, ((refl, (refl, (refl, (refl, tt)))), (refl, ((refl, (refl, tt)), (refl, (tt, tt)))))),
          ((refl, ((refl, (refl, (refl, (refl, tt)))), (refl, ((refl, (refl, tt)), (refl, (tt, tt)))))), tt),
        ),
      ),
    ),
  ),
)

pub order_once : (i : Instant) (order : List Event) → Contains (orders (events_of i)) order → Once i.time order
order_once i order h = All-contains (Once i.time) (orders (events_of i)) order (All-from_recursion (Once i.time) (orders (events_of i)) (orders_once i.time i.crank i.cam1 i.cam2)) h

-- `InTime` of the events
abbrev pub EventsInTime : List Event → Type 0
EventsInTime [] = ⊤
EventsInTime (e ∷ es) = AllByRecursion (λ (f : Event). f.time ≤ℤ e.time) es × (AllByRecursion (λ (f : Event). f.time ≡ e.time → f.channel ≢ e.channel) es × EventsInTime es)

none_after : (w : WheelParts) (t : ℤ) (ix : Indices) (vs : List Move) → AllByRecursion (λ (f : Event). f.time ≤ℤ t) (events_passed w ix vs) → NoneAfter t vs
none_after w t ix [] h = tt
none_after w t ix (v ∷ vs) h = (h.0, none_after w t ix vs h.1)

none_at : (w : WheelParts) (t : ℤ) (c : Channel) (ix : Indices) (vs : List Move) → AllByRecursion (λ (f : Event). f.time ≡ t → f.channel ≢ c) (events_passed w ix vs) → NoneAt t c vs
none_at w t c ix [] h = tt
none_at w t c ix (v ∷ vs) h = (h.0, none_at w t c ix vs h.1)

pub in_time : (w : WheelParts) (ix : Indices) (vs : List Move) → EventsInTime (events_passed w ix vs) → InTime vs
in_time w ix [] h = tt
in_time w ix (v ∷ vs) h = (none_after w v.time ix vs h.0, none_at w v.time v.channel ix vs h.1.0, in_time w ix vs h.1.1)

after_none : (w : WheelParts) (t : ℤ) (ix : Indices) (vs : List Move) → NoneAfter t vs → AllByRecursion (λ (f : Event). f.time ≤ℤ t) (events_passed w ix vs)
after_none w t ix [] h = tt
after_none w t ix (v ∷ vs) h = (h.0, after_none w t ix vs h.1)

at_none : (w : WheelParts) (t : ℤ) (c : Channel) (ix : Indices) (vs : List Move) → NoneAt t c vs → AllByRecursion (λ (f : Event). f.time ≡ t → f.channel ≢ c) (events_passed w ix vs)
at_none w t c ix [] h = tt
at_none w t c ix (v ∷ vs) h = (h.0, at_none w t c ix vs h.1)

pub events_in_time : (w : WheelParts) (ix : Indices) (vs : List Move) → InTime vs → EventsInTime (events_passed w ix vs)
events_in_time w ix [] h = tt
events_in_time w ix (v ∷ vs) h = (after_none w v.time ix vs h.0, (at_none w v.time v.channel ix vs h.1, events_in_time w ix vs h.2))

earlier_after : (t u : ℤ) (rest : List Event) → u ≡ t → EventsEarlier t rest → AllByRecursion (λ (f : Event). f.time ≤ℤ u) rest
earlier_after t u [] e h = tt
earlier_after t u (f ∷ rest) e h = (omega (arith, ints, e, h.0), earlier_after t u rest e h.1)

earlier_at : (t u : ℤ) (c : Channel) (rest : List Event) → u ≡ t → EventsEarlier t rest → AllByRecursion (λ (f : Event). f.time ≡ u → f.channel ≢ c) rest
earlier_at t u c [] e h = tt
earlier_at t u c (f ∷ rest) e h = (λ k. absurd (omega (arith, ints, e, h.0, k)), earlier_at t u c rest e h.1)

others_after : (t u : ℤ) (c : Channel) (es rest : List Event) → u ≡ t → Others t c es → EventsEarlier t rest → AllByRecursion (λ (f : Event). f.time ≤ℤ u) (es ++ rest)
others_after t u c [] rest e o h = earlier_after t u rest e h
others_after t u c (f ∷ es) rest e o h = (omega (arith, ints, e, o.0), others_after t u c es rest e o.1.1 h)

others_at : (t u : ℤ) (c : Channel) (es rest : List Event) → u ≡ t → Others t c es → EventsEarlier t rest → AllByRecursion (λ (f : Event). f.time ≡ u → f.channel ≢ c) (es ++ rest)
others_at t u c [] rest e o h = earlier_at t u c rest e h
others_at t u c (f ∷ es) rest e o h = (λ _. apart f.channel c o.1.0, others_at t u c es rest e o.1.1 h)

pub group_in_time : (t : ℤ) (es rest : List Event) → Once t es → EventsEarlier t rest → EventsInTime rest → EventsInTime (es ++ rest)
group_in_time t [] rest o h k = k
group_in_time t (e ∷ es) rest o h k = (others_after t e.time e.channel es rest o.0 o.1.0 h, (others_at t e.time e.channel es rest o.0 o.1.0 h, group_in_time t es rest o.1.1 h k))

pub speed_if : (w : WheelParts) (a : Option Pol) (m t : ℤ) (ts : List ℤ) (ps qs : List Pass) → ps ≡ pass_at a (record { time = t; edge = m }) qs → qs ≡ numbered m ts → KeepsGapsIf a w m t ts → AllKeepSpeed w qs → AllKeepSpeed w ps
speed_if w None m t ts ps qs e f g s = subst (AllKeepSpeed w) (sym e) s
speed_if w (Some pol) m t ts ps qs e f g s = subst (AllKeepSpeed w) (sym (e ∙ ap (λ (k : List Pass). record { time = t; edge = m } ∷ k) f)) (speed_more w m t ts g (subst (AllKeepSpeed w) f s))

pub ratio_if : (w : WheelParts) (a : Option Pol) (m t : ℤ) (ts : List ℤ) (ps qs : List Pass) → ps ≡ pass_at a (record { time = t; edge = m }) qs → qs ≡ numbered m ts → KeepsGapsIf a w m t ts → AllKeepRatio w qs → AllKeepRatio w ps
ratio_if w None m t ts ps qs e f g s = subst (AllKeepRatio w) (sym e) s
ratio_if w (Some pol) m t ts ps qs e f g s = subst (AllKeepRatio w) (sym (e ∙ ap (λ (k : List Pass). record { time = t; edge = m } ∷ k) f)) (ratio_more w m t ts g (subst (AllKeepRatio w) f s))

-- a motion goes on by each step
pub goes_on : (w : WheelParts) (x : ℤ) (ix : Indices) (vs : List Move) (i : Instant) (past : List Instant) (to : Indices) → IsPermitted w (motion_of x ix vs) → Groups (events_passed w ix vs) past → AllEarlier i.time past → Steps w past (indices_after ix vs) i to → GoesOn w x ix vs i past to
goes_on w x ix vs i past to h g early step =
    let made = makes_walk w x ix vs step.order to h.motion.standing h.motion.moves step.walks in
    let rest = events_passed w ix vs in
    let fits : EventsInTime (step.order ++ rest) = group_in_time i.time step.order rest (order_once i step.order step.is_order) (events_earlier i.time rest past early g) (events_in_time w ix vs h.motion.times) in
    let crank = made.crank ∙ passes_by-order i (indices_after ix vs) (crank_passes ix vs) step.order step.is_order in
    let before = passes-numbered w x ix past vs h g in
    record {
      moves = made.moves;
      permitted = record {
        motion = record { standing = h.motion.standing; moves = made.can; times = in_time w ix made.moves (subst EventsInTime (sym made.passes) fits) };
        speed = speed_if w i.crank (indices_after ix vs).crank i.time (crank_times past) _ _ crank before step.gaps h.speed;
        ratio = ratio_if w i.crank (indices_after ix vs).crank i.time (crank_times past) _ _ crank before step.gaps h.ratio;
      };
      gives = (step.order, rest, made.passes, step.is_order, g);
      ends = made.ends;
    }

-- and so to each legal step of its place, from where it began
pub step_leads : (w : WheelParts) (i : Instant) (past : List Instant) (a p q : Place) → 0 < edge_count w Crank → AllEarlier i.time past → Leads w past a p → IsLegalStep w past p i q → Leads w (i ∷ past) a q
step_leads w i past a p q h early l s =
    let m = l.motion in
    let ix = indices_after m.start m.moves in
    let k = cycle_at w ix in
    let here : shifted w k (indices_of p) ≡ ix = ap (λ r. shifted w k (indices_of r)) (sym l.ends) ∙ of_place w ix h in
    let step : Steps w past ix i (shifted w k s.0) = subst (λ r. Steps w past r i (shifted w k s.0)) here (steps-later w k past (indices_of p) i s.0 h s.1) in
    let on = goes_on w m.angle m.start m.moves i past (shifted w k s.0) l.permitted l.gives early step in
    record { motion = motion_of m.angle m.start on.moves; permitted = on.permitted; gives = on.gives; starts = l.starts; ends = ap (place_of w) (sym on.ends) ∙ place_of-shifted w k s.0 h ∙ sym s.2 }

pub step_ends : (w : WheelParts) (i : Instant) (past : List Instant) (p q : Place) → 0 < edge_count w Crank → AllEarlier i.time past → EndsAt w past p → IsLegalStep w past p i q → EndsAt w (i ∷ past) q
step_ends w i past p q h early e s = (e.0, step_leads w i past e.0 p q h early e.1 s)

-- motions that give one more instant end at exactly the legal steps of where they ended before
pub ends_are_steps : (w : WheelParts) (i : Instant) (past : List Instant) (q : Place) → 0 < edge_count w Crank → AllEarlier i.time past → EndsAt w (i ∷ past) q ↔ ((p : Place) × EndsAt w past p × IsLegalStep w past p i q)
ends_are_steps w i past q h early = (ends_after_step w i past q h, λ s. step_ends w i past s.0 q h early s.1 s.2)
