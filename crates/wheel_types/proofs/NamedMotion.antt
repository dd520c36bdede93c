-- A start place from which a permitted motion gives the instants names one motion, which is permitted and gives them.
use Rattle.std.proofs.Common.{◌≡◌, ◌<◌, List, [], ◌∷◌, ◌++◌, ℤ, ◌≤ℤ◌, neg_ℤ, refl, sym, ◌∙◌, ap, subst, arith}
use Rattle.std.proofs.lemmas.Int.{ints}
use Rattle.wheel_types.specs.declared.channel.Channel.{Channel}
use Rattle.wheel_types.specs.declared.channel.Channel.TheVariants.{Crank}
use Rattle.wheel_types.specs.declared.place.Place.{Place}
use Rattle.wheel_types.specs.declared.instant.Instant.{Instant}
use Rattle.wheel_types.specs.declared.parts.WheelParts.{WheelParts}
use Rattle.wheel_types.specs.Edges.{edge_count}
use Rattle.wheel_types.specs.Motions.{Indices, passed, Move, Motion, IsPermitted, Event, events_passed, Groups, Gives, indices_after, angle_after, crank_passes}
use Rattle.wheel_types.specs.Verdicts.{Leads, AllEarlier}
use Rattle.wheel_types.specs.Steps.{Steps, indices_of, crank_times}
use Rattle.wheel_types.specs.Named.{IsLeastAngle, AtLeastAngles, IsFirstOrder, InFirstOrders, IsNamedMotion}
use Rattle.wheel_types.proofs.Forward.{motion_of, stepped, passes_by, passes_by-order, passes-numbered, pass_at}
use Rattle.wheel_types.proofs.Earlier.{events_earlier}
use Rattle.wheel_types.proofs.BothWays.{EventsInTime, order_once, in_time, events_in_time, group_in_time, speed_if, ratio_if}
use Rattle.wheel_types.proofs.Shifted.{shifted, cycle_at, to_place, turned, stands-later, steps-later}
use Rattle.wheel_types.proofs.RisingTimes.{RisesTo}
use Rattle.wheel_types.proofs.StartsAndEnds.{gives_to, gone_on-shifted}
use Rattle.wheel_types.proofs.FirstOrders.{first_order, first_order_once}
use Rattle.wheel_types.proofs.LeastAngles.{least_angle, LeastWalk, least_walk, events_passed-append, crank_passes-append}

-- ---- it gives the instants

groups_given : (w : WheelParts) (ix : Indices) (vs : List Move) (past : List Instant) → InFirstOrders w ix vs past → Groups (events_passed w ix vs) past
groups_given w ix vs [] g = ap (events_passed w ix) g
groups_given w ix vs (i ∷ past) g = (events_passed w (indices_after ix g.1) g.0, events_passed w ix g.1, ap (events_passed w ix) g.2 ∙ events_passed-append w ix g.0 g.1, g.3.is_order, groups_given w ix g.1 past g.4)

pub named_gives : (w : WheelParts) (past : List Instant) (from : Place) (e : Motion) → IsNamedMotion w past from e → Gives w e past
named_gives w past from e n = groups_given w e.start e.moves past n.groups

-- ---- there is one

-- a permitted motion that gives the instants, in the first orders and at the least angles
pub record NamedFrom (w : WheelParts) (ix : Indices) (past : List Instant) : Type 0 where
  pub angle : ℤ
  pub moves : List Move
  pub least : IsLeastAngle w ix angle
  pub permitted : IsPermitted w (motion_of angle ix moves)
  pub groups : InFirstOrders w ix moves past
  pub angles : AtLeastAngles w ix moves
  pub last : IsLeastAngle w (indices_after ix moves) (angle_after angle moves)

named_on : (w : WheelParts) (ix : Indices) (i : Instant) (past : List Instant) (n : NamedFrom w ix past) (to : Indices) (order : List Event) → IsFirstOrder w (indices_after ix n.moves) i order → AllEarlier i.time past → Steps w past (indices_after ix n.moves) i to → (end : Indices) → LeastWalk w n.angle ix n.moves order end → NamedFrom w ix (i ∷ past)
named_on w ix i past n to order first early step end made =
    let here = indices_after ix n.moves in
    let all = made.group ++ n.moves in
    let rest = events_passed w ix n.moves in
    let gave : Groups rest past = groups_given w ix n.moves past n.groups in
    let passes : events_passed w ix all ≡ order ++ rest = events_passed-append w ix made.group n.moves ∙ ap (λ (es : List Event). es ++ rest) made.passes in
    let fits : EventsInTime (order ++ rest) = group_in_time i.time order rest (order_once i order first.is_order) (events_earlier i.time rest past early gave) (events_in_time w ix n.moves n.permitted.motion.times) in
    let crank : crank_passes ix all ≡ pass_at i.crank (record { time = i.time; edge = here.crank }) (crank_passes ix n.moves) =
    crank_passes-append w ix made.group n.moves ∙ ap (λ es. passes_by here es (crank_passes ix n.moves)) made.passes ∙ passes_by-order i here (crank_passes ix n.moves) order first.is_order in
    let before = passes-numbered w n.angle ix past n.moves n.permitted gave in
    record {
      angle = n.angle;
      moves = all;
      least = n.least;
      permitted = record {
        motion = record { standing = n.permitted.motion.standing; moves = made.can; times = in_time w ix all (subst EventsInTime (sym passes) fits) };
        speed = speed_if w i.crank here.crank i.time (crank_times past) _ _ crank before step.gaps n.permitted.speed;
        ratio = ratio_if w i.crank here.crank i.time (crank_times past) _ _ crank before step.gaps n.permitted.ratio;
      };
      groups = (made.group, n.moves, refl, subst (IsFirstOrder w here i) (sym made.passes) first, n.groups);
      angles = made.angles;
      last = subst (λ k. IsLeastAngle w k (angle_after n.angle all)) made.ends made.last;
    }

named_more : (w : WheelParts) (ix : Indices) (i : Instant) (past : List Instant) (n : NamedFrom w ix past) (to : Indices) → 0 < edge_count w Crank → AllEarlier i.time past → Steps w past (indices_after ix n.moves) i to → NamedFrom w ix (i ∷ past)
named_more w ix i past n to some early step =
    let first = first_order w (indices_after ix n.moves) i step.order step.is_order (to, step.walks) in
    named_on w ix i past n to first.0 first.1 early step first.1.works.0 (least_walk w n.angle ix n.moves first.0 first.1.works.0 some n.permitted.motion.moves n.last n.angles first.1.works.1)

named_none : (w : WheelParts) (ix : Indices) (y : (x : ℤ) × IsLeastAngle w ix x) → NamedFrom w ix []
named_none w ix y = record {
  angle = y.0;
  moves = [];
  least = y.1;
  permitted = record { motion = record { standing = y.1.stands; moves = tt; times = tt }; speed = tt; ratio = tt };
  groups = refl;
  angles = tt;
  last = y.1;
}

-- from a permitted motion, whole cycles later
named_of : (w : WheelParts) (k x : ℤ) (ix : Indices) (past : List Instant) (vs : List Move) → 0 < edge_count w Crank → IsPermitted w (motion_of x ix vs) → Groups (events_passed w ix vs) past → RisesTo past → NamedFrom w (shifted w k ix) past
named_of w k x ix [] vs some h g r = named_none w (shifted w k ix) (least_angle w (shifted w k ix) (turned w k x, stands-later w k x ix some h.motion.standing))
named_of w k x ix (i ∷ past) vs some h g r =
    let s = stepped w x ix i past vs h g in
    let n = named_of w k x ix past s.moves some s.permitted s.gave r.1 in
    let start = shifted w k ix in
    let there : shifted w k (indices_after ix s.moves) ≡ indices_after start n.moves =
    ap (shifted w k) (gives_to w (motion_of x ix s.moves) past s.gave) ∙ sym (gone_on-shifted w k past ix) ∙ sym (gives_to w (motion_of n.angle start n.moves) past (groups_given w start n.moves past n.groups)) in
    let step : Steps w past (indices_after start n.moves) i (shifted w k (indices_after ix vs)) = subst (λ from. Steps w past from i (shifted w k (indices_after ix vs))) there (steps-later w k past (indices_after ix s.moves) i (indices_after ix vs) some s.step) in
    named_more w start i past n (shifted w k (indices_after ix vs)) some r.0 step

-- the motion that a start place names, which is permitted
pub record HasNamedMotion (w : WheelParts) (past : List Instant) (from : Place) : Type 0 where
  pub motion : Motion
  pub named : IsNamedMotion w past from motion
  pub permitted : IsPermitted w motion

pub named_motion : (w : WheelParts) (past : List Instant) (from to : Place) → 0 < edge_count w Crank → RisesTo past → Leads w past from to → HasNamedMotion w past from
named_motion w past from to some r l =
    let m = l.motion in
    let k = neg_ℤ (cycle_at w m.start) in
    let n = named_of w k m.angle m.start past m.moves some l.permitted l.gives r in
    record {
      motion = motion_of n.angle (shifted w k m.start) n.moves;
      named = record { start = to_place w m.start some ∙ ap indices_of l.starts; angle = n.least; groups = n.groups; angles = n.angles };
      permitted = n.permitted;
    }

-- ---- there is no second

least_angle_once : (w : WheelParts) (ix jx : Indices) (x y : ℤ) → ix ≡ jx → IsLeastAngle w ix x → IsLeastAngle w jx y → x ≡ y
least_angle_once w ix jx x y e h k =
    let there : IsLeastAngle w jx x = subst (λ z. IsLeastAngle w z x) e h in
    let le : x ≤ℤ y = there.least y k.stands in
    let ge : y ≤ℤ x = k.least x there.stands in
    omega (arith, ints, le, ge)

moves_alike : (t u : ℤ) (c d : Channel) (x y : ℤ) (vs us : List Move) → t ≡ u → c ≡ d → x ≡ y → vs ≡ us → ◌≡◌ {A = List Move} (record { time = t; channel = c; angle = x } ∷ vs) (record { time = u; channel = d; angle = y } ∷ us)
moves_alike t u c d x y vs us e f g h = rw (e, f, g, h)

none_is_some : (e : Event) (es : List Event) → [] ≡ e ∷ es → ⊥
none_is_some e es h = absurd (cc)

parted : (e f : Event) (es fs : List Event) → e ∷ es ≡ f ∷ fs → (e ≡ f) × (es ≡ fs)
parted e f es fs h = (cc, cc)

-- the same edges at least angles are the same moves
moves_once : (w : WheelParts) (ix from : Indices) (g h vs us : List Move) → vs ≡ us → events_passed w from g ≡ events_passed w from h → AtLeastAngles w ix (g ++ vs) → AtLeastAngles w ix (h ++ us) → g ++ vs ≡ h ++ us
moves_once w ix from [] [] vs us e f a b = e
moves_once w ix from [] (u ∷ h) vs us e f a b = absurd (none_is_some _ _ f)
moves_once w ix from (v ∷ g) [] vs us e f a b = absurd (none_is_some _ _ (sym f))
moves_once w ix from (v ∷ g) (u ∷ h) vs us e f a b =
    let parts = parted _ _ (events_passed w from g) (events_passed w from h) f in
    let when : v.time ≡ u.time = ap (λ (k : Event). k.time) parts.0 in
    let which : v.channel ≡ u.channel = ap (λ (k : Event). k.channel) parts.0 in
    let rest : events_passed w from g ≡ events_passed w from h = parts.1 in
    let before : g ++ vs ≡ h ++ us = moves_once w ix from g h vs us e rest a.1 b.1 in
    let there : passed v.channel (indices_after ix (g ++ vs)) ≡ passed u.channel (indices_after ix (h ++ us)) = ap (λ c. passed c (indices_after ix (g ++ vs))) which ∙ ap (λ (k : List Move). passed u.channel (indices_after ix k)) before in
    moves_alike v.time u.time v.channel u.channel v.angle u.angle (g ++ vs) (h ++ us) when which (least_angle_once w _ _ v.angle u.angle there a.0 b.0) before

angles_before : (w : WheelParts) (ix : Indices) (g vs : List Move) → AtLeastAngles w ix (g ++ vs) → AtLeastAngles w ix vs
angles_before w ix [] vs a = a
angles_before w ix (v ∷ g) vs a = angles_before w ix g vs a.1

groups_once : (w : WheelParts) (ix : Indices) (past : List Instant) (vs us : List Move) → InFirstOrders w ix vs past → InFirstOrders w ix us past → AtLeastAngles w ix vs → AtLeastAngles w ix us → vs ≡ us
groups_once w ix [] vs us g h a b = g ∙ sym h
groups_once w ix (i ∷ past) vs us g h a b =
    let first : AtLeastAngles w ix (g.0 ++ g.1) = subst (AtLeastAngles w ix) g.2 a in
    let other : AtLeastAngles w ix (h.0 ++ h.1) = subst (AtLeastAngles w ix) h.2 b in
    let before : g.1 ≡ h.1 = groups_once w ix past g.1 h.1 g.4 h.4 (angles_before w ix g.0 g.1 first) (angles_before w ix h.0 h.1 other) in
    let from = indices_after ix h.1 in
    let moved : IsFirstOrder w from i (events_passed w from g.0) = subst (λ (k : List Move). IsFirstOrder w (indices_after ix k) i (events_passed w (indices_after ix k) g.0)) before g.3 in
    let order : events_passed w from g.0 ≡ events_passed w from h.0 = first_order_once w from i (events_passed w from g.0) (events_passed w from h.0) moved h.3 in
    g.2 ∙ moves_once w ix from g.0 h.0 g.1 h.1 before order first other ∙ sym h.2

motions_alike : (x y : ℤ) (ix jx : Indices) (vs us : List Move) → x ≡ y → ix ≡ jx → vs ≡ us → motion_of x ix vs ≡ motion_of y jx us
motions_alike x y ix jx vs us e f g = rw (e, f, g)

-- a place names at most one motion
pub named_motion_once : (w : WheelParts) (past : List Instant) (from : Place) (e f : Motion) → IsNamedMotion w past from e → IsNamedMotion w past from f → e ≡ f
named_motion_once w past from e f n m =
    let start : e.start ≡ f.start = n.start ∙ sym m.start in
    let groups : InFirstOrders w f.start e.moves past = subst (λ ix. InFirstOrders w ix e.moves past) start n.groups in
    let angles : AtLeastAngles w f.start e.moves = subst (λ ix. AtLeastAngles w ix e.moves) start n.angles in
    motions_alike e.angle f.angle e.start f.start e.moves f.moves (least_angle_once w e.start f.start e.angle f.angle start n.angle m.angle) start (groups_once w f.start past e.moves f.moves groups m.groups angles m.angles)

-- the motion that the start place of a permitted motion names is permitted
pub named_is_permitted : (w : WheelParts) (past : List Instant) (from to : Place) (e : Motion) → 0 < edge_count w Crank → RisesTo past → Leads w past from to → IsNamedMotion w past from e → IsPermitted w e
named_is_permitted w past from to e some r l n =
    let found = named_motion w past from to some r l in
    subst (IsPermitted w) (named_motion_once w past from found.motion e found.named n) found.permitted
