-- What an instant adds to a stimulus that is being made.
use Rattle.std.proofs.Common.{◌≡◌, ℕ, suc, ◌+◌, ◌*◌, ◌<◌, ◌≤◌, ◌⊎◌, inl, inr, ◌^◌, List, [], ◌∷◌, ◌++◌, ℤ, pos, ◌≤ℤ◌, ◌<ℤ◌, to_z, refl, sym, ◌∙◌, ap, subst, arith, add-one}
use Rattle.std.proofs.lemmas.Int.{ints}
use Rattle.std.specs.Prelude.{Option, Some, None, IfSome, IsSome, IsTrue, is_some, ◌||◌}
use mir.Syntax.{w128}
use Rattle.wheel_types.specs.declared.channel.Pol.{Pol}
use Rattle.wheel_types.specs.declared.channel.Channel.{Channel}
use Rattle.wheel_types.specs.declared.channel.Channel.TheVariants.{Crank, Cam1, Cam2}
use Rattle.wheel_types.specs.declared.instant.Instant.{Instant}
use Rattle.wheel_types.specs.declared.parts.WheelParts.{WheelParts}
use Rattle.wheel_types.specs.Wheels.{IsWheel}
use Rattle.wheel_types.specs.Edges.{edge_count, pol_of}
use Rattle.stimulus.specs.declared.cam.Cam.{Cam}
use Rattle.stimulus.specs.declared.maker.Maker.{Maker}
use Rattle.stimulus.specs.declared.plan.Plan.{Plan}
use Rattle.stimulus.specs.Gaps.{crank_edge, crank_angle, crank_time, HasTimes}
use Rattle.stimulus.specs.Cams.{cam_angle, IsInGap}
use Rattle.stimulus.specs.CamsOf.{IsCam, Takes}
use Rattle.stimulus.specs.Cranks.{IsCrankEdge}
use Rattle.stimulus.specs.Drawn.{IsStimulus}
use Rattle.stimulus.specs.MadeTo.{IsMadeTo}
use Rattle.stimulus.specs.Making.{IsMade, ArePast, IsEarliest}
use Rattle.stimulus.specs.declared.crank.CrankEdge.{CrankEdge}
use Rattle.stimulus.proofs.Instants.{clock}
use Rattle.stimulus.proofs.MadeTo.{crank_clock, first_made, cams_made, crank_made, last_made}

some_or_none : (n : ℕ) → (0 < n) ⊎ (n ≡ 0)
some_or_none n = grind arith

same_some : (o : Option ℤ) (x y : ℤ) → o ≡ Some x → o ≡ Some y → x ≡ y
same_some o x y e f = cc

no_some : {P : Type 0} (o : Option ℤ) (x : ℤ) → o ≡ Some x → o ≡ None → P
no_some o x e f = cc

-- a cam passes an edge where its instant has one
pub grown : (w : WheelParts) (c : Channel) (seed k n : ℕ) (x : ℤ) (o : Option Pol) → Takes w c seed k x o n → k ≤ n
grown w c seed k n x None t = omega (arith, t)
grown w c seed k n x (Some p) t = omega (arith, t.3)

no_edge : IsSome {T = Pol} None → ⊥
no_edge h = cc

pub grown_once : (w : WheelParts) (c : Channel) (seed k n : ℕ) (x : ℤ) (o : Option Pol) → Takes w c seed k x o n → IsSome o → k < n
grown_once w c seed k n x None t h = absurd (no_edge h)
grown_once w c seed k n x (Some p) t h = omega (arith, t.3)

pub some_either : (b c : Option Pol) → IsSome b ⊎ IsSome c → IsTrue (is_some b || is_some c)
some_either (Some p) c h = refl
some_either None (Some q) h = refl
some_either None None (inl h) = absurd (no_edge h)
some_either None None (inr h) = absurd (no_edge h)

-- the time of a crank edge as it is kept
pub signed : (w : WheelParts) (seed : ℕ) (e : CrankEdge) → IsCrankEdge w seed e → to_z w128 e.time ≡ pos e.time
signed w seed e is = by e.time e.number is.few is.early
  where
    by : (t n : ℕ) → n ≤ 1000000 → t ≤ (n + 1) * 2 ^ 57 → to_z w128 t ≡ pos t
    by t n h k = omega (arith, ints, h, k)

-- its polarity
pol_at : (w : WheelParts) (seed : ℕ) (e : CrankEdge) → IsCrankEdge w seed e → pol_of w Crank (pos e.edge) ≡ pol_of w Crank (crank_edge w seed e.number)
pol_at w seed e is = ap (λ n. pol_of w Crank (pos n)) is.edge

-- ---- where the next edges of cams are

next_at : (w : WheelParts) (c : Channel) (seed : ℕ) (cam : Cam) (x y : ℤ) → IsCam w c seed cam → cam.next ≡ Some y → (0 < edge_count w c → x <ℤ cam_angle w c seed cam.passed) → x <ℤ y
next_at w c seed cam x y is at ahead = by (some_or_none (edge_count w c))
  where
    by : (0 < edge_count w c) ⊎ (edge_count w c ≡ 0) → x <ℤ y
    by (inl h) = subst (λ z. x <ℤ z) (same_some cam.next (cam_angle w c seed cam.passed) y (is.next h) at) (ahead h)
    by (inr e) = no_some cam.next y at (is.absent e)

past : (w : WheelParts) (c : Channel) (seed : ℕ) (cam : Cam) (y : ℤ) → IsCam w c seed cam → IfSome cam.next (λ x. y ≤ℤ x) → 0 < edge_count w c → y ≤ℤ cam_angle w c seed cam.passed
past w c seed cam y is h some = subst (λ o. IfSome o (λ x. y ≤ℤ x)) (is.next some) h

-- the angle of the next crank edge
pub end_of : (w : WheelParts) (p : Plan) (m : Maker) → IsMade w p m → m.to.angle ≡ crank_angle w p.seed (suc m.from.number)
end_of w p m made = made.to.angle ∙ ap (crank_angle w p.seed) made.next

pub timed_of : (w : WheelParts) (p : Plan) (m : Maker) → IsMade w p m → HasTimes w p.seed (suc m.from.number)
timed_of w p m made = subst (HasTimes w p.seed) made.next made.to.timed

further : (w : WheelParts) (p : Plan) (m : Maker) (y : ℤ) → (made : IsMade w p m) → IsEarliest m y → made.angle <ℤ y
further w p m y made early = by early.one
  where
    by : (m.cam1.next ≡ Some y) ⊎ (m.cam2.next ≡ Some y) → made.angle <ℤ y
    by (inl e) = next_at w Cam1 p.seed m.cam1 made.angle y made.cam1 e made.given.cam1.ahead
    by (inr e) = next_at w Cam2 p.seed m.cam2 made.angle y made.cam2 e made.given.cam2.ahead

on : (a b c : ℤ) → a ≤ℤ b → b <ℤ c → a ≤ℤ c
on a b c h k = omega (arith, ints)

pub in_gap : (w : WheelParts) (p : Plan) (m : Maker) (y : ℤ) → IsMade w p m → IsEarliest m y → IsInGap w p.seed m.from.number y
in_gap w p m y made early = record {
  from = on (crank_angle w p.seed m.from.number) made.angle y made.given.gap.from (further w p m y made early);
  before = subst (λ z. y <ℤ z) (end_of w p m made ∙ ap (crank_angle w p.seed) (sym (add-one m.from.number))) early.before;
}

-- the cams' next edges are not before the next crank edge
pub past1 : (w : WheelParts) (p : Plan) (m : Maker) → IsMade w p m → ArePast m → 0 < edge_count w Cam1 → crank_angle w p.seed (suc m.from.number) ≤ℤ cam_angle w Cam1 p.seed m.cam1.passed
past1 w p m made h some = subst (λ z. z ≤ℤ cam_angle w Cam1 p.seed m.cam1.passed) (end_of w p m made) (past w Cam1 p.seed m.cam1 m.to.angle made.cam1 h.0 some)

pub past2 : (w : WheelParts) (p : Plan) (m : Maker) → IsMade w p m → ArePast m → 0 < edge_count w Cam2 → crank_angle w p.seed (suc m.from.number) ≤ℤ cam_angle w Cam2 p.seed m.cam2.passed
past2 w p m made h some = subst (λ z. z ≤ℤ cam_angle w Cam2 p.seed m.cam2.passed) (end_of w p m made) (past w Cam2 p.seed m.cam2 m.to.angle made.cam2 h.1 some)

-- ---- the instants

pub cams_step : (w : WheelParts) (p : Plan) (m : Maker) (n1 n2 : ℕ) (y : ℤ) (b c : Option Pol) (js : List Instant) (i : Instant) → IsWheel w → IsMade w p m → IsEarliest m y
    → js ≡ m.instants.items ++ i ∷ [] → i.time ≡ clock w p.seed m.from.number y → i.crank ≡ None → i.cam1 ≡ b → i.cam2 ≡ c
    → Takes w Cam1 p.seed m.cam1.passed y b n1 → Takes w Cam2 p.seed m.cam2.passed y c n2
    → (0 < edge_count w Cam1 → y <ℤ cam_angle w Cam1 p.seed n1) → (0 < edge_count w Cam2 → y <ℤ cam_angle w Cam2 p.seed n2)
    → IsMadeTo w p.seed m.from.number n1 n2 y js
cams_step w p m n1 n2 y b c js i wheel made early items time crank first second one two clear1 clear2 =
    subst (IsMadeTo w p.seed m.from.number n1 n2 y) (sym items)
    (cams_made w p.seed m.from.number m.cam1.passed m.cam2.passed n1 n2 made.angle y b c m.instants.items i wheel (timed_of w p m made) made.given (in_gap w p m y made early)
    (further w p m y made early) one two clear1 clear2 (record { time = time; crank = crank; cam1 = first; cam2 = second }))

pub crank_step : (w : WheelParts) (p : Plan) (m : Maker) (n1 n2 : ℕ) (y : ℤ) (b c : Option Pol) (js : List Instant) (i : Instant) → IsWheel w → IsMade w p m → y ≡ m.to.angle
    → js ≡ m.instants.items ++ i ∷ [] → i.time ≡ pos m.to.time → i.crank ≡ Some (pol_of w Crank (pos m.to.edge)) → i.cam1 ≡ b → i.cam2 ≡ c
    → Takes w Cam1 p.seed m.cam1.passed y b n1 → Takes w Cam2 p.seed m.cam2.passed y c n2
    → (0 < edge_count w Cam1 → y <ℤ cam_angle w Cam1 p.seed n1) → (0 < edge_count w Cam2 → y <ℤ cam_angle w Cam2 p.seed n2)
    → IsMadeTo w p.seed m.to.number n1 n2 (crank_angle w p.seed m.to.number) js
crank_step w p m n1 n2 y b c js i wheel made at items time crank first second one two clear1 clear2 =
    let k = suc m.from.number in
    let e : y ≡ crank_angle w p.seed k = at ∙ end_of w p m made in
    subst (λ n. IsMadeTo w p.seed n n1 n2 (crank_angle w p.seed n) js) (sym made.next)
    (subst (IsMadeTo w p.seed k n1 n2 (crank_angle w p.seed k)) (sym items)
    (crank_made w p.seed m.from.number m.cam1.passed m.cam2.passed n1 n2 made.angle b c m.instants.items i wheel (timed_of w p m made) made.given
    (subst (λ z. Takes w Cam1 p.seed m.cam1.passed z b n1) e one) (subst (λ z. Takes w Cam2 p.seed m.cam2.passed z c n2) e two)
    (subst (λ z. 0 < edge_count w Cam1 → z <ℤ cam_angle w Cam1 p.seed n1) e clear1) (subst (λ z. 0 < edge_count w Cam2 → z <ℤ cam_angle w Cam2 p.seed n2) e clear2)
    (record {
      time = time ∙ ap pos made.to.time ∙ ap (λ n. pos (crank_time w p.seed n)) made.next ∙ crank_clock w p.seed k;
      crank = crank ∙ ap Some (pol_at w p.seed m.to made.to ∙ ap (λ n. pol_of w Crank (crank_edge w p.seed n)) made.next);
      cam1 = first;
      cam2 = second;
    })))

pub last_step : (w : WheelParts) (p : Plan) (m : Maker) (js : List Instant) (i : Instant) → IsWheel w → IsMade w p m → ArePast m → suc m.from.number ≡ p.gaps
    → js ≡ m.instants.items ++ i ∷ [] → i.time ≡ pos m.to.time → i.crank ≡ Some (pol_of w Crank (pos m.to.edge)) → i.cam1 ≡ None → i.cam2 ≡ None
    → IsStimulus w p.seed p.gaps js
last_step w p m js i wheel made h last items time crank first second =
    let k = suc m.from.number in
    subst (λ n. IsStimulus w p.seed n js) last
    (subst (IsStimulus w p.seed k) (sym items)
    (last_made w p.seed m.from.number m.cam1.passed m.cam2.passed made.angle m.instants.items i wheel (timed_of w p m made) made.given (past1 w p m made h) (past2 w p m made h)
    (record {
      time = time ∙ ap pos made.to.time ∙ ap (λ n. pos (crank_time w p.seed n)) made.next;
      crank = crank ∙ ap Some (pol_at w p.seed m.to made.to ∙ ap (λ n. pol_of w Crank (crank_edge w p.seed n)) made.next);
      cam1 = first;
      cam2 = second;
    })))

pub first_step : (w : WheelParts) (seed n1 n2 : ℕ) (y : ℤ) (e : CrankEdge) (b c : Option Pol) (js ks : List Instant) (i : Instant) → IsWheel w → IsCrankEdge w seed e → e.number ≡ 0 → y ≡ e.angle
    → js ≡ ks ++ i ∷ [] → ks ≡ [] → i.time ≡ pos e.time → i.crank ≡ Some (pol_of w Crank (pos e.edge)) → i.cam1 ≡ b → i.cam2 ≡ c
    → Takes w Cam1 seed 0 y b n1 → Takes w Cam2 seed 0 y c n2
    → (0 < edge_count w Cam1 → y <ℤ cam_angle w Cam1 seed n1) → (0 < edge_count w Cam2 → y <ℤ cam_angle w Cam2 seed n2)
    → IsMadeTo w seed e.number n1 n2 (crank_angle w seed e.number) js
first_step w seed n1 n2 y e b c js ks i wheel is none at items empty time crank first second one two clear1 clear2 =
    let q : y ≡ crank_angle w seed 0 = at ∙ is.angle ∙ ap (crank_angle w seed) none in
    subst (λ n. IsMadeTo w seed n n1 n2 (crank_angle w seed n) js) (sym none)
    (subst (IsMadeTo w seed 0 n1 n2 (crank_angle w seed 0)) (sym (items ∙ ap (λ l. l ++ i ∷ []) empty))
    (first_made w seed n1 n2 b c i wheel
    (subst (λ z. Takes w Cam1 seed 0 z b n1) q one) (subst (λ z. Takes w Cam2 seed 0 z c n2) q two)
    (subst (λ z. 0 < edge_count w Cam1 → z <ℤ cam_angle w Cam1 seed n1) q clear1) (subst (λ z. 0 < edge_count w Cam2 → z <ℤ cam_angle w Cam2 seed n2) q clear2)
    (record {
      time = time ∙ ap pos is.time ∙ ap (λ n. pos (crank_time w seed n)) none ∙ crank_clock w seed 0;
      crank = crank ∙ ap Some (pol_at w seed e is ∙ ap (λ n. pol_of w Crank (crank_edge w seed n)) none);
      cam1 = first;
      cam2 = second;
    })))
