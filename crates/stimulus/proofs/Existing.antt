-- Where each gap has a time, a stimulus is made, instant by instant.
use Rattle.std.proofs.Common.{◌≡◌, ℕ, zero, suc, ◌<◌, ◌⊎◌, inl, inr, List, [], ◌∷◌, ◌++◌, refl, sym, subst, arith, add-one}
use Rattle.std.proofs.Common.{ℤ, pos, ◌+ℤ◌, ◌-ℤ◌, ◌≤ℤ◌, ◌<ℤ◌}
use Rattle.std.proofs.lemmas.Int.{ints, by_lt_z}
use Rattle.std.specs.Prelude.{Option, Some, None, unsigned_abs}
use Rattle.wheel_types.specs.declared.channel.Pol.{Pol}
use Rattle.wheel_types.specs.declared.channel.Channel.{Channel}
use Rattle.wheel_types.specs.declared.channel.Channel.TheVariants.{Crank, Cam1, Cam2}
use Rattle.wheel_types.specs.declared.instant.Instant.{Instant}
use Rattle.wheel_types.specs.declared.parts.WheelParts.{WheelParts}
use Rattle.wheel_types.specs.Wheels.{IsWheel}
use Rattle.wheel_types.specs.Edges.{edge_count, pol_of}
use Rattle.stimulus.specs.Gaps.{crank_edge, crank_angle, crank_time}
use Rattle.stimulus.specs.Cams.{cam_edge, cam_angle, IsInGap}
use Rattle.stimulus.specs.Laws.{StimuliExist}
use Rattle.stimulus.proofs.CamAngles.{first_after_crank}
use Rattle.stimulus.proofs.CrankMoves.{AreTimed}
use Rattle.stimulus.specs.CamsOf.{Takes}
use Rattle.stimulus.proofs.Instants.{clock}
use Rattle.stimulus.proofs.Given.{Given, IsInstant, first_instant, crank_instant, cam1_instant, cam2_instant, clear_after, last_instant}

-- ---- instants

abbrev IsMade : ℤ → Option Pol → Option Pol → Option Pol → Type 0
IsMade t a b c = (i : Instant) × IsInstant i t a b c

crank_at : (t : ℤ) (p : Pol) (b c : Option Pol) → IsMade t (Some p) b c
crank_at t p b c =
    (record { time = t; crank = Some p; cam1 = b; cam2 = c; some_edge = refl }, record { time = refl; crank = refl; cam1 = refl; cam2 = refl })

cam1_at : (t : ℤ) (p : Pol) (c : Option Pol) → IsMade t None (Some p) c
cam1_at t p c =
    (record { time = t; crank = None; cam1 = Some p; cam2 = c; some_edge = refl }, record { time = refl; crank = refl; cam1 = refl; cam2 = refl })

cam2_at : (t : ℤ) (p : Pol) → IsMade t None None (Some p)
cam2_at t p =
    (record { time = t; crank = None; cam1 = None; cam2 = Some p; some_edge = refl }, record { time = refl; crank = refl; cam1 = refl; cam2 = refl })

-- ---- which edge is next

before : (a b : ℤ) → (a <ℤ b) ⊎ (b ≤ℤ a)
before a b = by_lt_z a b inl inr

some_or_none : (n : ℕ) → (0 < n) ⊎ (n ≡ 0)
some_or_none n = grind arith

absent : {P : Type 0} (n : ℕ) → n ≡ 0 → 0 < n → P
absent n e h = absurd (omega (arith, e, h))

-- the first of two angles comes before a third one, and not after the second
abbrev IsFirst : ℕ → ℕ → ℤ → ℤ → ℤ → Type 0
IsFirst n1 n2 a b y = (0 < n1) × (a <ℤ y) × (0 < n2 → a ≤ℤ b)

-- the second comes before the third and before the first
abbrev IsSecond : ℕ → ℕ → ℤ → ℤ → ℤ → Type 0
IsSecond n1 n2 a b y = (0 < n2) × (b <ℤ y) × (0 < n1 → b <ℤ a)

-- neither comes before the third
abbrev IsNeither : ℕ → ℕ → ℤ → ℤ → ℤ → Type 0
IsNeither n1 n2 a b y = (0 < n1 → y ≤ℤ a) × (0 < n2 → y ≤ℤ b)

down : (a b c : ℤ) → a <ℤ b → b <ℤ c → a <ℤ c
down a b c h k = omega (arith, ints)

short_of : (a b c : ℤ) → a <ℤ b → b ≤ℤ c → a <ℤ c
short_of a b c h k = omega (arith, ints)

choose : (n1 n2 : ℕ) (a b y : ℤ) → IsFirst n1 n2 a b y ⊎ (IsSecond n1 n2 a b y ⊎ IsNeither n1 n2 a b y)
choose n1 n2 a b y = by (some_or_none n1) (some_or_none n2) (before a y) (before b y) (before b a)
  where
    by : (0 < n1) ⊎ (n1 ≡ 0) → (0 < n2) ⊎ (n2 ≡ 0) → (a <ℤ y) ⊎ (y ≤ℤ a) → (b <ℤ y) ⊎ (y ≤ℤ b) → (b <ℤ a) ⊎ (a ≤ℤ b)
        → IsFirst n1 n2 a b y ⊎ (IsSecond n1 n2 a b y ⊎ IsNeither n1 n2 a b y)
    by (inl s) (inl t) (inl h) k (inl l) = inr (inl (t, down b a y l h, λ _. l))
    by (inl s) (inl t) (inl h) k (inr l) = inl (s, h, λ _. l)
    by (inl s) (inl t) (inr h) (inl k) l = inr (inl (t, k, λ _. short_of b y a k h))
    by (inl s) (inl t) (inr h) (inr k) l = inr (inr (λ _. h, λ _. k))
    by (inl s) (inr e) (inl h) k l = inl (s, h, absent n2 e)
    by (inl s) (inr e) (inr h) k l = inr (inr (λ _. h, absent n2 e))
    by (inr d) (inl t) h (inl k) l = inr (inl (t, k, absent n1 d))
    by (inr d) (inl t) h (inr k) l = inr (inr (absent n1 d, λ _. k))
    by (inr d) (inr e) h k l = inr (inr (absent n1 d, absent n2 e))

-- the edge of a cam at an angle, if its next edge is there
record Taken (w : WheelParts) (c : Channel) (seed k : ℕ) (y : ℤ) : Type 0 where
  edge : Option Pol
  next : ℕ
  takes : Takes w c seed k y edge next
  clear : 0 < edge_count w c → y <ℤ cam_angle w c seed next

taken : (w : WheelParts) (c : Channel) (seed k : ℕ) (y : ℤ) → IsWheel w → (0 < edge_count w c → y ≤ℤ cam_angle w c seed k) → Taken w c seed k y
taken w c seed k y wheel ahead = by (some_or_none (edge_count w c)) (before y (cam_angle w c seed k))
  where
    same : (a b : ℤ) → b ≤ℤ a → a ≤ℤ b → b ≡ a
    same a b h k = omega (arith, ints)

    by : (0 < edge_count w c) ⊎ (edge_count w c ≡ 0) → (y <ℤ cam_angle w c seed k) ⊎ (cam_angle w c seed k ≤ℤ y) → Taken w c seed k y
    by (inr e) h = record { edge = None; next = k; takes = refl; clear = absent (edge_count w c) e }
    by (inl s) (inl h) = record { edge = None; next = k; takes = refl; clear = λ _. h }
    by (inl s) (inr h) =
        let e : cam_angle w c seed k ≡ y = same y (cam_angle w c seed k) h (ahead s) in
        record {
          edge = Some (pol_of w c (cam_edge w c seed k));
          next = suc k;
          takes = (s, e, refl, refl);
          clear = λ _. subst (λ z. z <ℤ cam_angle w c seed (suc k)) e (clear_after w c seed k wheel s);
        }

-- ---- up to the next crank edge

-- the instants before crank edge m + 1 are made
record IsReached (w : WheelParts) (seed m : ℕ) : Type 0 where
  k1 : ℕ
  k2 : ℕ
  x : ℤ
  is : List Instant
  given : Given w seed m k1 k2 x is
  past1 : 0 < edge_count w Cam1 → crank_angle w seed (suc m) ≤ℤ cam_angle w Cam1 seed k1
  past2 : 0 < edge_count w Cam2 → crank_angle w seed (suc m) ≤ℤ cam_angle w Cam2 seed k2

-- an angle ahead in a gap and before the next crank edge is in the gap
in_gap : (w : WheelParts) (seed m : ℕ) (x z : ℤ) → IsInGap w seed m x → x <ℤ z → z <ℤ crank_angle w seed (suc m) → IsInGap w seed m z
in_gap w seed m x z g h k = record {
  from = from (crank_angle w seed m) x z g.from h;
  before = subst (λ n. z <ℤ crank_angle w seed n) (sym (add-one m)) k;
}
  where
    from : (a b c : ℤ) → a ≤ℤ b → b <ℤ c → a ≤ℤ c
    from a b c h k = omega (arith, ints)

no_room : (x y : ℤ) → x <ℤ y → y ≤ℤ (x +ℤ pos 0) → ⊥
no_room x y h k = absurd (omega (arith, ints, h, k))

less_room : (n : ℕ) (x y z : ℤ) → y ≤ℤ (x +ℤ pos (suc n)) → x <ℤ z → y ≤ℤ (z +ℤ pos n)
less_room n x y z h k = omega (arith, ints, h, k)

room : (x y : ℤ) → y ≤ℤ (x +ℤ pos (unsigned_abs (y -ℤ x)))
room x y = grind (arith, ints)

reach : (left : ℕ) (w : WheelParts) (seed m k1 k2 : ℕ) (x : ℤ) (is : List Instant) → IsWheel w → AreTimed w seed (suc m) → Given w seed m k1 k2 x is
    → crank_angle w seed (suc m) ≤ℤ (x +ℤ pos left) → IsReached w seed m
reach zero w seed m k1 k2 x is wheel timed g r =
    absurd (no_room x (crank_angle w seed (suc m)) (subst (λ n. x <ℤ crank_angle w seed n) (add-one m) g.gap.before) r)
reach (suc left) w seed m k1 k2 x is wheel timed g r =
    by (choose (edge_count w Cam1) (edge_count w Cam2) (cam_angle w Cam1 seed k1) (cam_angle w Cam2 seed k2) (crank_angle w seed (suc m))) (reach left w seed m)
  where
    Y : ℤ
    Y = crank_angle w seed (suc m)

    A : ℤ
    A = cam_angle w Cam1 seed k1

    B : ℤ
    B = cam_angle w Cam2 seed k2

    by : IsFirst (edge_count w Cam1) (edge_count w Cam2) A B Y ⊎ (IsSecond (edge_count w Cam1) (edge_count w Cam2) A B Y ⊎ IsNeither (edge_count w Cam1) (edge_count w Cam2) A B Y)
        → ((k1 k2 : ℕ) (x : ℤ) (is : List Instant) → IsWheel w → AreTimed w seed (suc m) → Given w seed m k1 k2 x is → Y ≤ℤ (x +ℤ pos left) → IsReached w seed m)
        → IsReached w seed m
    by (inl f) more =
        let gap = in_gap w seed m x A g.gap (g.clear1 f.0) f.1 in
        let t = taken w Cam2 seed k2 A wheel f.2 in
        let i = cam1_at (clock w seed m A) (pol_of w Cam1 (cam_edge w Cam1 seed k1)) t.edge in
        more (suc k1) t.next A (is ++ i.0 ∷ []) wheel timed
        (cam1_instant w seed m k1 k2 t.next x t.edge is i.0 wheel timed g f.0 gap t.takes (clear_after w Cam1 seed k1 wheel) t.clear i.1)
        (less_room left x Y A r (g.clear1 f.0))
    by (inr (inl s)) more =
        let gap = in_gap w seed m x B g.gap (g.clear2 s.0) s.1 in
        let i = cam2_at (clock w seed m B) (pol_of w Cam2 (cam_edge w Cam2 seed k2)) in
        more k1 (suc k2) B (is ++ i.0 ∷ []) wheel timed
        (cam2_instant w seed m k1 k2 x is i.0 wheel timed g s.0 gap s.2 (clear_after w Cam2 seed k2 wheel) i.1)
        (less_room left x Y B r (g.clear2 s.0))
    by (inr (inr n)) more = record { k1 = k1; k2 = k2; x = x; is = is; given = g; past1 = n.0; past2 = n.1 }

-- ---- crank edge by crank edge

-- the instants up to that of crank edge m are made
record IsMadeTo (w : WheelParts) (seed m : ℕ) : Type 0 where
  k1 : ℕ
  k2 : ℕ
  x : ℤ
  is : List Instant
  given : Given w seed m k1 k2 x is

on_to_next : (w : WheelParts) (seed m : ℕ) → IsWheel w → AreTimed w seed (suc m) → IsMadeTo w seed m → IsReached w seed m
on_to_next w seed m wheel timed g =
    reach (unsigned_abs (crank_angle w seed (suc m) -ℤ g.x)) w seed m g.k1 g.k2 g.x g.is wheel timed g.given (room g.x (crank_angle w seed (suc m)))

made_to : (m : ℕ) (w : WheelParts) (seed : ℕ) → IsWheel w → AreTimed w seed (suc m) → IsMadeTo w seed m
made_to zero w seed wheel timed =
    let y = crank_angle w seed 0 in
    let a = taken w Cam1 seed 0 y wheel (first_after_crank w Cam1 seed wheel) in
    let b = taken w Cam2 seed 0 y wheel (first_after_crank w Cam2 seed wheel) in
    let i = crank_at (clock w seed 0 y) (pol_of w Crank (crank_edge w seed 0)) a.edge b.edge in
    record {
      k1 = a.next;
      k2 = b.next;
      x = y;
      is = i.0 ∷ [];
      given = first_instant w seed a.next b.next a.edge b.edge i.0 wheel timed a.takes b.takes a.clear b.clear i.1;
    }
made_to (suc m) w seed wheel timed =
    let fewer : AreTimed w seed (suc m) = λ j h. timed j (omega (arith, h)) in
    let r = on_to_next w seed m wheel fewer (made_to m w seed wheel fewer) in
    let y = crank_angle w seed (suc m) in
    let a = taken w Cam1 seed r.k1 y wheel r.past1 in
    let b = taken w Cam2 seed r.k2 y wheel r.past2 in
    let i = crank_at (clock w seed (suc m) y) (pol_of w Crank (crank_edge w seed (suc m))) a.edge b.edge in
    record {
      k1 = a.next;
      k2 = b.next;
      x = y;
      is = r.is ++ i.0 ∷ [];
      given = crank_instant w seed m r.k1 r.k2 a.next b.next r.x a.edge b.edge r.is i.0 wheel timed r.given a.takes b.takes a.clear b.clear i.1;
    }

pub stimuli_exist : StimuliExist
stimuli_exist w seed zero wheel some timed = absurd (omega (arith, some))
stimuli_exist w seed (suc m) wheel some timed =
    let r = on_to_next w seed m wheel timed (made_to m w seed wheel timed) in
    let i = crank_at (pos (crank_time w seed (suc m))) (pol_of w Crank (crank_edge w seed (suc m))) None None in
    (r.is ++ i.0 ∷ [], last_instant w seed m r.k1 r.k2 r.x r.is i.0 wheel timed r.given r.past1 r.past2 i.1)
