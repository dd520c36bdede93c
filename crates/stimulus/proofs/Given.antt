-- A stimulus as it is made: instants in order, and the drawn motion that gives them.
use Rattle.std.proofs.Common.{◌≡◌, ℕ, zero, suc, ◌+◌, ◌<◌, ◌≤◌, ◌⊎◌, inl, inr, ◌↔◌, List, [], ◌∷◌, ◌++◌, length, get_or, length-append, ℤ, pos, ◌+ℤ◌, ◌≤ℤ◌, ◌<ℤ◌, refl, sym, ap, subst, arith, reverse}
use Rattle.std.proofs.lemmas.Int.{ints}
use Rattle.std.proofs.lemmas.Bool.{cases_lt}
use Rattle.std.proofs.lemmas.List.{get_or_append_left, reverse-append}
use Rattle.std.proofs.Math.Seq.{get_or-append_seam}
use Rattle.std.specs.Prelude.{Contains, Option, Some, None}
use Rattle.std.specs.List.{AllByRecursion}
use Rattle.wheel_types.specs.declared.channel.Pol.{Pol}
use Rattle.wheel_types.specs.declared.channel.Channel.{Channel}
use Rattle.wheel_types.specs.declared.channel.Channel.TheVariants.{Crank, Cam1, Cam2}
use Rattle.wheel_types.specs.declared.instant.Instant.{Instant}
use Rattle.wheel_types.specs.declared.parts.WheelParts.{WheelParts}
use Rattle.wheel_types.specs.Wheels.{IsWheel}
use Rattle.wheel_types.specs.Edges.{edge_count, pol_of}
use Rattle.wheel_types.specs.Motions.{Indices, Move, Event, event_if, events_passed, Groups}
use Rattle.wheel_types.specs.Verdicts as verdicts
use Rattle.stimulus.specs.Gaps.{crank_edge, crank_angle, crank_time}
use Rattle.stimulus.specs.Cams.{cam_edge, cam_angle, IsInGap, time_in}
use Rattle.stimulus_files.specs.Changes.{Edge, edges_on}
use Rattle.stimulus.specs.Drawn.{start_of, crank_move, cam_move, IsMoveOn, IsCamEdge, IsDrawnEdge, IsStimulus}
use Rattle.stimulus.proofs.Times.{at_edge, edge_in_gap, times_rise, before_end, crank_angle_at}
use Rattle.stimulus.proofs.Moving.{Moved, HasMoved, AreBefore, contains_cases}
use Rattle.stimulus.proofs.CrankMoves.{AreTimed, z_refl, crank_moves}
use Rattle.stimulus.proofs.CamMoves.{cams_ascend}
use Rattle.stimulus.proofs.DrawnEdges.{pushed, join, across, none_more, crank_more, cam_more, gap_more, none_at_first}
use Rattle.stimulus.proofs.FirstCamMoves.{cam1_moves}
use Rattle.stimulus.proofs.SecondCamMoves.{cam2_moves}
use Rattle.stimulus.specs.CamsOf.{Takes}
use Rattle.stimulus.specs.MadeEdges.{CamHasEdge, HasEdge}
use Rattle.stimulus.proofs.Instants.{not_moved, motion_of, is_permitted, MovedOn, clock, cam1_if, cam2_if, group_of, one_group}

-- ---- rising instants

abbrev pub AllBefore : ℤ → List Instant → Type 0
AllBefore t is = AllByRecursion (λ (i : Instant). i.time <ℤ t) is

before-at : (t : ℤ) (is : List Instant) (k : ℕ) (d : Instant) → AllBefore t is → k < length is → (get_or is k d).time <ℤ t
before-at t [] k d b h = absurd (omega (arith, h))
before-at t (i ∷ is) zero d b h = b.0
before-at t (i ∷ is) (suc k) d b h = before-at t is k d b.1 (omega (arith, h))

pub rising-last : (is : List Instant) (i : Instant) → verdicts.IsRising is → AllBefore i.time is → verdicts.IsRising (is ++ i ∷ [])
rising-last is i r b k d h =
    let size : length (is ++ i ∷ []) ≡ length is + 1 = length-append is (i ∷ []) in
    let first : get_or (is ++ i ∷ []) k d ≡ get_or is k d = get_or_append_left is (i ∷ []) d k (omega (arith, h, size)) in
    by first (cases_lt (k + 1) (length is))
  where
    by : get_or (is ++ i ∷ []) k d ≡ get_or is k d → (k + 1 < length is) ⊎ (length is ≤ k + 1) → (get_or (is ++ i ∷ []) k d).time <ℤ (get_or (is ++ i ∷ []) (k + 1) d).time
    by first (inl inside) =
        let second : get_or (is ++ i ∷ []) (k + 1) d ≡ get_or is (k + 1) d = get_or_append_left is (i ∷ []) d (k + 1) inside in
        rw (first, second) (r k d inside)
    by first (inr end) =
        let size : length (is ++ i ∷ []) ≡ length is + 1 = length-append is (i ∷ []) in
        let here : length is ≡ k + 1 = omega (arith, h, size, end) in
        let second : get_or (is ++ i ∷ []) (k + 1) d ≡ i = subst (λ n. get_or (is ++ i ∷ []) n d ≡ i) here (get_or-append_seam is i [] d) in
        rw (first, second) (before-at i.time is k d b (omega (arith, here)))

pub before-push : (t : ℤ) (is : List Instant) (i : Instant) → AllBefore t is → i.time <ℤ t → AllBefore t (is ++ i ∷ [])
before-push t [] i b h = (h, tt)
before-push t (j ∷ is) i b h = (b.0, before-push t is i b.1 h)

-- ---- what is made so far

-- the instants are those of the drawn motion up to the angle x, after crank edge m, and no edge at x is left
pub record Given (w : WheelParts) (seed m k1 k2 : ℕ) (x : ℤ) (is : List Instant) : Type 0 where
  pub gap : IsInGap w seed m x
  pub moves : List Move
  pub moved : Moved w seed (suc m) k1 k2 x (clock w seed m x) moves
  pub gives : Groups (events_passed w (start_of w seed) moves) (reverse is)
  pub rise : verdicts.IsRising is
  pub last : (t : ℤ) → clock w seed m x <ℤ t → AllBefore t is
  pub clear1 : 0 < edge_count w Cam1 → x <ℤ cam_angle w Cam1 seed k1
  pub clear2 : 0 < edge_count w Cam2 → x <ℤ cam_angle w Cam2 seed k2
  pub edges : (c : Channel) (e : Edge) → Contains (edges_on c is) e ↔ HasEdge c w seed (suc m) k1 k2 e

through : (a b c : ℤ) → a <ℤ b → b <ℤ c → a <ℤ c
through a b c h k = omega (arith, ints)

before-later : (t u : ℤ) (is : List Instant) → t <ℤ u → AllBefore t is → AllBefore u is
before-later t u [] h b = tt
before-later t u (i ∷ is) h b = (through i.time t u b.0 h, before-later t u is h b.1)

-- ---- the instant of a crank edge, with the cams' edges at its angle

-- what the instant is
pub record IsInstant (i : Instant) (t : ℤ) (a b c : Option Pol) : Type 0 where
  pub time : i.time ≡ t
  pub crank : i.crank ≡ a
  pub cam1 : i.cam1 ≡ b
  pub cam2 : i.cam2 ≡ c

-- the edges, with those of the instant of crank edge i
pub crank_edges : (d : Channel) (w : WheelParts) (seed i k1 k2 n1 n2 : ℕ) (b c : Option Pol) (is : List Instant) (j : Instant) (e : Edge) → IsWheel w
    → Takes w Cam1 seed k1 (crank_angle w seed i) b n1 → Takes w Cam2 seed k2 (crank_angle w seed i) c n2
    → IsInstant j (clock w seed i (crank_angle w seed i)) (Some (pol_of w Crank (crank_edge w seed i))) b c
    → AreBefore w Cam1 seed i k1 → AreBefore w Cam2 seed i k2 → (Contains (edges_on d is) e ↔ HasEdge d w seed i k1 k2 e)
    → Contains (edges_on d (is ++ j ∷ [])) e ↔ HasEdge d w seed (suc i) n1 n2 e
crank_edges Crank w seed i k1 k2 n1 n2 b c is j e wheel one two k before1 before2 had =
    let t = clock w seed i (crank_angle w seed i) in
    join (pushed Crank is j t (Some (pol_of w Crank (crank_edge w seed i))) e k.time k.crank) had (crank_more w seed i t e (ap pos (at_edge w seed i)))
crank_edges Cam1 w seed i k1 k2 n1 n2 b c is j e wheel one two k before1 before2 had =
    let x = crank_angle w seed i in
    join (pushed Cam1 is j (clock w seed i x) b e k.time k.cam1) (across had (gap_more w Cam1 seed i k1 e before1))
    (cam_more w Cam1 seed i k1 x b n1 e wheel (edge_in_gap w seed i wheel) one)
crank_edges Cam2 w seed i k1 k2 n1 n2 b c is j e wheel one two k before1 before2 had =
    let x = crank_angle w seed i in
    join (pushed Cam2 is j (clock w seed i x) c e k.time k.cam2) (across had (gap_more w Cam2 seed i k2 e before2))
    (cam_more w Cam2 seed i k2 x c n2 e wheel (edge_in_gap w seed i wheel) two)

-- and with those of an instant between two crank edges
pub cam_edges : (d : Channel) (w : WheelParts) (seed m k1 k2 n1 n2 : ℕ) (x : ℤ) (b c : Option Pol) (is : List Instant) (j : Instant) (e : Edge) → IsWheel w
    → IsInGap w seed m x → Takes w Cam1 seed k1 x b n1 → Takes w Cam2 seed k2 x c n2 → IsInstant j (clock w seed m x) None b c
    → (Contains (edges_on d is) e ↔ HasEdge d w seed (suc m) k1 k2 e) → Contains (edges_on d (is ++ j ∷ [])) e ↔ HasEdge d w seed (suc m) n1 n2 e
cam_edges Crank w seed m k1 k2 n1 n2 x b c is j e wheel gap one two k had =
    join (pushed Crank is j (clock w seed m x) None e k.time k.crank) had none_more
cam_edges Cam1 w seed m k1 k2 n1 n2 x b c is j e wheel gap one two k had =
    join (pushed Cam1 is j (clock w seed m x) b e k.time k.cam1) had (cam_more w Cam1 seed m k1 x b n1 e wheel gap one)
cam_edges Cam2 w seed m k1 k2 n1 n2 x b c is j e wheel gap one two k had =
    join (pushed Cam2 is j (clock w seed m x) c e k.time k.cam2) had (cam_more w Cam2 seed m k2 x c n2 e wheel gap two)

-- moves up to the crank edge i
with_crank : (w : WheelParts) (seed i k1 k2 : ℕ) (x t : ℤ) (vs : List Move) → IsWheel w → AreTimed w seed i → Moved w seed i k1 k2 x t vs
    → (0 < edge_count w Cam1 → crank_angle w seed i ≤ℤ cam_angle w Cam1 seed k1) → (0 < edge_count w Cam2 → crank_angle w seed i ≤ℤ cam_angle w Cam2 seed k2) → t ≤ℤ pos (crank_time w seed i)
    → MovedOn w seed (suc i) k1 k2 (crank_angle w seed i) (clock w seed i (crank_angle w seed i)) (event_if (clock w seed i (crank_angle w seed i)) Crank (Some (pol_of w Crank (crank_edge w seed i))) (events_passed w (start_of w seed) vs))
with_crank w seed i k1 k2 x t vs wheel timed m one two later =
    let e : pos (crank_time w seed i) ≡ clock w seed i (crank_angle w seed i) = ap pos (sym (at_edge w seed i)) in
    subst (λ u. MovedOn w seed (suc i) k1 k2 (crank_angle w seed i) u (event_if u Crank (Some (pol_of w Crank (crank_edge w seed i))) (events_passed w (start_of w seed) vs))) e
    (record {
      moves = crank_move w seed i ∷ vs;
      moved = crank_moves w seed i k1 k2 x t vs wheel timed m one two later;
      passed = same_event (pos (crank_time w seed i)) _ _ (events_passed w (start_of w seed) vs) (ap (λ (k : Indices). pol_of w Crank k.crank) m.next);
    })
  where
    same_event : (t : ℤ) (p q : Pol) (es : List Event) → p ≡ q → record { time = t; channel = Crank; polarity = p } ∷ es ≡ record { time = t; channel = Crank; polarity = q } ∷ es
    same_event t p q es e = rw e refl

take_ahead : (w : WheelParts) (c : Channel) (seed k : ℕ) (x : ℤ) (e : Option Pol) (next : ℕ) → Takes w c seed k x e next → (0 < edge_count w c → x <ℤ cam_angle w c seed next) → 0 < edge_count w c → x ≤ℤ cam_angle w c seed k
take_ahead w c seed k x None next t clear some = weak x (cam_angle w c seed next) (cam_angle w c seed k) (clear some) (ap (cam_angle w c seed) t)
  where
    weak : (a b c : ℤ) → a <ℤ b → b ≡ c → a ≤ℤ c
    weak a b c h e = omega (arith, ints, h, e)
take_ahead w c seed k x (Some p) next t clear some = same x (cam_angle w c seed k) t.1
  where
    same : (a b : ℤ) → b ≡ a → a ≤ℤ b
    same a b e = omega (arith, ints, e)

weak : (a b : ℤ) → a <ℤ b → a ≤ℤ b
weak a b h = omega (arith, ints)

-- the moves at the angle x, once the crank or the first cam is there, with those of the cams
cams_too : (w : WheelParts) (seed m k1 k2 : ℕ) (x : ℤ) (b c : Option Pol) (n1 n2 : ℕ) (events : List Event) → IsWheel w → AreTimed w seed (suc m) → IsInGap w seed m x
    → Takes w Cam1 seed k1 x b n1 → Takes w Cam2 seed k2 x c n2 → (0 < edge_count w Cam1 → x <ℤ cam_angle w Cam1 seed n1) → (0 < edge_count w Cam2 → x <ℤ cam_angle w Cam2 seed n2)
    → MovedOn w seed (suc m) k1 k2 x (clock w seed m x) events
    → MovedOn w seed (suc m) n1 n2 x (clock w seed m x) (event_if (clock w seed m x) Cam2 c (event_if (clock w seed m x) Cam1 b events))
cams_too w seed m k1 k2 x b c n1 n2 events wheel timed gap one two clear1 clear2 s =
    cam2_if w seed m n1 k2 x c n2 _ wheel timed gap two (λ some. weak x (cam_angle w Cam1 seed n1) (clear1 some))
    (cam1_if w seed m k1 k2 x b n1 events wheel timed gap one (take_ahead w Cam2 seed k2 x c n2 two clear2) s)

-- one more instant, of moves at the angle x
one_more : (w : WheelParts) (seed m k1 k2 : ℕ) (x : ℤ) (a b c : Option Pol) (es : List Event) (is : List Instant) (i : Instant) → IsInGap w seed m x
    → MovedOn w seed (suc m) k1 k2 x (clock w seed m x) (group_of (clock w seed m x) a b c es) → Groups es (reverse is) → verdicts.IsRising is → AllBefore (clock w seed m x) is
    → IsInstant i (clock w seed m x) a b c → (0 < edge_count w Cam1 → x <ℤ cam_angle w Cam1 seed k1) → (0 < edge_count w Cam2 → x <ℤ cam_angle w Cam2 seed k2)
    → ((d : Channel) (e : Edge) → Contains (edges_on d (is ++ i ∷ [])) e ↔ HasEdge d w seed (suc m) k1 k2 e)
    → Given w seed m k1 k2 x (is ++ i ∷ [])
one_more w seed m k1 k2 x a b c es is i gap s g r before k clear1 clear2 edges =
    let t = clock w seed m x in
    let turned : i ∷ reverse is ≡ reverse (is ++ i ∷ []) = sym (reverse-append is (i ∷ [])) in
    record {
      gap = gap;
      moves = s.moves;
      moved = s.moved;
      gives = subst (λ l. Groups (events_passed w (start_of w seed) s.moves) l) turned (subst (λ e. Groups e (i ∷ reverse is)) (sym s.passed) (one_group t a b c i es (reverse is) k.time k.crank k.cam1 k.cam2 g));
      rise = rising-last is i r (subst (λ u. AllBefore u is) (sym k.time) before);
      last = λ u h. before-push u is i (before-later t u is h before) (subst (λ v. v <ℤ u) (sym k.time) h);
      clear1 = clear1;
      clear2 = clear2;
      edges = edges;
    }

pub none_before : (w : WheelParts) (c : Channel) (seed : ℕ) → AreBefore w c seed 0 0
none_before w c seed n h = absurd (omega (arith, h))

-- the first instant, at the first crank edge
pub first_instant : (w : WheelParts) (seed n1 n2 : ℕ) (b c : Option Pol) (i : Instant) → IsWheel w → AreTimed w seed 1
    → Takes w Cam1 seed 0 (crank_angle w seed 0) b n1 → Takes w Cam2 seed 0 (crank_angle w seed 0) c n2
    → (0 < edge_count w Cam1 → crank_angle w seed 0 <ℤ cam_angle w Cam1 seed n1) → (0 < edge_count w Cam2 → crank_angle w seed 0 <ℤ cam_angle w Cam2 seed n2)
    → IsInstant i (clock w seed 0 (crank_angle w seed 0)) (Some (pol_of w Crank (crank_edge w seed 0))) b c
    → Given w seed 0 n1 n2 (crank_angle w seed 0) (i ∷ [])
first_instant w seed n1 n2 b c i wheel timed one two clear1 clear2 k =
    let x = crank_angle w seed 0 in
    let gap = edge_in_gap w seed 0 wheel in
    let m = with_crank w seed 0 0 0 x (pos (crank_time w seed 0)) [] wheel (λ j h. timed j (omega (arith, h))) (not_moved w seed wheel) (take_ahead w Cam1 seed 0 x b n1 one clear1) (take_ahead w Cam2 seed 0 x c n2 two clear2) (z_refl (pos (crank_time w seed 0))) in
    one_more w seed 0 n1 n2 x (Some (pol_of w Crank (crank_edge w seed 0))) b c [] [] i gap (cams_too w seed 0 0 0 x b c n1 n2 _ wheel timed gap one two clear1 clear2 m) refl (λ j d h. absurd (omega (arith, h))) tt k clear1 clear2
    (λ d e. crank_edges d w seed 0 0 0 n1 n2 b c [] i e wheel one two k (none_before w Cam1 seed) (none_before w Cam2 seed) (none_at_first d w seed e))

-- the instant of the crank edge after edge m
pub crank_instant : (w : WheelParts) (seed m k1 k2 n1 n2 : ℕ) (x : ℤ) (b c : Option Pol) (is : List Instant) (i : Instant) → IsWheel w → AreTimed w seed (suc (suc m)) → Given w seed m k1 k2 x is
    → Takes w Cam1 seed k1 (crank_angle w seed (suc m)) b n1 → Takes w Cam2 seed k2 (crank_angle w seed (suc m)) c n2
    → (0 < edge_count w Cam1 → crank_angle w seed (suc m) <ℤ cam_angle w Cam1 seed n1) → (0 < edge_count w Cam2 → crank_angle w seed (suc m) <ℤ cam_angle w Cam2 seed n2)
    → IsInstant i (clock w seed (suc m) (crank_angle w seed (suc m))) (Some (pol_of w Crank (crank_edge w seed (suc m)))) b c
    → Given w seed (suc m) n1 n2 (crank_angle w seed (suc m)) (is ++ i ∷ [])
crank_instant w seed m k1 k2 n1 n2 x b c is i wheel timed g one two clear1 clear2 k =
    let y = crank_angle w seed (suc m) in
    let gap = edge_in_gap w seed (suc m) wheel in
    let end : time_in w seed m x < crank_time w seed (suc m) = before_end w seed m x wheel (timed m (omega arith)) g.gap in
    let later : clock w seed m x <ℤ clock w seed (suc m) y = after (time_in w seed m x) (crank_time w seed (suc m)) (time_in w seed (suc m) y) end (at_edge w seed (suc m)) in
    let v = with_crank w seed (suc m) k1 k2 x (clock w seed m x) g.moves wheel (λ j h. timed j (omega (arith, h))) g.moved (take_ahead w Cam1 seed k1 y b n1 one clear1) (take_ahead w Cam2 seed k2 y c n2 two clear2) (in_time (time_in w seed m x) (crank_time w seed (suc m)) end) in
    one_more w seed (suc m) n1 n2 y (Some (pol_of w Crank (crank_edge w seed (suc m)))) b c (events_passed w (start_of w seed) g.moves) is i gap (cams_too w seed (suc m) k1 k2 y b c n1 n2 _ wheel timed gap one two clear1 clear2 v) g.gives g.rise (g.last _ later) k clear1 clear2
    (λ d e. crank_edges d w seed (suc m) k1 k2 n1 n2 b c is i e wheel one two k g.moved.cams1 g.moved.cams2 (g.edges d e))
  where
    after : (a b c : ℕ) → a < b → c ≡ b → pos a <ℤ pos c
    after a b c h e = omega (arith, ints, h, e)

    in_time : (a b : ℕ) → a < b → pos a ≤ℤ pos b
    in_time a b h = omega (arith, ints, h)

-- an instant of the first cam between two crank edges, with the second cam's edge at the same angle if there is one
pub cam1_instant : (w : WheelParts) (seed m k1 k2 n2 : ℕ) (x : ℤ) (c : Option Pol) (is : List Instant) (i : Instant) → IsWheel w → AreTimed w seed (suc m) → Given w seed m k1 k2 x is
    → 0 < edge_count w Cam1 → IsInGap w seed m (cam_angle w Cam1 seed k1) → Takes w Cam2 seed k2 (cam_angle w Cam1 seed k1) c n2
    → (0 < edge_count w Cam1 → cam_angle w Cam1 seed k1 <ℤ cam_angle w Cam1 seed (suc k1)) → (0 < edge_count w Cam2 → cam_angle w Cam1 seed k1 <ℤ cam_angle w Cam2 seed n2)
    → IsInstant i (clock w seed m (cam_angle w Cam1 seed k1)) None (Some (pol_of w Cam1 (cam_edge w Cam1 seed k1))) c
    → Given w seed m (suc k1) n2 (cam_angle w Cam1 seed k1) (is ++ i ∷ [])
cam1_instant w seed m k1 k2 n2 x c is i wheel timed g some gap two clear1 clear2 k =
    let y = cam_angle w Cam1 seed k1 in
    let t = clock w seed m y in
    let later : clock w seed m x <ℤ t = rises (time_in w seed m x) (time_in w seed m y) (times_rise w seed m m x y wheel (timed m (omega arith)) g.gap gap (g.clear1 some)) in
    let v = cam1_moves w seed m k1 k2 x (clock w seed m x) g.moves wheel timed g.moved some gap (take_ahead w Cam2 seed k2 y c n2 two clear2) (weak (clock w seed m x) t later) in
    let on : MovedOn w seed (suc m) (suc k1) k2 y t (event_if t Cam1 (Some (pol_of w Cam1 (cam_edge w Cam1 seed k1))) (events_passed w (start_of w seed) g.moves)) =
    record { moves = cam_move w Cam1 seed m k1 ∷ g.moves; moved = v; passed = same_event t _ _ (events_passed w (start_of w seed) g.moves) (ap (λ (j : Indices). pol_of w Cam1 j.cam1) g.moved.next) } in
    let all = cam2_if w seed m (suc k1) k2 y c n2 _ wheel timed gap two (λ s. weak y (cam_angle w Cam1 seed (suc k1)) (clear1 s)) on in
    one_more w seed m (suc k1) n2 y None (Some (pol_of w Cam1 (cam_edge w Cam1 seed k1))) c (events_passed w (start_of w seed) g.moves) is i gap all g.gives g.rise (g.last t later) k clear1 clear2
    (λ d e. cam_edges d w seed m k1 k2 (suc k1) n2 y (Some (pol_of w Cam1 (cam_edge w Cam1 seed k1))) c is i e wheel gap (some, refl, refl, refl) two k (g.edges d e))
  where
    rises : (a b : ℕ) → a < b → pos a <ℤ pos b
    rises a b h = omega (arith, ints, h)

    same_event : (t : ℤ) (p q : Pol) (es : List Event) → p ≡ q → record { time = t; channel = Cam1; polarity = p } ∷ es ≡ record { time = t; channel = Cam1; polarity = q } ∷ es
    same_event t p q es e = rw e refl

-- an instant of the second cam alone
pub cam2_instant : (w : WheelParts) (seed m k1 k2 : ℕ) (x : ℤ) (is : List Instant) (i : Instant) → IsWheel w → AreTimed w seed (suc m) → Given w seed m k1 k2 x is
    → 0 < edge_count w Cam2 → IsInGap w seed m (cam_angle w Cam2 seed k2) → (0 < edge_count w Cam1 → cam_angle w Cam2 seed k2 <ℤ cam_angle w Cam1 seed k1)
    → (0 < edge_count w Cam2 → cam_angle w Cam2 seed k2 <ℤ cam_angle w Cam2 seed (suc k2))
    → IsInstant i (clock w seed m (cam_angle w Cam2 seed k2)) None None (Some (pol_of w Cam2 (cam_edge w Cam2 seed k2)))
    → Given w seed m k1 (suc k2) (cam_angle w Cam2 seed k2) (is ++ i ∷ [])
cam2_instant w seed m k1 k2 x is i wheel timed g some gap clear1 clear2 k =
    let y = cam_angle w Cam2 seed k2 in
    let t = clock w seed m y in
    let later : clock w seed m x <ℤ t = rises (time_in w seed m x) (time_in w seed m y) (times_rise w seed m m x y wheel (timed m (omega arith)) g.gap gap (g.clear2 some)) in
    let v = cam2_moves w seed m k1 k2 x (clock w seed m x) g.moves wheel timed g.moved some gap (λ s. weak y (cam_angle w Cam1 seed k1) (clear1 s)) (weak (clock w seed m x) t later) in
    let on : MovedOn w seed (suc m) k1 (suc k2) y t (event_if t Cam2 (Some (pol_of w Cam2 (cam_edge w Cam2 seed k2))) (events_passed w (start_of w seed) g.moves)) =
    record { moves = cam_move w Cam2 seed m k2 ∷ g.moves; moved = v; passed = same_event t _ _ (events_passed w (start_of w seed) g.moves) (ap (λ (j : Indices). pol_of w Cam2 j.cam2) g.moved.next) } in
    one_more w seed m k1 (suc k2) y None None (Some (pol_of w Cam2 (cam_edge w Cam2 seed k2))) (events_passed w (start_of w seed) g.moves) is i gap on g.gives g.rise (g.last t later) k clear1 clear2
    (λ d e. cam_edges d w seed m k1 k2 k1 (suc k2) y None (Some (pol_of w Cam2 (cam_edge w Cam2 seed k2))) is i e wheel gap refl (some, refl, refl, refl) k (g.edges d e))
  where
    rises : (a b : ℕ) → a < b → pos a <ℤ pos b
    rises a b h = omega (arith, ints, h)

    same_event : (t : ℤ) (p q : Pol) (es : List Event) → p ≡ q → record { time = t; channel = Cam2; polarity = p } ∷ es ≡ record { time = t; channel = Cam2; polarity = q } ∷ es
    same_event t p q es e = rw e refl

-- a cam that has passed its edge is ahead
pub clear_after : (w : WheelParts) (c : Channel) (seed k : ℕ) → IsWheel w → 0 < edge_count w c → cam_angle w c seed k <ℤ cam_angle w c seed (suc k)
clear_after w c seed k wheel some = strictly (cam_angle w c seed k) (cam_angle w c seed (suc k)) (Rattle.stimulus.proofs.CamAngles.cam_later w c seed k wheel some)
  where
    strictly : (a b : ℤ) → (a +ℤ pos 1) ≤ℤ b → a <ℤ b
    strictly a b h = omega (arith, ints)

-- ---- the last crank edge

beyond : (a b c d : ℤ) → a ≤ℤ b → b ≤ℤ c → c <ℤ d → d ≤ℤ a → ⊥
beyond a b c d h k l n = absurd (omega (arith, ints, h, k, l, n))

-- an edge of a cam in one of the gaps was passed, where the next edge is past them
few : (w : WheelParts) (c : Channel) (seed m k i n : ℕ) → IsWheel w → (0 < edge_count w c → crank_angle w seed (suc m) ≤ℤ cam_angle w c seed k) → i < suc m
    → 0 < edge_count w c → IsInGap w seed i (cam_angle w c seed n) → (n < k) ⊎ (k ≤ n) → n < k
few w c seed m k i n wheel past l some gap (inl h) = h
few w c seed m k i n wheel past l some gap (inr h) =
    absurd (beyond (crank_angle w seed (suc m)) (cam_angle w c seed k) (cam_angle w c seed n) (crank_angle w seed (i + 1)) (past some) (cams_ascend w c seed k n wheel some h) gap.before (crank_angle_at w seed (i + 1) (suc m) wheel (omega (arith, l))))

-- the edges are those of the stimulus
crank_whole : (w : WheelParts) (seed m : ℕ) (e : Edge) → HasEdge Crank w seed (suc (suc m)) 0 0 e ↔ IsDrawnEdge Crank w seed (suc m) e
crank_whole w seed m e = (λ h. let l = h.1 in (h.0, omega (arith, l), h.2), λ h. let l = h.1 in (h.0, omega (arith, l), h.2))

cam_whole : (w : WheelParts) (c : Channel) (seed m k : ℕ) (e : Edge) → IsWheel w → (0 < edge_count w c → crank_angle w seed (suc m) ≤ℤ cam_angle w c seed k)
    → CamHasEdge w c seed (suc m) k e ↔ IsCamEdge w c seed (suc m) e
cam_whole w c seed m k e wheel past =
    (λ h. (h.0, h.1, h.2, h.4), λ h. (h.0, h.1, h.2, few w c seed m k h.0 h.1 wheel past h.2 h.3.present h.3.gap (cases_lt h.1 k), h.3))

pub drawn_edges : (d : Channel) (w : WheelParts) (seed m k1 k2 : ℕ) (is : List Instant) (j : Instant) (e : Edge) → IsWheel w
    → (0 < edge_count w Cam1 → crank_angle w seed (suc m) ≤ℤ cam_angle w Cam1 seed k1) → (0 < edge_count w Cam2 → crank_angle w seed (suc m) ≤ℤ cam_angle w Cam2 seed k2)
    → IsInstant j (pos (crank_time w seed (suc m))) (Some (pol_of w Crank (crank_edge w seed (suc m)))) None None
    → (Contains (edges_on d is) e ↔ HasEdge d w seed (suc m) k1 k2 e) → Contains (edges_on d (is ++ j ∷ [])) e ↔ IsDrawnEdge d w seed (suc m) e
drawn_edges Crank w seed m k1 k2 is j e wheel one two k had =
    let t = pos (crank_time w seed (suc m)) in
    across (join (pushed Crank is j t (Some (pol_of w Crank (crank_edge w seed (suc m)))) e k.time k.crank) had (crank_more w seed (suc m) t e refl)) (crank_whole w seed m e)
drawn_edges Cam1 w seed m k1 k2 is j e wheel one two k had =
    across (join (pushed Cam1 is j (pos (crank_time w seed (suc m))) None e k.time k.cam1) had none_more) (cam_whole w Cam1 seed m k1 e wheel one)
drawn_edges Cam2 w seed m k1 k2 is j e wheel one two k had =
    across (join (pushed Cam2 is j (pos (crank_time w seed (suc m))) None e k.time k.cam2) had none_more) (cam_whole w Cam2 seed m k2 e wheel two)

-- the moves are those of the stimulus
drawn_moves : (w : WheelParts) (seed m k1 k2 : ℕ) (x t : ℤ) (vs : List Move) → IsWheel w → Moved w seed (suc m) k1 k2 x t vs → Moved w seed (suc (suc m)) k1 k2 (crank_angle w seed (suc m)) (pos (crank_time w seed (suc m))) (crank_move w seed (suc m) ∷ vs)
    → (0 < edge_count w Cam1 → crank_angle w seed (suc m) ≤ℤ cam_angle w Cam1 seed k1) → (0 < edge_count w Cam2 → crank_angle w seed (suc m) ≤ℤ cam_angle w Cam2 seed k2)
    → (v : Move) → Contains (crank_move w seed (suc m) ∷ vs) v ↔ IsMoveOn v.channel w seed (suc m) v
drawn_moves w seed m k1 k2 x t vs wheel old new one two v = (to, from v.channel (new.exact v).1)
  where
    was : (c : Channel) → HasMoved c w seed (suc m) k1 k2 v → IsMoveOn c w seed (suc m) v
    was Crank h = let l = h.1 in (h.0, omega (arith, l), h.2)
    was Cam1 h = (h.0, h.1, h.2, h.4)
    was Cam2 h = (h.0, h.1, h.2, h.4)

    to : Contains (crank_move w seed (suc m) ∷ vs) v → IsMoveOn v.channel w seed (suc m) v
    to h = by (contains_cases v (crank_move w seed (suc m)) vs h)
      where
        by : (crank_move w seed (suc m) ≡ v) ⊎ Contains vs v → IsMoveOn v.channel w seed (suc m) v
        by (inl e) = subst (λ (z : Move). IsMoveOn z.channel w seed (suc m) z) e (suc m, omega arith, refl)
        by (inr k) = was v.channel ((old.exact v).0 k)

    from : (c : Channel) → (HasMoved c w seed (suc (suc m)) k1 k2 v → Contains (crank_move w seed (suc m) ∷ vs) v) → IsMoveOn c w seed (suc m) v → Contains (crank_move w seed (suc m) ∷ vs) v
    from Crank back h = let l = h.1 in back (h.0, omega (arith, l), h.2)
    from Cam1 back h = let l = h.2 in back (h.0, h.1, omega (arith, l), few w Cam1 seed m k1 h.0 h.1 wheel one h.2 h.3.present h.3.gap (cases_lt h.1 k1), h.3)
    from Cam2 back h = let l = h.2 in back (h.0, h.1, omega (arith, l), few w Cam2 seed m k2 h.0 h.1 wheel two h.2 h.3.present h.3.gap (cases_lt h.1 k2), h.3)

-- with the last crank edge the stimulus is whole
pub last_instant : (w : WheelParts) (seed m k1 k2 : ℕ) (x : ℤ) (is : List Instant) (i : Instant) → IsWheel w → AreTimed w seed (suc m) → Given w seed m k1 k2 x is
    → (0 < edge_count w Cam1 → crank_angle w seed (suc m) ≤ℤ cam_angle w Cam1 seed k1) → (0 < edge_count w Cam2 → crank_angle w seed (suc m) ≤ℤ cam_angle w Cam2 seed k2)
    → IsInstant i (pos (crank_time w seed (suc m))) (Some (pol_of w Crank (crank_edge w seed (suc m)))) None None
    → IsStimulus w seed (suc m) (is ++ i ∷ [])
last_instant w seed m k1 k2 x is i wheel timed g one two k =
    let t = pos (crank_time w seed (suc m)) in
    let end : time_in w seed m x < crank_time w seed (suc m) = before_end w seed m x wheel (timed m (omega arith)) g.gap in
    let later : clock w seed m x <ℤ t = rises (time_in w seed m x) (crank_time w seed (suc m)) end in
    let before = g.last t later in
    let v = crank_moves w seed (suc m) k1 k2 x (clock w seed m x) g.moves wheel timed g.moved one two (weak (clock w seed m x) t later) in
    let turned : i ∷ reverse is ≡ reverse (is ++ i ∷ []) = sym (reverse-append is (i ∷ [])) in
    let group = one_group t (Some (pol_of w Crank (crank_edge w seed (suc m)))) None None i (events_passed w (start_of w seed) g.moves) (reverse is) k.time k.crank k.cam1 k.cam2 g.gives in
    let passed = same_event t _ _ (events_passed w (start_of w seed) g.moves) (ap (λ (j : Indices). pol_of w Crank j.crank) g.moved.next) in
    record {
      motion = motion_of w seed (crank_move w seed (suc m) ∷ g.moves);
      is_drawn = record { angle = refl; start = refl; moves = drawn_moves w seed m k1 k2 x (clock w seed m x) g.moves wheel g.moved v one two };
      permitted = is_permitted w seed (suc (suc m)) k1 k2 _ _ _ wheel (λ j h. timed j (omega (arith, h))) v;
      gives = subst (λ l. Groups (events_passed w (start_of w seed) (crank_move w seed (suc m) ∷ g.moves)) l) turned (subst (λ e. Groups e (i ∷ reverse is)) (sym passed) group);
      rise = rising-last is i g.rise (subst (λ u. AllBefore u is) (sym k.time) before);
      edges = λ d e. drawn_edges d w seed m k1 k2 is i e wheel one two k (g.edges d e);
    }
  where
    rises : (a b : ℕ) → a < b → pos a <ℤ pos b
    rises a b h = omega (arith, ints, h)

    same_event : (t : ℤ) (p q : Pol) (es : List Event) → p ≡ q → record { time = t; channel = Crank; polarity = p } ∷ es ≡ record { time = t; channel = Crank; polarity = q } ∷ es
    same_event t p q es e = rw e refl
