-- The edges of a stimulus as it is made: what one more instant adds to them.
use Rattle.std.proofs.Common.{◌≡◌, ℕ, suc, ◌<◌, ◌⊎◌, inl, inr, ◌↔◌, List, [], ◌∷◌, ◌++◌, sym, ◌∙◌, ap, subst, arith}
use Rattle.std.proofs.Common.{ℤ, pos, ◌≤ℤ◌}
use Rattle.std.specs.Prelude.{Contains, Option, Some, None}
use Rattle.std.proofs.lemmas.List.Elements.{Contains-append_left, Contains-append_right, Contains-append_cases}
use Rattle.wheel_types.specs.declared.channel.Pol.{Pol}
use Rattle.wheel_types.specs.declared.channel.Channel.{Channel}
use Rattle.wheel_types.specs.declared.channel.Channel.TheVariants.{Crank, Cam1, Cam2}
use Rattle.wheel_types.specs.declared.instant.Instant.{Instant}
use Rattle.wheel_types.specs.declared.parts.WheelParts.{WheelParts}
use Rattle.wheel_types.specs.Wheels.{IsWheel}
use Rattle.wheel_types.specs.Edges.{pol_of}
use Rattle.capture_core.specs.Changes.{edge_on}
use Rattle.stimulus.specs.Gaps.{crank_edge, crank_angle, crank_time}
use Rattle.stimulus.specs.Cams.{cam_edge, cam_angle, IsInGap}
use Rattle.stimulus_files.specs.Changes.{Edge, with_edge, edges_on}
use Rattle.stimulus.specs.Drawn.{crank_edge_at, cam_edge_at}
use Rattle.stimulus_files.proofs.AlongStamps.{edges_on-append, contains_here, contains_cases, none_in}
use Rattle.stimulus.proofs.Moving.{AreBefore}
use Rattle.stimulus.proofs.CrankMoves.{split, not_both}
use Rattle.stimulus.proofs.CamMoves.{one_gap}
use Rattle.stimulus.specs.CamsOf.{Takes}
use Rattle.stimulus.specs.MadeEdges.{CamHasEdge, HasEdge}
use Rattle.stimulus.proofs.Instants.{clock}

-- ---- the edges made

abbrev pub made_edge : ℤ → Pol → Edge
made_edge t p = record { time = t; polarity = p }

-- the edge is at this time, and of this polarity if there is one
abbrev pub IsHere : ℤ → Option Pol → Edge → Type 0
IsHere t None e = ⊥
IsHere t (Some p) e = e ≡ made_edge t p

-- ---- one more instant

pub pushed : (c : Channel) (is : List Instant) (i : Instant) (t : ℤ) (o : Option Pol) (e : Edge) → i.time ≡ t → edge_on c i ≡ o
    → Contains (edges_on c (is ++ i ∷ [])) e ↔ (Contains (edges_on c is) e ⊎ IsHere t o e)
pushed c is i t o e f g = (to, from)
  where
    all : edges_on c (is ++ i ∷ []) ≡ edges_on c is ++ with_edge t o []
    all =
        edges_on-append c is (i ∷ []) ∙ ap (λ u. edges_on c is ++ with_edge u (edge_on c i) []) f
        ∙ ap (λ q. edges_on c is ++ with_edge t q []) g

    only : (p : Pol) → (made_edge t p ≡ e) ⊎ Contains [] e → e ≡ made_edge t p
    only p (inl q) = sym q
    only p (inr k) = absurd (none_in e k)

    last : (q : Option Pol) → Contains (with_edge t q []) e → IsHere t q e
    last None h = absurd (none_in e h)
    last (Some p) h = only p (contains_cases e (made_edge t p) [] h)

    listed : (q : Option Pol) → IsHere t q e → Contains (with_edge t q []) e
    listed None h = absurd h
    listed (Some p) h = subst (λ z. Contains (made_edge t p ∷ []) z) (sym h) (contains_here (made_edge t p) [])

    side : Contains (edges_on c is) e ⊎ Contains (with_edge t o []) e → Contains (edges_on c is) e ⊎ IsHere t o e
    side (inl k) = inl k
    side (inr k) = inr (last o k)

    to : Contains (edges_on c (is ++ i ∷ [])) e → Contains (edges_on c is) e ⊎ IsHere t o e
    to h = side (Contains-append_cases (edges_on c is) (with_edge t o []) e (subst (λ l. Contains l e) all h))

    from : Contains (edges_on c is) e ⊎ IsHere t o e → Contains (edges_on c (is ++ i ∷ [])) e
    from (inl h) = subst (λ l. Contains l e) (sym all) (Contains-append_left (edges_on c is) (with_edge t o []) e h)
    from (inr h) = subst (λ l. Contains l e) (sym all) (Contains-append_right (edges_on c is) (with_edge t o []) e (listed o h))

-- what a list has after one more, where it had what was made before
pub join : {A B C D E : Type 0} → (A ↔ (B ⊎ D)) → (B ↔ C) → (E ↔ (C ⊎ D)) → (A ↔ E)
join {A} {B} {C} {D} {E} p q r = (λ a. r.1 (there (p.0 a)), λ e. p.1 (back (r.0 e)))
  where
    there : B ⊎ D → C ⊎ D
    there (inl b) = inl (q.0 b)
    there (inr d) = inr d

    back : C ⊎ D → B ⊎ D
    back (inl c) = inl (q.1 c)
    back (inr d) = inr d

pub across : {A B C : Type 0} → (A ↔ B) → (B ↔ C) → (A ↔ C)
across p q = (λ a. q.0 (p.0 a), λ c. p.1 (q.1 c))

pub none_more : {A : Type 0} → A ↔ (A ⊎ ⊥)
none_more {A} = (λ a. inl a, back)
  where
    back : A ⊎ ⊥ → A
    back (inl a) = a
    back (inr b) = absurd b

-- ---- what is made with one more

later : (j i : ℕ) → j < i → j < suc i
later j i h = omega (arith, h)

-- a crank edge
pub crank_more : (w : WheelParts) (seed i : ℕ) (t : ℤ) (e : Edge) → t ≡ pos (crank_time w seed i)
    → HasEdge Crank w seed (suc i) 0 0 e ↔ (HasEdge Crank w seed i 0 0 e ⊎ IsHere t (Some (pol_of w Crank (crank_edge w seed i))) e)
crank_more w seed i t e f = (λ h. to h (split h.0 i h.1), from)
  where
    p : Pol
    p = pol_of w Crank (crank_edge w seed i)

    here : crank_edge_at w seed i ≡ made_edge t p
    here = ap (λ u. made_edge u p) (sym f)

    to : (h : HasEdge Crank w seed (suc i) 0 0 e) → (h.0 < i) ⊎ (h.0 ≡ i) → HasEdge Crank w seed i 0 0 e ⊎ (e ≡ made_edge t p)
    to h (inl l) = inl (h.0, l, h.2)
    to h (inr q) = inr (h.2 ∙ ap (crank_edge_at w seed) q ∙ here)

    from : HasEdge Crank w seed i 0 0 e ⊎ (e ≡ made_edge t p) → HasEdge Crank w seed (suc i) 0 0 e
    from (inl h) = (h.0, later h.0 i h.1, h.2)
    from (inr h) = (i, omega arith, h ∙ sym here)

-- the edge of a cam at an angle, if its next edge is there
pub cam_more : (w : WheelParts) (c : Channel) (seed m k : ℕ) (x : ℤ) (o : Option Pol) (next : ℕ) (e : Edge) → IsWheel w → IsInGap w seed m x
    → Takes w c seed k x o next → CamHasEdge w c seed (suc m) next e ↔ (CamHasEdge w c seed (suc m) k e ⊎ IsHere (clock w seed m x) o e)
cam_more w c seed m k x None next e wheel gap t =
    subst (λ n. CamHasEdge w c seed (suc m) n e ↔ (CamHasEdge w c seed (suc m) k e ⊎ ⊥)) (sym t) none_more
cam_more w c seed m k x (Some p) next e wheel gap t =
    subst (λ n. CamHasEdge w c seed (suc m) n e ↔ (CamHasEdge w c seed (suc m) k e ⊎ (e ≡ made_edge (clock w seed m x) p))) (sym t.3)
    (λ h. to h (split h.1 k h.3), from)
  where
    here : cam_edge_at w c seed m k ≡ made_edge (clock w seed m x) p
    here = ap (λ z. made_edge (clock w seed m z) (pol_of w c (cam_edge w c seed k))) t.1 ∙ ap (made_edge (clock w seed m x)) (sym t.2)

    to : (h : CamHasEdge w c seed (suc m) (suc k) e) → (h.1 < k) ⊎ (h.1 ≡ k)
        → CamHasEdge w c seed (suc m) k e ⊎ (e ≡ made_edge (clock w seed m x) p)
    to h (inl l) = inl (h.0, h.1, h.2, l, h.4)
    to h (inr q) =
        let there : IsInGap w seed h.0 x = subst (IsInGap w seed h.0) (ap (cam_angle w c seed) q ∙ t.1) h.4.gap in
        let same : h.0 ≡ m = one_gap w seed h.0 m x wheel there gap in
        inr (h.4.edge ∙ ap (λ n. cam_edge_at w c seed h.0 n) q ∙ ap (λ j. cam_edge_at w c seed j k) same ∙ here)

    from : CamHasEdge w c seed (suc m) k e ⊎ (e ≡ made_edge (clock w seed m x) p) → CamHasEdge w c seed (suc m) (suc k) e
    from (inl h) = (h.0, h.1, h.2, later h.1 k h.3, h.4)
    from (inr h) =
        (m, k, omega arith, omega arith, record { present = t.0; gap = subst (IsInGap w seed m) (sym t.1) gap; edge = h ∙ sym here })

-- one more gap, where the cam's edges are before it
pub gap_more : (w : WheelParts) (c : Channel) (seed i k : ℕ) (e : Edge) → AreBefore w c seed i k
    → CamHasEdge w c seed i k e ↔ CamHasEdge w c seed (suc i) k e
gap_more w c seed i k e before = (λ h. (h.0, h.1, later h.0 i h.2, h.3, h.4), λ h. back h (split h.0 i h.2))
  where
    back : (h : CamHasEdge w c seed (suc i) k e) → (h.0 < i) ⊎ (h.0 ≡ i) → CamHasEdge w c seed i k e
    back h (inl l) = (h.0, h.1, l, h.3, h.4)
    back h (inr q) =
        absurd (not_both (crank_angle w seed i) (cam_angle w c seed h.1)
        (subst (λ n. crank_angle w seed n ≤ℤ cam_angle w c seed h.1) q h.4.gap.from) (before h.1 h.3))

-- ---- where nothing is made yet

pub none_at_first : (c : Channel) (w : WheelParts) (seed : ℕ) (e : Edge) → Contains (edges_on c []) e ↔ HasEdge c w seed 0 0 0 e
none_at_first Crank w seed e = (λ h. absurd (none_in e h), λ h. let l = h.1 in absurd (omega (arith, l)))
none_at_first Cam1 w seed e = (λ h. absurd (none_in e h), λ h. let l = h.2 in absurd (omega (arith, l)))
none_at_first Cam2 w seed e = (λ h. absurd (none_in e h), λ h. let l = h.2 in absurd (omega (arith, l)))
