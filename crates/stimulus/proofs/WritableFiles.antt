-- The files of a stimulus can be written.
use Rattle.std.proofs.Common.{◌≡◌, ◌⊎◌, inl, inr, ◌↔◌, ℕ, zero, suc, ◌<◌, ◌≤◌, ◌^◌, List, [], ◌∷◌, length, get_or, refl, sym, subst}
use Rattle.std.proofs.Common.{arith, ℤ, pos, ◌+ℤ◌, ◌<ℤ◌, ◌≤ℤ◌}
use Rattle.std.proofs.lemmas.Int.{ints}
use Rattle.std.specs.Prelude.{Contains, Option, Some, None, unsigned_abs}
use Rattle.wheel_types.specs.declared.channel.Pol.{Pol}
use Rattle.wheel_types.specs.declared.channel.Keep.{Keep}
use Rattle.wheel_types.specs.declared.channel.Keep.TheVariants.{Rising, Falling, Both}
use Rattle.wheel_types.specs.declared.channel.Channel.{Channel}
use Rattle.wheel_types.specs.declared.channel.Channel.TheVariants.{Crank, Cam1, Cam2}
use Rattle.wheel_types.specs.declared.instant.Instant.{Instant}
use Rattle.wheel_types.specs.declared.parts.WheelParts.{WheelParts}
use Rattle.wheel_types.specs.Edges.{edge_count, keep_of}
use Rattle.wheel_types.specs.Verdicts as verdicts
use Rattle.wheel_types.specs.Wheels.{IsWheel}
use Rattle.capture_core.specs.Changes.{edge_on, keep_on}
use Rattle.stimulus_files.specs.Changes.{Edge, with_edge, edges_on, Change, halfway, change_of, back_between, back_if, changes_of}
use Rattle.stimulus_files.specs.FilesOf.{keep_if, watch_of}
use Rattle.stimulus_files.specs.Written.{AreApart, AreSmall, AreWithin, AreWritable, IsWritable, RiseFrom}
use Rattle.stimulus_files.proofs.AlongStamps.{contains_here, contains_more, contains_cases, none_in}
use Rattle.stimulus_files.proofs.KeptChanges.{changes_rise, half_between}
use Rattle.stimulus_files.proofs.SmallChanges.{one_within}
use Rattle.stimulus_files.proofs.SameInstants.{edge_of, rises, with_head}
use Rattle.stimulus.specs.Gaps.{HasTimes}
use Rattle.stimulus.specs.Drawn.{IsCamEdge, IsDrawnEdge}
use Rattle.stimulus.specs.Laws.{StimuliAreWritable}
use Rattle.stimulus.proofs.DrawnEdges.{across}
use Rattle.stimulus.proofs.Numbered.{writable}
use Rattle.stimulus.proofs.OneOnly.{EdgesRise, edges_rise}
use Rattle.stimulus.proofs.Writable.{IsCrank, IsCam, crank_numbered, crank_small, cam_numbered, cam_small}

-- ---- channel by channel

by_crank : (w : WheelParts) (seed gaps : ℕ) (e : Edge) → IsDrawnEdge Crank w seed gaps e ↔ ((n : ℕ) × IsCrank w seed gaps n e)
by_crank w seed gaps e = (λ h. (h.0, (h.1, h.2)), λ h. (h.0, h.1.0, h.1.1))

by_cam : (w : WheelParts) (c : Channel) (seed gaps : ℕ) (e : Edge) → IsCamEdge w c seed gaps e ↔ ((n : ℕ) × IsCam w c seed gaps n e)
by_cam w c seed gaps e = (λ h. (h.1, (h.0, h.2, h.3)), λ h. (h.1.0, h.0, h.1.1, h.1.2))

none_listed : (es : List Edge) → ((e : Edge) → Contains es e → ⊥) → es ≡ []
none_listed [] h = refl
none_listed (e ∷ es) h = absurd (h e (contains_here e es))

not_none : (n : ℕ) → n ≡ 0 → 0 < n → ⊥
not_none n e h = absurd (omega (arith, e, h))

cam_writable : (w : WheelParts) (c : Channel) (seed gaps n : ℕ) (es : List Edge) → IsWheel w → HasTimes w seed gaps → EdgesRise es
    → ((e : Edge) → Contains es e ↔ IsCamEdge w c seed gaps e)
    → edge_count w c ≡ n → IsWritable (keep_if n (keep_of w c)) es
cam_writable w c seed gaps zero es wheel times r h q = none_listed es (λ e i. not_none (edge_count w c) q ((h e).0 i).3.present)
cam_writable w c seed gaps (suc n) es wheel times r h q =
    let some : 0 < edge_count w c = omega (arith, q) in
    writable (keep_of w c) (IsCam w c seed gaps) (cam_numbered w c seed gaps wheel times some) es r
    (λ e. across (h e) (by_cam w c seed gaps e))

-- ---- changes

back_small : (t u : ℤ) → (t +ℤ pos 2) ≤ℤ u → pos 0 ≤ℤ t → unsigned_abs u ≤ 10 ^ 24 → unsigned_abs (halfway t u) ≤ 10 ^ 24
back_small t u h s small = let b = half_between t u h s in within t (halfway t u) u s b.0 b.1 small
  where
    within : (a b c : ℤ) → pos 0 ≤ℤ a → a <ℤ b → b <ℤ c → unsigned_abs c ≤ 10 ^ 24 → unsigned_abs b ≤ 10 ^ 24
    within a b c s h k l = omega (arith, ints, s, h, k, l)

back_within : (keep : Keep) (e f : Edge) (ds : List Change) → unsigned_abs (halfway e.time f.time) ≤ 10 ^ 24 → AreWithin ds
    → AreWithin (back_if keep e f ds)
back_within Both e f ds h k = k
back_within Rising e f ds h k = one_within (back_between e f) ds h k
back_within Falling e f ds h k = one_within (back_between e f) ds h k

after_zero : (a b : ℤ) → pos 0 ≤ℤ a → a <ℤ b → pos 0 ≤ℤ b
after_zero a b h k = omega (arith, ints, h, k)

changes_within : (keep : Keep) (t : ℤ) (es : List Edge) → pos 0 ≤ℤ t → AreApart t es
    → ((e : Edge) → Contains es e → unsigned_abs e.time ≤ 10 ^ 24) → AreWithin (changes_of keep es)
changes_within keep t [] s a h = λ x i. absurd (none_in x i)
changes_within keep t (e ∷ []) s a h = one_within (change_of e) [] (h e (contains_here e [])) (λ x i. absurd (none_in x i))
changes_within keep t (e ∷ f ∷ es) s a h =
    let here = after_zero t e.time s a.0 in
    let last = h f (contains_more f e (f ∷ es) (contains_here f es)) in
    let more = changes_within keep e.time (f ∷ es) here a.2 (λ x i. h x (contains_more x e (f ∷ es) i)) in
    one_within (change_of e) (back_if keep e f (changes_of keep (f ∷ es))) (h e (contains_here e (f ∷ es)))
    (back_within keep e f (changes_of keep (f ∷ es)) (back_small e.time f.time a.1 here last) more)

zero_refl : pos 0 ≤ℤ pos 0
zero_refl = omega (arith, ints)

channel_small : (keep : Keep) (k : Option Keep) (es : List Edge) → k ≡ Some keep → IsWritable k es
    → ((e : Edge) → Contains es e → unsigned_abs e.time ≤ 10 ^ 24)
    → RiseFrom (pos 0) (changes_of keep es) × AreWithin (changes_of keep es)
channel_small keep k es e h small =
    let w = subst (λ o. IsWritable o es) e h in
    (changes_rise keep (pos 0) es zero_refl w.1, changes_within keep (pos 0) es zero_refl w.1 small)

-- ---- instants

more_edges : (t : ℤ) (o : Option Pol) (es : List Edge) (e : Edge) → Contains es e → Contains (with_edge t o es) e
more_edges t None es e h = h
more_edges t (Some p) es e h = contains_more e (record { time = t; polarity = p }) es h

listed : (c : Channel) (is : List Instant) (k : ℕ) (d : Instant) (p : Pol) → k < length is → edge_on c (get_or is k d) ≡ Some p
    → Contains (edges_on c is) (record { time = (get_or is k d).time; polarity = p })
listed c [] k d p h e = absurd (omega (arith, h))
listed c (i ∷ is) zero d p h e = subst (λ es. Contains es (record { time = i.time; polarity = p })) (sym (with_head c i is p e))
    (contains_here (record { time = i.time; polarity = p }) (edges_on c is))
listed c (i ∷ is) (suc k) d p h e = more_edges i.time (edge_on c i) (edges_on c is) _ (listed c is k d p (omega (arith, h)) e)

-- ---- all of a stimulus

pub stimuli_are_writable : StimuliAreWritable
stimuli_are_writable w seed gaps is wheel few times s = (within, small, can)
  where
    rise : (c : Channel) → EdgesRise (edges_on c is)
    rise c = edges_rise c is (rises is s.rise)

    can : AreWritable (watch_of w) is
    can Crank = writable w.crank (IsCrank w seed gaps) (crank_numbered w seed gaps wheel times) (edges_on Crank is) (rise Crank)
        (λ e. across (s.edges Crank e) (by_crank w seed gaps e))
    can Cam1 = cam_writable w Cam1 seed gaps (edge_count w Cam1) (edges_on Cam1 is) wheel times (rise Cam1) (s.edges Cam1) refl
    can Cam2 = cam_writable w Cam2 seed gaps (edge_count w Cam2) (edges_on Cam2 is) wheel times (rise Cam2) (s.edges Cam2) refl

    edge_small : (c : Channel) (e : Edge) → Contains (edges_on c is) e → unsigned_abs e.time ≤ 10 ^ 24
    edge_small Crank e i = let n = (by_crank w seed gaps e).0 ((s.edges Crank e).0 i) in crank_small w seed gaps n.0 e wheel few times n.1
    edge_small Cam1 e i = let n = (by_cam w Cam1 seed gaps e).0 ((s.edges Cam1 e).0 i) in
        cam_small w Cam1 seed gaps n.0 e wheel few times n.1
    edge_small Cam2 e i = let n = (by_cam w Cam2 seed gaps e).0 ((s.edges Cam2 e).0 i) in
        cam_small w Cam2 seed gaps n.0 e wheel few times n.1

    small : AreSmall (watch_of w) is
    small c keep e = channel_small keep (keep_on c (watch_of w)) (edges_on c is) e (can c) (edge_small c)

    within : verdicts.AreWithin (10 ^ 24) is
    within k d h = let o = edge_of (get_or is k d) in edge_small o.0 _ (listed o.0 is k d o.1.0 h o.1.1)
