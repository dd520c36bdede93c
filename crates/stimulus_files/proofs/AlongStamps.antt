-- The edges of a channel in the instants of stamps are those of the levels that the stamps give it.
use Rattle.std.proofs.Common.{◌≡◌, ◌⊎◌, inl, inr, ◌↔◌, Bool, List, [], ◌∷◌, ◌++◌, refl, sym, ◌∙◌, ap, subst, arith, ℤ, pos, ◌<ℤ◌, ◌≤ℤ◌, append-nil}
use Rattle.std.proofs.lemmas.Int.{ints}
use Rattle.std.specs.Prelude.{Option, Some, None, ⊤, Contains}
use Rattle.std.specs.List.{AllByRecursion}
use Rattle.std.proofs.lemmas.List.Elements.{Contains-append_left, Contains-append_right, Contains-append_cases, Contains-push, Contains-push_cases}
use Rattle.wheel_types.specs.declared.channel.Pol.{Pol}
use Rattle.wheel_types.specs.declared.channel.Keep.{Keep}
use Rattle.wheel_types.specs.declared.channel.Channel.{Channel}
use Rattle.wheel_types.specs.declared.channel.Channel.TheVariants.{Crank, Cam1, Cam2}
use Rattle.wheel_types.specs.declared.instant.Instant.{Instant}
use Rattle.capture_core.specs.declared.capture.Given.{Given}
use Rattle.capture_core.specs.declared.capture.Stamp.{Stamp}
use Rattle.capture_core.specs.declared.capture.Watch.{Watch}
use Rattle.capture_core.specs.Changes.{edge_on, keep_on, level_on}
use Rattle.capture_core.specs.Stamps.{IsRising, edge_of, instant_if, instant_at, instants_of, with_last, known_after, over, or_else, kept_edge}
use Rattle.stimulus_files.specs.Changes.{Edge, with_edge, edges_on, Change, changes_of, first_level, IsGivenOn, AreStamps}
use Rattle.stimulus_files.specs.Written.{AreInTurn, AreApart, RiseFrom}
use Rattle.stimulus_files.proofs.KeptChanges.{kept_from, kept_are_edges, changes_rise}

-- ---- edges of lists of instants

with_edge-append : (t : ℤ) (o : Option Pol) (es fs : List Edge) → with_edge t o (es ++ fs) ≡ with_edge t o es ++ fs
with_edge-append t None es fs = refl
with_edge-append t (Some p) es fs = refl

pub edges_on-append : (c : Channel) (is js : List Instant) → edges_on c (is ++ js) ≡ edges_on c is ++ edges_on c js
edges_on-append c [] js = refl
edges_on-append c (i ∷ is) js = ap (with_edge i.time (edge_on c i)) (edges_on-append c is js) ∙ with_edge-append i.time (edge_on c i) (edges_on c is) (edges_on c js)

-- one of three
abbrev pub pick : Channel → Option Pol → Option Pol → Option Pol → Option Pol
pick Crank a b d = a
pick Cam1 a b d = b
pick Cam2 a b d = d

one_instant : (c : Channel) (t : ℤ) (a b d : Option Pol) → edges_on c (with_last [] (instant_if t a b d)) ≡ with_edge t (pick c a b d) []
one_instant Crank t (Some a) b d = refl
one_instant Crank t None (Some b) d = refl
one_instant Crank t None None (Some d) = refl
one_instant Crank t None None None = refl
one_instant Cam1 t (Some a) b d = refl
one_instant Cam1 t None (Some b) d = refl
one_instant Cam1 t None None (Some d) = refl
one_instant Cam1 t None None None = refl
one_instant Cam2 t (Some a) b d = refl
one_instant Cam2 t None (Some b) d = refl
one_instant Cam2 t None None (Some d) = refl
one_instant Cam2 t None None None = refl

last_apart : (is : List Instant) (o : Option Instant) → with_last is o ≡ is ++ with_last [] o
last_apart is None = sym (append-nil is)
last_apart is (Some i) = refl

-- ---- levels along stamps

abbrev pub change_if : ℤ → Option Bool → List Change
change_if t None = []
change_if t (Some level) = record { time = t; level = level } ∷ []

-- the levels that stamps give a channel, in order
abbrev pub levels_given : Channel → List Stamp → List Change
levels_given c [] = []
levels_given c (s ∷ past) = levels_given c past ++ change_if s.time (level_on c s.given)

abbrev last_after : Option Bool → List Change → Option Bool
last_after b [] = b
last_after b (d ∷ ds) = last_after (Some d.level) ds

last_after-append : (b : Option Bool) (xs ys : List Change) → last_after b (xs ++ ys) ≡ last_after (last_after b xs) ys
last_after-append b [] ys = refl
last_after-append b (x ∷ xs) ys = last_after-append (Some x.level) xs ys

level_over : (c : Channel) (g k : Given) → level_on c (over g k) ≡ or_else (level_on c g) (level_on c k)
level_over Crank g k = refl
level_over Cam1 g k = refl
level_over Cam2 g k = refl

last_if : (t : ℤ) (o b : Option Bool) → last_after b (change_if t o) ≡ or_else o b
last_if t None b = refl
last_if t (Some l) b = refl

none_known : (c : Channel) → level_on c (known_after []) ≡ None
none_known Crank = refl
none_known Cam1 = refl
none_known Cam2 = refl

known_is_last : (c : Channel) (stamps : List Stamp) → level_on c (known_after stamps) ≡ last_after None (levels_given c stamps)
known_is_last c [] = none_known c
known_is_last c (s ∷ past) =
    level_over c s.given (known_after past) ∙ ap (or_else (level_on c s.given)) (known_is_last c past)
    ∙ sym (last_after-append None (levels_given c past) (change_if s.time (level_on c s.given)) ∙ last_if s.time (level_on c s.given) (last_after None (levels_given c past)))

-- the edges that levels make
abbrev edges_along : Option Keep → Option Bool → List Change → List Edge
edges_along k b [] = []
edges_along k b (d ∷ ds) = with_edge d.time (edge_of k b (Some d.level)) (edges_along k (Some d.level) ds)

edges_along-append : (k : Option Keep) (b : Option Bool) (xs ys : List Change) → edges_along k b (xs ++ ys) ≡ edges_along k b xs ++ edges_along k (last_after b xs) ys
edges_along-append k b [] ys = refl
edges_along-append k b (x ∷ xs) ys = ap (with_edge x.time (edge_of k b (Some x.level))) (edges_along-append k (Some x.level) xs ys) ∙ with_edge-append x.time (edge_of k b (Some x.level)) (edges_along k (Some x.level) xs) (edges_along k (last_after (Some x.level) xs) ys)

no_edge : (k : Option Keep) (b : Option Bool) → edge_of k b None ≡ None
no_edge None b = refl
no_edge (Some k) None = refl
no_edge (Some k) (Some b) = refl

along_if : (k : Option Keep) (b : Option Bool) (t : ℤ) (o : Option Bool) → edges_along k b (change_if t o) ≡ with_edge t (edge_of k b o) []
along_if k b t None = ap (λ o. with_edge t o []) (sym (no_edge k b))
along_if k b t (Some l) = refl

pick_edge : (c : Channel) (watch : Watch) (known given : Given) → pick c (edge_of (Some watch.crank) known.crank given.crank) (edge_of watch.cam1 known.cam1 given.cam1) (edge_of watch.cam2 known.cam2 given.cam2) ≡ edge_of (keep_on c watch) (level_on c known) (level_on c given)
pick_edge Crank watch known given = refl
pick_edge Cam1 watch known given = refl
pick_edge Cam2 watch known given = refl

pub edges_of_stamps : (c : Channel) (watch : Watch) (stamps : List Stamp) → edges_on c (instants_of watch stamps) ≡ edges_along (keep_on c watch) None (levels_given c stamps)
edges_of_stamps c watch [] = refl
edges_of_stamps c watch (s ∷ past) =
    let is = instants_of watch past in
    let k = keep_on c watch in
    let here : edges_on c (with_last [] (instant_at watch (known_after past) s)) ≡ with_edge s.time (edge_of k (last_after None (levels_given c past)) (level_on c s.given)) [] =
    one_instant c s.time _ _ _ ∙ ap (λ o. with_edge s.time o []) (pick_edge c watch (known_after past) s.given ∙ ap (λ b. edge_of k b (level_on c s.given)) (known_is_last c past)) in
    ap (edges_on c) (last_apart is (instant_at watch (known_after past) s)) ∙ edges_on-append c is (with_last [] (instant_at watch (known_after past) s))
    ∙ ap (λ l. l ++ edges_on c (with_last [] (instant_at watch (known_after past) s))) (edges_of_stamps c watch past)
    ∙ ap (λ l. edges_along k None (levels_given c past) ++ l) (here ∙ sym (along_if k (last_after None (levels_given c past)) s.time (level_on c s.given)))
    ∙ sym (edges_along-append k None (levels_given c past) (change_if s.time (level_on c s.given)))

-- after a known level, a watched channel's edges are the kept ones
along_kept : (keep : Keep) (b : Bool) (ds : List Change) → edges_along (Some keep) (Some b) ds ≡ kept_from keep b ds
along_kept keep b [] = refl
along_kept keep b (d ∷ ds) = ap (with_edge d.time (kept_edge keep b d.level)) (along_kept keep d.level ds)

pub along_first : (keep : Keep) (d : Change) (ds : List Change) → edges_along (Some keep) None (d ∷ ds) ≡ kept_from keep d.level ds
along_first keep d ds = along_kept keep d.level ds

pub along_none : (b : Option Bool) (ds : List Change) → edges_along None b ds ≡ []
along_none b [] = refl
along_none b (d ∷ ds) = along_none (Some d.level) ds

-- ---- rising lists of changes with the same members

pub contains_here : {X : Type 0} (v : X) (vs : List X) → Contains (v ∷ vs) v
contains_here v vs = Contains-append_left (v ∷ []) vs v (Contains-push [] v)

pub contains_more : {X : Type 0} (u v : X) (vs : List X) → Contains vs u → Contains (v ∷ vs) u
contains_more u v vs h = Contains-append_right (v ∷ []) vs u h

pub none_in : {X : Type 0} (u : X) → Contains [] u → ⊥
none_in u h = absurd (omega (arith, h.1))

pub contains_cases : {X : Type 0} (u v : X) (vs : List X) → Contains (v ∷ vs) u → (v ≡ u) ⊎ Contains vs u
contains_cases {X} u v vs h = by (Contains-append_cases (v ∷ []) vs u h)
  where
    only : Contains [] u ⊎ (v ≡ u) → v ≡ u
    only (inl a) = absurd (none_in u a)
    only (inr e) = e

    by : Contains (v ∷ []) u ⊎ Contains vs u → (v ≡ u) ⊎ Contains vs u
    by (inl a) = inl (only (Contains-push_cases [] v u a))
    by (inr a) = inr a

abbrev pub Rise : List Change → Type 0
Rise [] = ⊤
Rise (d ∷ ds) = RiseFrom d.time ds

rise_rest : (t : ℤ) (ds : List Change) → RiseFrom t ds → Rise ds
rise_rest t [] h = tt
rise_rest t (d ∷ ds) h = h.1

through : (a b c : ℤ) → a <ℤ b → b <ℤ c → a <ℤ c
through a b c h k = omega (arith, ints)

-- what follows is later
pub later_in : (t : ℤ) (ds : List Change) (u : Change) → RiseFrom t ds → Contains ds u → t <ℤ u.time
later_in t [] u r h = absurd (none_in u h)
later_in t (d ∷ ds) u r h = by (contains_cases u d ds h) (λ k. through t d.time u.time r.0 (later_in d.time ds u r.1 k))
  where
    by : (d ≡ u) ⊎ Contains ds u → (Contains ds u → t <ℤ u.time) → t <ℤ u.time
    by (inl e) more = subst (λ (v : Change). t <ℤ v.time) e r.0
    by (inr k) more = more k

not_before_itself : (a b : ℤ) → a <ℤ b → b <ℤ a → ⊥
not_before_itself a b h k = absurd (omega (arith, ints, h, k))

not_itself : (a : ℤ) → a <ℤ a → ⊥
not_itself a h = absurd (omega (arith, ints, h))

same_first : (c d : Change) (cs ds : List Change) → RiseFrom c.time cs → RiseFrom d.time ds → (c ≡ d) ⊎ Contains cs d → (d ≡ c) ⊎ Contains ds c → c ≡ d
same_first c d cs ds r q (inl e) k = e
same_first c d cs ds r q (inr h) (inl e) = sym e
same_first c d cs ds r q (inr h) (inr k) = absurd (not_before_itself c.time d.time (later_in c.time cs d r h) (later_in d.time ds c q k))

rest_in : (c d e : Change) (cs ds : List Change) → c ≡ d → RiseFrom c.time cs → Contains cs e → (d ≡ e) ⊎ Contains ds e → Contains ds e
rest_in c d e cs ds s r h (inr k) = k
rest_in c d e cs ds s r h (inl k) = absurd (not_itself c.time (subst (λ (v : Change). c.time <ℤ v.time) (sym (s ∙ k)) (later_in c.time cs e r h)))

pub same_changes : (cs ds : List Change) → Rise cs → Rise ds → ((e : Change) → Contains cs e ↔ Contains ds e) → cs ≡ ds
same_changes [] [] r q h = refl
same_changes [] (d ∷ ds) r q h = absurd (none_in d ((h d).1 (contains_here d ds)))
same_changes (c ∷ cs) [] r q h = absurd (none_in c ((h c).0 (contains_here c cs)))
same_changes (c ∷ cs) (d ∷ ds) r q h =
    let e : c ≡ d = same_first c d cs ds r q (contains_cases d c cs ((h d).1 (contains_here d ds))) (contains_cases c d ds ((h c).0 (contains_here c cs))) in
    let rest : cs ≡ ds = same_changes cs ds (rise_rest c.time cs r) (rise_rest d.time ds q)
    (λ f. (λ k. rest_in c d f cs ds e r k (contains_cases f d ds ((h f).0 (contains_more f c cs k))), λ k. rest_in d c f ds cs (sym e) q k (contains_cases f c cs ((h f).1 (contains_more f d ds k))))) in
    ap (λ (v : Change). v ∷ cs) e ∙ ap (λ (l : List Change). d ∷ l) rest

-- ---- levels of rising stamps rise, and are those given

abbrev AllEarlier : ℤ → List Change → Type 0
AllEarlier t ds = AllByRecursion (λ (d : Change). d.time <ℤ t) ds

rise_push : (t u : ℤ) (l : Bool) (ds : List Change) → RiseFrom t ds → AllEarlier u ds → t <ℤ u → RiseFrom t (ds ++ record { time = u; level = l } ∷ [])
rise_push t u l [] r b h = (h, tt)
rise_push t u l (d ∷ ds) r b h = (r.0, rise_push d.time u l ds r.1 b.1 b.0)

rise_push_if : (u : ℤ) (o : Option Bool) (ds : List Change) → Rise ds → AllEarlier u ds → Rise (ds ++ change_if u o)
rise_push_if u None ds r b = subst Rise (sym (append-nil ds)) r
rise_push_if u (Some l) [] r b = tt
rise_push_if u (Some l) (d ∷ ds) r b = rise_push d.time u l ds r b.1 b.0

earlier_append : (t : ℤ) (xs ys : List Change) → AllEarlier t xs → AllEarlier t ys → AllEarlier t (xs ++ ys)
earlier_append t [] ys h k = k
earlier_append t (x ∷ xs) ys h k = (h.0, earlier_append t xs ys h.1 k)

earlier_more : (t u : ℤ) (xs : List Change) → t <ℤ u → AllEarlier t xs → AllEarlier u xs
earlier_more t u [] h k = tt
earlier_more t u (x ∷ xs) h k = (through x.time t u k.0 h, earlier_more t u xs h k.1)

one_earlier : (t u : ℤ) (o : Option Bool) → t <ℤ u → AllEarlier u (change_if t o)
one_earlier t u None h = tt
one_earlier t u (Some l) h = (h, tt)

levels_earlier : (c : Channel) (s : Stamp) (past : List Stamp) → IsRising (s ∷ past) → AllEarlier s.time (levels_given c past)
levels_earlier c s [] r = tt
levels_earlier c s (q ∷ past) r = earlier_append s.time (levels_given c past) (change_if q.time (level_on c q.given)) (earlier_more q.time s.time (levels_given c past) r.0 (levels_earlier c q past r.1)) (one_earlier q.time s.time (level_on c q.given) r.0)

rising_rest : (s : Stamp) (past : List Stamp) → IsRising (s ∷ past) → IsRising past
rising_rest s [] r = tt
rising_rest s (q ∷ past) r = r.1

pub levels_rise : (c : Channel) (stamps : List Stamp) → IsRising stamps → Rise (levels_given c stamps)
levels_rise c [] r = tt
levels_rise c (s ∷ past) r = rise_push_if s.time (level_on c s.given) (levels_given c past) (levels_rise c past (rising_rest s past r)) (levels_earlier c s past r)

-- a level is given by a stamp
abbrev GivenBy : Channel → List Stamp → ℤ → Bool → Type 0
GivenBy c stamps t l = (s : Stamp) × (Contains stamps s × ((s.time ≡ t) × (level_on c s.given ≡ Some l)))

in_one : (t : ℤ) (o : Option Bool) (d : Change) → Contains (change_if t o) d → (t ≡ d.time) × (o ≡ Some d.level)
in_one t None d h = absurd (none_in d h)
in_one t (Some l) d h = by (contains_cases d (record { time = t; level = l }) [] h)
  where
    by : (record { time = t; level = l } ≡ d) ⊎ Contains [] d → (t ≡ d.time) × (Some l ≡ Some d.level)
    by (inl e) = (ap (λ (v : Change). v.time) e, ap (λ (v : Change). Some v.level) e)
    by (inr k) = absurd (none_in d k)

given_of : (c : Channel) (stamps : List Stamp) (d : Change) → Contains (levels_given c stamps) d → GivenBy c stamps d.time d.level
given_of c [] d h = absurd (none_in d h)
given_of c (s ∷ past) d h = by (Contains-append_cases (levels_given c past) (change_if s.time (level_on c s.given)) d h) (given_of c past d)
  where
    by : Contains (levels_given c past) d ⊎ Contains (change_if s.time (level_on c s.given)) d → (Contains (levels_given c past) d → GivenBy c past d.time d.level) → GivenBy c (s ∷ past) d.time d.level
    by (inl k) more = let m = more k in (m.0, (contains_more m.0 s past m.1.0, m.1.1))
    by (inr k) more = let o = in_one s.time (level_on c s.given) d k in (s, (contains_here s past, (o.0, o.1)))

to_given : (c : Channel) (stamps : List Stamp) (d : Change) (s : Stamp) → Contains stamps s → s.time ≡ d.time → level_on c s.given ≡ Some d.level → Contains (levels_given c stamps) d
to_given c [] d s h e f = absurd (none_in s h)
to_given c (r ∷ past) d s h e f = by (contains_cases s r past h) (λ k. to_given c past d s k e f)
  where
    by : (r ≡ s) ⊎ Contains past s → (Contains past s → Contains (levels_given c past) d) → Contains (levels_given c (r ∷ past)) d
    by (inl k) more =
        let one : change_if r.time (level_on c r.given) ≡ d ∷ [] = ap (λ (q : Stamp). change_if q.time (level_on c q.given)) k ∙ ap (λ o. change_if s.time o) f ∙ ap (λ t. change_if t (Some d.level)) e in
        Contains-append_right (levels_given c past) (change_if r.time (level_on c r.given)) d (subst (λ l. Contains l d) (sym one) (contains_here d []))
    by (inr k) more = Contains-append_left (levels_given c past) (change_if r.time (level_on c r.given)) d (more k)

-- ---- a channel's edges in the files are its edges

abbrev first_change : List Edge → Change
first_change es = record { time = pos 0; level = first_level es }

abbrev change : ℤ → Bool → Change
change t l = record { time = t; level = l }

same_change : (t u : ℤ) (l m : Bool) → t ≡ u → l ≡ m → change t l ≡ change u m
same_change t u l m e f = ap (λ v. change v l) e ∙ ap (change u) f

members : (c : Channel) (watch : Watch) (is : List Instant) (stamps : List Stamp) (keep : Keep) → AreStamps watch is stamps → keep_on c watch ≡ Some keep
    → (d : Change) → Contains (levels_given c stamps) d ↔ Contains (first_change (edges_on c is) ∷ changes_of keep (edges_on c is)) d
members c watch is stamps keep a k d = (to, from)
  where
    listed : IsGivenOn (Some keep) (edges_on c is) d.time d.level → Contains (first_change (edges_on c is) ∷ changes_of keep (edges_on c is)) d
    listed (inl e) = subst (Contains (first_change (edges_on c is) ∷ changes_of keep (edges_on c is))) (same_change (pos 0) d.time (first_level (edges_on c is)) d.level (sym e.0) (sym e.1)) (contains_here (first_change (edges_on c is)) (changes_of keep (edges_on c is)))
    listed (inr h) = contains_more d (first_change (edges_on c is)) (changes_of keep (edges_on c is)) h

    to : Contains (levels_given c stamps) d → Contains (first_change (edges_on c is) ∷ changes_of keep (edges_on c is)) d
    to h = listed (subst (λ o. IsGivenOn o (edges_on c is) d.time d.level) k ((a.given c d.time d.level).0 (given_of c stamps d h)))

    unlisted : (first_change (edges_on c is) ≡ d) ⊎ Contains (changes_of keep (edges_on c is)) d → IsGivenOn (Some keep) (edges_on c is) d.time d.level
    unlisted (inl e) = inl (ap (λ (v : Change). v.time) (sym e), ap (λ (v : Change). v.level) (sym e))
    unlisted (inr h) = inr h

    from : Contains (first_change (edges_on c is) ∷ changes_of keep (edges_on c is)) d → Contains (levels_given c stamps) d
    from h =
        let g = (a.given c d.time d.level).1 (subst (λ o. IsGivenOn o (edges_on c is) d.time d.level) (sym k) (unlisted (contains_cases d (first_change (edges_on c is)) (changes_of keep (edges_on c is)) h))) in
        to_given c stamps d g.0 g.1.0 g.1.1.0 g.1.1.1

-- the edges that a reader finds of a watched channel are those of the instants
pub edges_read : (c : Channel) (watch : Watch) (is : List Instant) (stamps : List Stamp) (keep : Keep) → AreStamps watch is stamps → keep_on c watch ≡ Some keep → AreInTurn keep (edges_on c is) → AreApart (pos 0) (edges_on c is)
    → edges_on c (instants_of watch stamps) ≡ edges_on c is
edges_read c watch is stamps keep a k turn apart =
    let es = edges_on c is in
    let all : levels_given c stamps ≡ first_change es ∷ changes_of keep es =
    same_changes (levels_given c stamps) (first_change es ∷ changes_of keep es) (levels_rise c stamps a.rise) (changes_rise keep (pos 0) es (zero_refl) apart) (members c watch is stamps keep a k) in
    edges_of_stamps c watch stamps ∙ ap (λ o. edges_along o None (levels_given c stamps)) k ∙ ap (edges_along (Some keep) None) all ∙ along_first keep (first_change es) (changes_of keep es) ∙ kept_are_edges keep es turn
  where
    zero_refl : pos 0 ≤ℤ pos 0
    zero_refl = omega (arith, ints)

-- and of an unwatched one none
pub none_read : (c : Channel) (watch : Watch) (stamps : List Stamp) → keep_on c watch ≡ None → edges_on c (instants_of watch stamps) ≡ []
none_read c watch stamps k = edges_of_stamps c watch stamps ∙ ap (λ o. edges_along o None (levels_given c stamps)) k ∙ along_none None (levels_given c stamps)
