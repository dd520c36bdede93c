-- The changes of all channels, merged stamp by stamp, are the stamps of the files.
use Rattle.std.proofs.Common.{◌≡◌, ◌≢◌, ◌⊎◌, inl, inr, ◌↔◌, ◌<◌, ◌≤◌, Bool, true, false, cond, List, [], ◌∷◌, length, refl, sym, ◌∙◌, ap}
use Rattle.std.proofs.Common.{subst, arith}
use Rattle.std.specs.Prelude.{Option, Some, None, ⊤, Contains, ℤ, pos, ◌<ℤ◌, ◌≤ℤ◌, int_lt}
use Rattle.std.proofs.lemmas.Int.{ints}
use Rattle.wheel_types.specs.declared.channel.Keep.{Keep}
use Rattle.wheel_types.specs.declared.channel.Channel.{Channel}
use Rattle.wheel_types.specs.declared.channel.Channel.TheVariants.{Crank, Cam1, Cam2}
use Rattle.wheel_types.specs.declared.instant.Instant.{Instant}
use Rattle.capture_core.specs.declared.capture.Given.{Given}
use Rattle.capture_core.specs.declared.capture.Stamp.{Stamp}
use Rattle.capture_core.specs.declared.capture.Watch.{Watch}
use Rattle.capture_core.specs.Changes.{keep_on, level_on}
use Rattle.stimulus_files.specs.declared.merge.Merge.{Merge}
use Rattle.stimulus_files.specs.Changes.{Edge, edges_on, Change, first_level, GivesSome, IsGivenOn, AreStamps}
use Rattle.stimulus_files.specs.Written.{RiseFrom, AreSmall}
use Rattle.stimulus_files.specs.Tracks.{changes_if, level_if, first_time, IsTaken}
use Rattle.stimulus_files.specs.Merges.{earlier, left_on, left_count, IsGivenBy, Stands}
use Rattle.stimulus_files.proofs.AlongStamps.{contains_here, contains_more, contains_cases, none_in}

abbrev change : ℤ → Bool → Change
change t l = record { time = t; level = l }

abbrev stamp : ℤ → Given → Stamp
stamp t g = record { time = t; given = g }

none_is_some : {X : Type 0} (x : X) → None ≡ Some x → ⊥
none_is_some x e = cc

some_is : {X : Type 0} (x y : X) → Some x ≡ Some y → x ≡ y
some_is x y e = cc

nil_is_cons : {X : Type 0} (x : X) (xs : List X) → [] ≡ x ∷ xs → ⊥
nil_is_cons x xs e = cc

-- ---- the least of three times

-- no change comes before this time
abbrev pub NoneBefore : ℤ → Option ℤ → Type 0
NoneBefore t None = ⊤
NoneBefore t (Some u) = t ≤ℤ u

not_after : (a b : ℤ) → int_lt a b ≡ true → a ≤ℤ b
not_after a b e = grind (arith, ints)

not_before : (a b : ℤ) → int_lt a b ≡ false → b ≤ℤ a
not_before a b e = grind (arith, ints)

itself : (a b : ℤ) → a ≡ b → b ≤ℤ a
itself a b e = omega (arith, ints, e)

along : (a b c : ℤ) → a ≤ℤ b → b ≤ℤ c → a ≤ℤ c
along a b c h k = omega (arith, ints, h, k)

-- what the earlier of two times is
record IsEarlier (t : ℤ) (o p : Option ℤ) : Type 0 where
  pub one : (o ≡ Some t) ⊎ (p ≡ Some t)
  pub first : NoneBefore t o
  pub second : NoneBefore t p

is_earlier : (t : ℤ) (o p : Option ℤ) → earlier o p ≡ Some t → IsEarlier t o p
is_earlier t None None e = absurd (none_is_some t e)
is_earlier t None (Some u) e = record { one = inr e; first = tt; second = itself u t (some_is u t e) }
is_earlier t (Some u) None e = record { one = inl e; first = itself u t (some_is u t e); second = tt }
is_earlier t (Some u) (Some v) e = by (int_lt u v) refl
  where
    by : (b : Bool) → int_lt u v ≡ b → IsEarlier t (Some u) (Some v)
    by true f =
        let g : u ≡ t = some_is u t (sym (ap (λ b. Some (cond b u v)) f) ∙ e) in
        record { one = inl (ap (λ x. Some x) g); first = itself u t g; second = along t u v (itself u t g) (not_after u v f) }
    by false f =
        let g : v ≡ t = some_is v t (sym (ap (λ b. Some (cond b u v)) f) ∙ e) in
        record { one = inr (ap (λ x. Some x) g); first = along t v u (itself v t g) (not_before u v f); second = itself v t g }

-- a time before those of the earlier is before both
before_both : (t : ℤ) (o p : Option ℤ) → NoneBefore t (earlier o p) → NoneBefore t o × NoneBefore t p
before_both t None p h = (tt, h)
before_both t (Some u) None h = (h, tt)
before_both t (Some u) (Some v) h = by (int_lt u v) refl
  where
    by : (b : Bool) → int_lt u v ≡ b → NoneBefore t (Some u) × NoneBefore t (Some v)
    by true f =
        let g : t ≤ℤ u = subst (λ b. t ≤ℤ cond b u v) f h in
        (g, along t u v g (not_after u v f))
    by false f =
        let g : t ≤ℤ v = subst (λ b. t ≤ℤ cond b u v) f h in
        (along t v u g (not_before u v f), g)

neither : (o p : Option ℤ) → earlier o p ≡ None → (o ≡ None) × (p ≡ None)
neither None p e = (refl, e)
neither (Some u) None e = absurd (none_is_some u (sym e))
neither (Some u) (Some v) e = absurd (none_is_some (cond (int_lt u v) u v) (sym e))

abbrev time_on : Channel → List Instant → Merge → Option ℤ
time_on c is m = first_time (left_on c is m)

-- the time of the next stamp
abbrev pub next_time : List Instant → Merge → Option ℤ
next_time is m = earlier (time_on Crank is m) (earlier (time_on Cam1 is m) (time_on Cam2 is m))

record IsNext (is : List Instant) (m : Merge) (t : ℤ) : Type 0 where
  pub channel : Channel
  pub there : time_on channel is m ≡ Some t
  pub least : (c : Channel) → NoneBefore t (time_on c is m)

is_next : (is : List Instant) (m : Merge) (t : ℤ) → next_time is m ≡ Some t → IsNext is m t
is_next is m t e = by h.one
  where
    a : Option ℤ
    a = time_on Crank is m

    b : Option ℤ
    b = time_on Cam1 is m

    d : Option ℤ
    d = time_on Cam2 is m

    h : IsEarlier t (time_on Crank is m) (earlier (time_on Cam1 is m) (time_on Cam2 is m))
    h = is_earlier t _ _ e

    rest : NoneBefore t (time_on Cam1 is m) × NoneBefore t (time_on Cam2 is m)
    rest = before_both t _ _ h.second

    least : (c : Channel) → NoneBefore t (time_on c is m)
    least Crank = h.first
    least Cam1 = rest.0
    least Cam2 = rest.1

    of_two : IsEarlier t (time_on Cam1 is m) (time_on Cam2 is m) → IsNext is m t
    of_two k = which k.one
      where
        which : (time_on Cam1 is m ≡ Some t) ⊎ (time_on Cam2 is m ≡ Some t) → IsNext is m t
        which (inl f) = record { channel = Cam1; there = f; least = least }
        which (inr f) = record { channel = Cam2; there = f; least = least }

    by : (time_on Crank is m ≡ Some t) ⊎ (earlier (time_on Cam1 is m) (time_on Cam2 is m) ≡ Some t) → IsNext is m t
    by (inl f) = record { channel = Crank; there = f; least = least }
    by (inr f) = of_two (is_earlier t _ _ f)

-- ---- one channel

-- the changes that are left come later than the stamp
left_later : (t u : ℤ) (before : List Change) (o : Option Bool) (after : List Change) → RiseFrom t before → IsTaken u before o after
    → NoneBefore u (first_time before) → RiseFrom u after
left_later t u before (Some l) after r h n = (subst (RiseFrom t) h r).1
left_later t u before None after r h n = subst (RiseFrom u) h.0 (later before r h.1 n)
  where
    strict : (a b : ℤ) → a ≤ℤ b → (b ≡ a → ⊥) → a <ℤ b
    strict a b h k = elim (apart a b h) [ inl l ↦ l | inr e ↦ absurd (k e) ]
      where
        apart : (a b : ℤ) → a ≤ℤ b → (a <ℤ b) ⊎ (b ≡ a)
        apart a b h = by (int_lt a b) refl
          where
            by : (c : Bool) → int_lt a b ≡ c → (a <ℤ b) ⊎ (b ≡ a)
            by true e = inl (grind (arith, ints))
            by false e = inr (anti (not_before a b e))
              where
                anti : b ≤ℤ a → b ≡ a
                anti k = omega (arith, ints, h, k)

    later : (ds : List Change) → RiseFrom t ds → first_time ds ≢ Some u → NoneBefore u (first_time ds) → RiseFrom u ds
    later [] r k n = tt
    later (d ∷ ds) r k n = (strict u d.time n (λ e. k (ap (λ x. Some x) e)), r.1)

-- the time of a change that is first
first_rises : (t u : ℤ) (ds : List Change) → RiseFrom t ds → first_time ds ≡ Some u → t <ℤ u
first_rises t u [] r e = absurd (none_is_some u e)
first_rises t u (d ∷ ds) r e = subst (λ x. t <ℤ x) (some_is d.time u e) r.0

-- a level is given where a change is of the time
level_there : (u : ℤ) (before : List Change) (o : Option Bool) (after : List Change) → IsTaken u before o after
    → first_time before ≡ Some u → (l : Bool) × (o ≡ Some l)
level_there u before None after h e = absurd (h.1 e)
level_there u before (Some l) after h e = (l, refl)

-- what stamps give and what is left are the same after one more stamp
same_given : (c : Channel) (s : Stamp) (past : List Stamp) (u : ℤ) (given : Given) (before after : List Change) (t : ℤ) (l : Bool)
    → IsTaken u before (level_on c given) after
    → (IsGivenBy c (stamp u given ∷ s ∷ past) t l ⊎ Contains after (change t l))
    ↔ (IsGivenBy c (s ∷ past) t l ⊎ Contains before (change t l))
same_given c s past u given before after t l = by (level_on c given) refl
  where
    Both : Option Bool → Type 0
    Both o = IsTaken u before o after → (IsGivenBy c (stamp u given ∷ s ∷ past) t l ⊎ Contains after (change t l))
        ↔ (IsGivenBy c (s ∷ past) t l ⊎ Contains before (change t l))

    older : IsGivenBy c (s ∷ past) t l → IsGivenBy c (stamp u given ∷ s ∷ past) t l
    older g = (g.0, (contains_more g.0 (stamp u given) (s ∷ past) g.1.0, g.1.1))

    -- a stamp with the level is the new one or an old one
    which : (o : Option Bool) → level_on c given ≡ o → IsGivenBy c (stamp u given ∷ s ∷ past) t l
        → ((u ≡ t) × (o ≡ Some l)) ⊎ IsGivenBy c (s ∷ past) t l
    which o e g = of (contains_cases g.0 (stamp u given) (s ∷ past) g.1.0)
      where
        of : (stamp u given ≡ g.0) ⊎ Contains (s ∷ past) g.0 → ((u ≡ t) × (o ≡ Some l)) ⊎ IsGivenBy c (s ∷ past) t l
        of (inl k) = inl (ap (λ (r : Stamp). r.time) k ∙ g.1.1.0, sym e ∙ ap (λ (r : Stamp). level_on c r.given) k ∙ g.1.1.1)
        of (inr k) = inr (g.0, (k, g.1.1))

    by : (o : Option Bool) → level_on c given ≡ o → Both o
    by None e h = (to, from)
      where
        to : IsGivenBy c (stamp u given ∷ s ∷ past) t l ⊎ Contains after (change t l)
            → IsGivenBy c (s ∷ past) t l ⊎ Contains before (change t l)
        to (inr k) = inr (subst (λ ds. Contains ds (change t l)) (sym h.0) k)
        to (inl g) = of (which None e g)
          where
            of : ((u ≡ t) × (None ≡ Some l)) ⊎ IsGivenBy c (s ∷ past) t l → IsGivenBy c (s ∷ past) t l ⊎ Contains before (change t l)
            of (inl k) = absurd (none_is_some l k.1)
            of (inr k) = inl k

        from : IsGivenBy c (s ∷ past) t l ⊎ Contains before (change t l)
            → IsGivenBy c (stamp u given ∷ s ∷ past) t l ⊎ Contains after (change t l)
        from (inl g) = inl (older g)
        from (inr k) = inr (subst (λ ds. Contains ds (change t l)) h.0 k)
    by (Some v) e h = (to, from)
      where
        to : IsGivenBy c (stamp u given ∷ s ∷ past) t l ⊎ Contains after (change t l)
            → IsGivenBy c (s ∷ past) t l ⊎ Contains before (change t l)
        to (inr k) = inr (subst (λ ds. Contains ds (change t l)) (sym h) (contains_more (change t l) (change u v) after k))
        to (inl g) = of (which (Some v) e g)
          where
            of : ((u ≡ t) × (Some v ≡ Some l)) ⊎ IsGivenBy c (s ∷ past) t l → IsGivenBy c (s ∷ past) t l ⊎ Contains before (change t l)
            of (inr k) = inl k
            of (inl k) =
                let same : change u v ≡ change t l = ap (λ x. change x v) k.0 ∙ ap (change t) (some_is v l k.1) in
                inr (subst (λ ds. Contains ds (change t l)) (sym h)
                (subst (Contains (change u v ∷ after)) same (contains_here (change u v) after)))

        from : IsGivenBy c (s ∷ past) t l ⊎ Contains before (change t l)
            → IsGivenBy c (stamp u given ∷ s ∷ past) t l ⊎ Contains after (change t l)
        from (inl g) = inl (older g)
        from (inr k) = of (contains_cases (change t l) (change u v) after (subst (λ ds. Contains ds (change t l)) h k))
          where
            of : (change u v ≡ change t l) ⊎ Contains after (change t l)
                → IsGivenBy c (stamp u given ∷ s ∷ past) t l ⊎ Contains after (change t l)
            of (inr m) = inr m
            of (inl m) =
                inl (
                  stamp u given,
                  (contains_here (stamp u given) (s ∷ past), (ap (λ (d : Change). d.time) m, e ∙ ap (λ (d : Change). Some d.level) m)),
                )

-- ---- all channels

-- one more stamp
pub advanced : (watch : Watch) (is : List Instant) (s : Stamp) (past : List Stamp) (m n : Merge) (u : ℤ) (given : Given)
    → Stands watch is s past m → next_time is m ≡ Some u
    → ((c : Channel) → IsTaken u (left_on c is m) (level_on c given) (left_on c is n)) → Stands watch is (stamp u given) (s ∷ past) n
advanced watch is s past m n u given h e taken =
    let next = is_next is m u e in
    let there = level_there u _ _ _ (taken next.channel) next.there in
    record {
      rise = (first_rises s.time u _ (h.later next.channel) next.there, h.rise);
      some = λ r k. of next.channel r there (contains_cases r (stamp u given) (s ∷ past) k);
      later = λ c. left_later s.time u _ _ _ (h.later c) (taken c) (next.least c);
      given = λ c t l. let a = same_given c s past u given (left_on c is m) (left_on c is n) t l (taken c) in
          (λ k. (h.given c t l).0 (a.0 k), λ k. a.1 ((h.given c t l).1 k));
    }
  where
    of : (c : Channel) (r : Stamp) → (l : Bool) × (level_on c given ≡ Some l) → (stamp u given ≡ r) ⊎ Contains (s ∷ past) r → GivesSome r
    of c r there (inl k) = subst GivesSome k (c, there)
    of c r there (inr k) = h.some r k

-- no change is left
pub ended : (watch : Watch) (is : List Instant) (s : Stamp) (past : List Stamp) (m : Merge) → Stands watch is s past m
    → next_time is m ≡ None → AreStamps watch is (s ∷ past)
ended watch is s past m h e = record {
  rise = h.rise;
  some = h.some;
  given = λ c t l. (λ g. (h.given c t l).0 (inl g), λ g. only c t l ((h.given c t l).1 g));
}
  where
    none : (c : Channel) → time_on c is m ≡ None
    none Crank = (neither _ _ e).0
    none Cam1 = (neither _ _ (neither _ _ e).1).0
    none Cam2 = (neither _ _ (neither _ _ e).1).1

    empty : (ds : List Change) (d : Change) → first_time ds ≡ None → Contains ds d → ⊥
    empty [] d e k = none_in d k
    empty (x ∷ ds) d e k = none_is_some x.time (sym e)

    only : (c : Channel) (t : ℤ) (l : Bool) → IsGivenBy c (s ∷ past) t l ⊎ Contains (left_on c is m) (change t l)
        → IsGivenBy c (s ∷ past) t l
    only c t l (inl g) = g
    only c t l (inr k) = absurd (empty (left_on c is m) (change t l) (none c) k)

-- before the first change
pub opened : (watch : Watch) (is : List Instant) (given : Given) (m : Merge) → AreSmall watch is
    → ((c : Channel) → level_on c given ≡ level_if (keep_on c watch) (edges_on c is))
    → ((c : Channel) → left_on c is m ≡ changes_if (keep_on c watch) (edges_on c is)) → Stands watch is (stamp (pos 0) given) [] m
opened watch is given m small levels lefts = record {
  rise = tt;
  some = λ r k. subst GivesSome (one r k) (Crank, (first_level (edges_on Crank is), levels Crank));
  later = λ c. subst (RiseFrom (pos 0)) (sym (lefts c)) (rises c (keep_on c watch) refl);
  given = λ c t l. (to c t l, from c t l);
}
  where
    s : Stamp
    s = stamp (pos 0) given

    one : (r : Stamp) → Contains (stamp (pos 0) given ∷ []) r → stamp (pos 0) given ≡ r
    one r k = of (contains_cases r (stamp (pos 0) given) [] k)
      where
        of : (stamp (pos 0) given ≡ r) ⊎ Contains [] r → stamp (pos 0) given ≡ r
        of (inl e) = e
        of (inr e) = absurd (none_in r e)

    rises : (c : Channel) (k : Option Keep) → keep_on c watch ≡ k → RiseFrom (pos 0) (changes_if k (edges_on c is))
    rises c None e = tt
    rises c (Some keep) e = (small c keep e).0

    given_first : (k : Option Keep) (es : List Edge) (t : ℤ) (l : Bool) → pos 0 ≡ t → level_if k es ≡ Some l → IsGivenOn k es t l
    given_first None es t l e f = absurd (none_is_some l f)
    given_first (Some keep) es t l e f = inl (sym e, sym (some_is (first_level es) l f))

    given_later : (k : Option Keep) (es : List Edge) (t : ℤ) (l : Bool) → Contains (changes_if k es) (change t l) → IsGivenOn k es t l
    given_later None es t l h = absurd (none_in (change t l) h)
    given_later (Some keep) es t l h = inr h

    to : (c : Channel) (t : ℤ) (l : Bool) → IsGivenBy c (stamp (pos 0) given ∷ []) t l ⊎ Contains (left_on c is m) (change t l)
        → IsGivenOn (keep_on c watch) (edges_on c is) t l
    to c t l (inl g) =
        let e = one g.0 g.1.0 in
        given_first (keep_on c watch) (edges_on c is) t l (ap (λ (r : Stamp). r.time) e ∙ g.1.1.0)
        (sym (levels c) ∙ ap (λ (r : Stamp). level_on c r.given) e ∙ g.1.1.1)
    to c t l (inr k) = given_later (keep_on c watch) (edges_on c is) t l (subst (λ ds. Contains ds (change t l)) (lefts c) k)

    from : (c : Channel) (t : ℤ) (l : Bool) → IsGivenOn (keep_on c watch) (edges_on c is) t l
        → IsGivenBy c (stamp (pos 0) given ∷ []) t l ⊎ Contains (left_on c is m) (change t l)
    from c t l g = of (keep_on c watch) (levels c) (lefts c) g
      where
        of : (k : Option Keep) → level_on c given ≡ level_if k (edges_on c is) → left_on c is m ≡ changes_if k (edges_on c is)
            → IsGivenOn k (edges_on c is) t l
            → IsGivenBy c (stamp (pos 0) given ∷ []) t l ⊎ Contains (left_on c is m) (change t l)
        of None e f h = absurd h
        of (Some keep) e f (inl h) =
            inl (stamp (pos 0) given, (contains_here (stamp (pos 0) given) [], (sym h.0, e ∙ ap (λ x. Some x) (sym h.1))))
        of (Some keep) e f (inr h) = inr (subst (λ ds. Contains ds (change t l)) (sym f) h)

-- ---- fewer changes are left

no_more : (u : ℤ) (before : List Change) (o : Option Bool) (after : List Change) → IsTaken u before o after → length after ≤ length before
no_more u before None after h = let e : length before ≡ length after = ap length h.0 in omega (arith, e)
no_more u before (Some l) after h = let e : length before ≡ length (change u l ∷ after) = ap length h in omega (arith, e)

one_less : (u : ℤ) (before : List Change) (o : Option Bool) (after : List Change) → IsTaken u before o after → first_time before ≡ Some u
    → length after < length before
one_less u before None after h e = absurd (h.1 e)
one_less u before (Some l) after h e = let f : length before ≡ length (change u l ∷ after) = ap length h in omega (arith, f)

pub fewer : (is : List Instant) (m n : Merge) (u : ℤ) (given : Given) → next_time is m ≡ Some u
    → ((c : Channel) → IsTaken u (left_on c is m) (level_on c given) (left_on c is n)) → left_count is n < left_count is m
fewer is m n u given e taken =
    let next = is_next is m u e in
    by next.channel next.there (no_more u _ _ _ (taken Crank)) (no_more u _ _ _ (taken Cam1)) (no_more u _ _ _ (taken Cam2))
  where
    by : (c : Channel) → time_on c is m ≡ Some u → length (left_on Crank is n) ≤ length (left_on Crank is m)
        → length (left_on Cam1 is n) ≤ length (left_on Cam1 is m)
        → length (left_on Cam2 is n) ≤ length (left_on Cam2 is m) → left_count is n < left_count is m
    by Crank f x y z = let w = one_less u _ _ _ (taken Crank) f in omega (arith, w, y, z)
    by Cam1 f x y z = let w = one_less u _ _ _ (taken Cam1) f in omega (arith, w, x, z)
    by Cam2 f x y z = let w = one_less u _ _ _ (taken Cam2) f in omega (arith, w, x, y)

-- ---- what code tells of each channel

pub told : (a b d x y z r s : Option ℤ) → x ≡ a → y ≡ b → z ≡ d → r ≡ earlier y z → s ≡ earlier x r → s ≡ earlier a (earlier b d)
told a b d x y z r s e f g h k = cc

pub each_taken : (is : List Instant) (m n : Merge) (u : ℤ) (given : Given)
    → IsTaken u (left_on Crank is m) given.crank (left_on Crank is n) → IsTaken u (left_on Cam1 is m) given.cam1 (left_on Cam1 is n)
    → IsTaken u (left_on Cam2 is m) given.cam2 (left_on Cam2 is n) → (c : Channel)
    → IsTaken u (left_on c is m) (level_on c given) (left_on c is n)
each_taken is m n u given a b d Crank = a
each_taken is m n u given a b d Cam1 = b
each_taken is m n u given a b d Cam2 = d

pub each_level : (watch : Watch) (is : List Instant) (given : Given) → given.crank ≡ level_if (Some watch.crank) (edges_on Crank is)
    → given.cam1 ≡ level_if watch.cam1 (edges_on Cam1 is)
    → given.cam2 ≡ level_if watch.cam2 (edges_on Cam2 is) → (c : Channel) → level_on c given ≡ level_if (keep_on c watch) (edges_on c is)
each_level watch is given a b d Crank = a
each_level watch is given a b d Cam1 = b
each_level watch is given a b d Cam2 = d

pub each_left : (watch : Watch) (is : List Instant) (m : Merge) → left_on Crank is m ≡ changes_if (Some watch.crank) (edges_on Crank is)
    → left_on Cam1 is m ≡ changes_if watch.cam1 (edges_on Cam1 is)
    → left_on Cam2 is m ≡ changes_if watch.cam2 (edges_on Cam2 is) → (c : Channel)
    → left_on c is m ≡ changes_if (keep_on c watch) (edges_on c is)
each_left watch is m a b d Crank = a
each_left watch is m a b d Cam1 = b
each_left watch is m a b d Cam2 = d
