-- Rising instants are determined by the edges of each channel.
use Rattle.std.proofs.Common.{◌≡◌, ℕ, suc, ◌+◌, ◌||◌, Bool, false, List, [], ◌∷◌, refl, sym, ◌∙◌, ap, subst, arith, ℤ, ◌<ℤ◌, ◌≤ℤ◌}
use Rattle.std.proofs.lemmas.Int.{ints}
use Rattle.std.specs.Prelude.{Option, Some, None, ⊤, IsTrue, is_some, slice_index_or}
use Rattle.std.specs.List.{AllByRecursion}
use Rattle.wheel_types.specs.declared.channel.Pol.{Pol}
use Rattle.wheel_types.specs.declared.channel.Channel.{Channel}
use Rattle.wheel_types.specs.declared.channel.Channel.TheVariants.{Crank, Cam1, Cam2}
use Rattle.wheel_types.specs.declared.instant.Instant.{Instant}
use Rattle.wheel_types.specs.Verdicts.{IsRising}
use Rattle.capture_core.specs.Changes.{edge_on}
use Rattle.capture_core.specs.Stamps.{instant_if}
use Rattle.capture_core.proofs.Instants.{instant_if-some}
use Rattle.stimulus_files.specs.Changes.{Edge, with_edge, edges_on}

-- ---- each instant is before those after it

abbrev pub Rises : List Instant → Type 0
Rises [] = ⊤
Rises (i ∷ is) = AllByRecursion (λ (j : Instant). i.time <ℤ j.time) is × Rises is

through : (a b c : ℤ) → a <ℤ b → b <ℤ c → a <ℤ c
through a b c h k = omega (arith, ints)

rising_after : (x : Instant) (is : List Instant) → IsRising (x ∷ is) → IsRising is
rising_after x is r k d h =
    let P : ℕ → ℕ → Type 0 = λ m n. (slice_index_or (x ∷ is) m d).time <ℤ (slice_index_or (x ∷ is) n d).time in
    let there : P (k + 1) (k + 1 + 1) = r (k + 1) d (omega (arith, h)) in
    let left : k + 1 ≡ suc k = omega arith in
    let right : k + 1 + 1 ≡ suc (k + 1) = omega arith in
    subst (λ n. P (suc k) n) right (subst (λ m. P m (k + 1 + 1)) left there)

later_all : (x y : Instant) (is : List Instant) → x.time <ℤ y.time → AllByRecursion (λ (j : Instant). y.time <ℤ j.time) is → AllByRecursion (λ (j : Instant). x.time <ℤ j.time) is
later_all x y [] h l = tt
later_all x y (i ∷ is) h l = (through x.time y.time i.time h l.0, later_all x y is h l.1)

pub rises : (is : List Instant) → IsRising is → Rises is
rises [] r = tt
rises (x ∷ []) r = (tt, tt)
rises (x ∷ y ∷ is) r =
    let next : x.time <ℤ y.time = r 0 x (omega arith) in
    let rest = rises (y ∷ is) (rising_after x (y ∷ is) r) in
    ((next, later_all x y is next rest.0), rest)

-- ---- an instant has an edge

no_edges : (b : Bool) → b ≡ false → IsTrue b → ⊥
no_edges b e h = cc

some_edge : (i : Instant) (a b d : Option Pol) → i.crank ≡ a → i.cam1 ≡ b → i.cam2 ≡ d → (c : Channel) × ((p : Pol) × (edge_on c i ≡ Some p))
some_edge i (Some a) b d e f g = (Crank, (a, e))
some_edge i None (Some b) d e f g = (Cam1, (b, f))
some_edge i None None (Some d) e f g = (Cam2, (d, g))
some_edge i None None None e f g = absurd (no_edges (is_some i.crank || (is_some i.cam1 || is_some i.cam2)) (ap (λ o. is_some o || (is_some i.cam1 || is_some i.cam2)) e ∙ ap (λ o. is_some o || is_some i.cam2) f ∙ ap is_some g) i.some_edge)

pub edge_of : (i : Instant) → (c : Channel) × ((p : Pol) × (edge_on c i ≡ Some p))
edge_of i = some_edge i i.crank i.cam1 i.cam2 refl refl refl

abbrev edge : ℤ → Pol → Edge
edge t p = record { time = t; polarity = p }

pub with_head : (c : Channel) (i : Instant) (is : List Instant) (p : Pol) → edge_on c i ≡ Some p → edges_on c (i ∷ is) ≡ edge i.time p ∷ edges_on c is
with_head c i is p e = ap (λ o. with_edge i.time o (edges_on c is)) e

without_head : (c : Channel) (i : Instant) (is : List Instant) → edge_on c i ≡ None → edges_on c (i ∷ is) ≡ edges_on c is
without_head c i is e = ap (λ o. with_edge i.time o (edges_on c is)) e

first_time : List Edge → ℤ → ℤ
first_time [] t = t
first_time (e ∷ es) t = e.time

none_is_some : {X : Type 0} (x : X) (xs : List X) → [] ≡ x ∷ xs → ⊥
none_is_some x xs e = cc

same_time : (t u : ℤ) (p q : Pol) (es fs : List Edge) → edge t p ∷ es ≡ edge u q ∷ fs → t ≡ u
same_time t u p q es fs e = let f : edge t p ≡ edge u q = cc in ap (λ (v : Edge). v.time) f

same_pol : (t u : ℤ) (p q : Pol) (es fs : List Edge) → edge t p ∷ es ≡ edge u q ∷ fs → p ≡ q
same_pol t u p q es fs e = let f : edge t p ≡ edge u q = cc in ap (λ (v : Edge). v.polarity) f

same_rest : (t u : ℤ) (p q : Pol) (es fs : List Edge) → edge t p ∷ es ≡ edge u q ∷ fs → es ≡ fs
same_rest t u p q es fs e = cc

-- the first edge of later instants is later
first_later : (c : Channel) (t u : ℤ) (p : Pol) (is : List Instant) (es : List Edge) → AllByRecursion (λ (j : Instant). t <ℤ j.time) is → edges_on c is ≡ edge u p ∷ es → t <ℤ u
first_later c t u p [] es l e = absurd (none_is_some (edge u p) es e)
first_later c t u p (i ∷ is) es l e = by (edge_on c i) refl (first_later c t u p is es l.1)
  where
    by : (o : Option Pol) → edge_on c i ≡ o → (edges_on c is ≡ edge u p ∷ es → t <ℤ u) → t <ℤ u
    by None f more = more (sym (without_head c i is f) ∙ e)
    by (Some q) f more = subst (λ z. t <ℤ z) (same_time i.time u q p (edges_on c is) es (sym (with_head c i is q f) ∙ e)) l.0

-- the time of a first edge is that of the first instant, or later
first_or_later : (c : Channel) (u : ℤ) (p : Pol) (j : Instant) (js : List Instant) (es : List Edge) → AllByRecursion (λ (k : Instant). j.time <ℤ k.time) js → edges_on c (j ∷ js) ≡ edge u p ∷ es → j.time ≤ℤ u
first_or_later c u p j js es l e = by (edge_on c j) refl
  where
    weak : (a b : ℤ) → a <ℤ b → a ≤ℤ b
    weak a b h = omega (arith, ints)

    at : (a b : ℤ) → a ≡ b → a ≤ℤ b
    at a b e = omega (arith, ints, e)

    by : (o : Option Pol) → edge_on c j ≡ o → j.time ≤ℤ u
    by None f = weak j.time u (first_later c j.time u p js es l (sym (without_head c j js f) ∙ e))
    by (Some q) f = at j.time u (same_time j.time u q p (edges_on c js) es (sym (with_head c j js q f) ∙ e))

anti : (a b : ℤ) → a ≤ℤ b → b ≤ℤ a → a ≡ b
anti a b h k = omega (arith, ints, h, k)

not_itself : (a b : ℤ) → a ≡ b → b <ℤ a → ⊥
not_itself a b e h = absurd (omega (arith, ints, e, h))

-- where two begin at one time, a channel has the same edge in both, and the same after it
one_channel : (c : Channel) (i j : Instant) (is js : List Instant) (o q : Option Pol) → i.time ≡ j.time → AllByRecursion (λ (k : Instant). i.time <ℤ k.time) is → AllByRecursion (λ (k : Instant). j.time <ℤ k.time) js
    → edge_on c i ≡ o → edge_on c j ≡ q → edges_on c (i ∷ is) ≡ edges_on c (j ∷ js) → (o ≡ q) × (edges_on c is ≡ edges_on c js)
one_channel c i j is js None None e l m f g h = (refl, sym (without_head c i is f) ∙ h ∙ without_head c j js g)
one_channel c i j is js (Some p) (Some q) e l m f g h =
    let all = sym (with_head c i is p f) ∙ h ∙ with_head c j js q g in
    (ap (λ r. Some r) (same_pol i.time j.time p q (edges_on c is) (edges_on c js) all), same_rest i.time j.time p q (edges_on c is) (edges_on c js) all)
one_channel c i j is js (Some p) None e l m f g h = absurd (not_itself i.time j.time e (first_later c j.time i.time p js (edges_on c is) m (sym (without_head c j js g) ∙ sym h ∙ with_head c i is p f)))
one_channel c i j is js None (Some q) e l m f g h = absurd (not_itself j.time i.time (sym e) (first_later c i.time j.time q is (edges_on c js) l (sym (without_head c i is f) ∙ h ∙ with_head c j js q g)))

abbrev unsome : Instant → Option Instant → Instant
unsome d None = d
unsome d (Some i) = i

same_fields : (i j : Instant) → i.time ≡ j.time → i.crank ≡ j.crank → i.cam1 ≡ j.cam1 → i.cam2 ≡ j.cam2 → i ≡ j
same_fields i j e f g h =
    let a : Some i ≡ instant_if i.time i.crank i.cam1 i.cam2 = instant_if-some i.time i.crank i.cam1 i.cam2 i.some_edge in
    let b : Some j ≡ instant_if j.time j.crank j.cam1 j.cam2 = instant_if-some j.time j.crank j.cam1 j.cam2 j.some_edge in
    let m : instant_if i.time i.crank i.cam1 i.cam2 ≡ instant_if j.time j.crank j.cam1 j.cam2 =
    ap (λ t. instant_if t i.crank i.cam1 i.cam2) e ∙ ap (λ o. instant_if j.time o i.cam1 i.cam2) f ∙ ap (λ o. instant_if j.time j.crank o i.cam2) g ∙ ap (instant_if j.time j.crank j.cam1) h in
    ap (unsome i) (a ∙ m ∙ sym b)

-- two rising lists with the same edges on each channel are one
pub same_instants : (is js : List Instant) → Rises is → Rises js → ((c : Channel) → edges_on c is ≡ edges_on c js) → is ≡ js
same_instants [] [] r q h = refl
same_instants [] (j ∷ js) r q h = let e = edge_of j in absurd (none_is_some (edge j.time e.1.0) (edges_on e.0 js) (h e.0 ∙ with_head e.0 j js e.1.0 e.1.1))
same_instants (i ∷ is) [] r q h = let e = edge_of i in absurd (none_is_some (edge i.time e.1.0) (edges_on e.0 is) (sym (h e.0) ∙ with_head e.0 i is e.1.0 e.1.1))
same_instants (i ∷ is) (j ∷ js) r q h =
    let a = edge_of i in
    let b = edge_of j in
    let low : j.time ≤ℤ i.time = first_or_later a.0 i.time a.1.0 j js (edges_on a.0 is) q.0 (sym (h a.0) ∙ with_head a.0 i is a.1.0 a.1.1) in
    let high : i.time ≤ℤ j.time = first_or_later b.0 j.time b.1.0 i is (edges_on b.0 js) r.0 (h b.0 ∙ with_head b.0 j js b.1.0 b.1.1) in
    let time : i.time ≡ j.time = anti i.time j.time high low in
    let each : (c : Channel) → (edge_on c i ≡ edge_on c j) × (edges_on c is ≡ edges_on c js) = λ c. one_channel c i j is js (edge_on c i) (edge_on c j) time r.0 q.0 refl refl (h c) in
    let head : i ≡ j = same_fields i j time (each Crank).0 (each Cam1).0 (each Cam2).0 in
    let rest : is ≡ js = same_instants is js r.1 q.1 (λ c. (each c).1) in
    ap (λ (k : Instant). k ∷ is) head ∙ ap (λ (l : List Instant). j ∷ l) rest
