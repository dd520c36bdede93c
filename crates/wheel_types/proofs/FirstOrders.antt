-- Of the orders of an instant's edges that work there is a first one, and no second.
use Rattle.std.proofs.Common.{◌≡◌, ℕ, zero, suc, ◌<◌, ◌⊎◌, inl, inr, ◌↔◌, Bool, true, false, IsTrue, List, [], ◌∷◌, reverse, ℤ, refl, sym, ◌∙◌, ap, subst, arith}
use Rattle.std.specs.Prelude.{Contains, Option, Some, None}
use Rattle.std.specs.List.{AllByRecursion}
use Rattle.std.proofs.lemmas.List.{reverse-reverse}
use Rattle.std.proofs.lemmas.List.Elements.{All-from_recursion, All-contains}
use Rattle.wheel_types.specs.declared.channel.Pol.{Pol}
use Rattle.wheel_types.specs.declared.channel.Pol.TheVariants.{Rise, Fall}
use Rattle.wheel_types.specs.declared.channel.Channel.{Channel}
use Rattle.wheel_types.specs.declared.channel.Channel.TheVariants.{Crank, Cam1, Cam2}
use Rattle.wheel_types.specs.declared.instant.Instant.{Instant}
use Rattle.wheel_types.specs.declared.parts.WheelParts.{WheelParts}
use Rattle.wheel_types.specs.Edges.{edge_count, pol_of}
use Rattle.wheel_types.specs.Motions.{Indices, index_of, passed, Event, orders, events_at, events_of}
use Rattle.wheel_types.specs.Steps.{Walks, IsStanding}
use Rattle.wheel_types.specs.Plain.{is_standing}
use Rattle.wheel_types.specs.Named.{rank_of, IsNotAfter, Works, IsFirstOrder}
use Rattle.wheel_types.proofs.Tests.{standing_tested}
use Rattle.wheel_types.proofs.OneStep.{walks_to}

-- ---- whether an order works

standing_by_test : (b : Bool) (S : Type 0) → IsTrue b ↔ S → S ⊎ (S → ⊥)
standing_by_test true S t = inl (t.0 refl)
standing_by_test false S t = inr (λ s. let h : false ≡ true = t.1 s in absurd (cc))

standing_or_not : (w : WheelParts) (ix : Indices) → IsStanding w ix ⊎ (IsStanding w ix → ⊥)
standing_or_not w ix = standing_by_test (is_standing w ix) (IsStanding w ix) (standing_tested w ix)

pol_or_not : (p q : Pol) → (p ≡ q) ⊎ (p ≡ q → ⊥)
pol_or_not Rise Rise = inl refl
pol_or_not Rise Fall = inr (λ e. absurd (cc))
pol_or_not Fall Rise = inr (λ e. absurd (cc))
pol_or_not Fall Fall = inl refl

some_or_not : (n : ℕ) → (0 < n) ⊎ (0 < n → ⊥)
some_or_not zero = inr (λ h. absurd (omega (arith, h)))
some_or_not (suc n) = inl (omega arith)

same_mid : (w : WheelParts) (from : Indices) (es : List Event) (mid other : Indices) → Walks w from es mid → Walks w from es other → other ≡ mid
same_mid w from es mid other h k = walks_to w from es other k ∙ sym (walks_to w from es mid h)

passes_or_not : (w : WheelParts) (from : Indices) (e : Event) (es : List Event) (mid : Indices) → Walks w from es mid → (0 < edge_count w e.channel) ⊎ (0 < edge_count w e.channel → ⊥) → (pol_of w e.channel (index_of mid e.channel) ≡ e.polarity) ⊎ (pol_of w e.channel (index_of mid e.channel) ≡ e.polarity → ⊥) → IsStanding w (passed e.channel mid) ⊎ (IsStanding w (passed e.channel mid) → ⊥) → Works w from (e ∷ es) ⊎ (Works w from (e ∷ es) → ⊥)
passes_or_not w from e es mid walk (inl a) (inl b) (inl c) = inl (passed e.channel mid, (mid, walk, a, b, c, refl))
passes_or_not w from e es mid walk (inr na) b c = inr (λ h. na h.1.2)
passes_or_not w from e es mid walk (inl a) (inr nb) c = inr (λ h. nb (subst (λ (k : Indices). pol_of w e.channel (index_of k e.channel) ≡ e.polarity) (same_mid w from es mid h.1.0 walk h.1.1) h.1.3))
passes_or_not w from e es mid walk (inl a) (inl b) (inr nc) = inr (λ h. nc (subst (IsStanding w) (h.1.5 ∙ ap (passed e.channel) (same_mid w from es mid h.1.0 walk h.1.1)) h.1.4))

more_or_not : (w : WheelParts) (from : Indices) (e : Event) (es : List Event) → Works w from es ⊎ (Works w from es → ⊥) → Works w from (e ∷ es) ⊎ (Works w from (e ∷ es) → ⊥)
more_or_not w from e es (inr fails) = inr (λ h. fails (h.1.0, h.1.1))
more_or_not w from e es (inl m) = passes_or_not w from e es m.0 m.1 (some_or_not (edge_count w e.channel)) (pol_or_not (pol_of w e.channel (index_of m.0 e.channel)) e.polarity) (standing_or_not w (passed e.channel m.0))

pub works_or_not : (w : WheelParts) (from : Indices) (es : List Event) → Works w from es ⊎ (Works w from es → ⊥)
works_or_not w from [] = inl (from, refl)
works_or_not w from (e ∷ es) = more_or_not w from e es (works_or_not w from es)

-- ---- the order of orders

rank_alike : (c d : Channel) → rank_of c ≡ rank_of d → c ≡ d
rank_alike Crank Crank e = refl
rank_alike Crank Cam1 e = absurd (omega (arith, e))
rank_alike Crank Cam2 e = absurd (omega (arith, e))
rank_alike Cam1 Crank e = absurd (omega (arith, e))
rank_alike Cam1 Cam1 e = refl
rank_alike Cam1 Cam2 e = absurd (omega (arith, e))
rank_alike Cam2 Crank e = absurd (omega (arith, e))
rank_alike Cam2 Cam1 e = absurd (omega (arith, e))
rank_alike Cam2 Cam2 e = refl

not_after_itself : (es : List Event) → IsNotAfter es es
not_after_itself [] = tt
not_after_itself (e ∷ es) = inr (refl, not_after_itself es)

three_ways : (a b : ℕ) → (a < b) ⊎ ((a ≡ b) ⊎ (b < a))
three_ways a b = grind arith

either_more : (e f : Event) (es fs : List Event) → (rank_of e.channel < rank_of f.channel) ⊎ ((rank_of e.channel ≡ rank_of f.channel) ⊎ (rank_of f.channel < rank_of e.channel)) → IsNotAfter es fs ⊎ IsNotAfter fs es → IsNotAfter (e ∷ es) (f ∷ fs) ⊎ IsNotAfter (f ∷ fs) (e ∷ es)
either_more e f es fs (inl h) k = inl (inl h)
either_more e f es fs (inr (inl h)) (inl k) = inl (inr (rank_alike e.channel f.channel h, k))
either_more e f es fs (inr (inl h)) (inr k) = inr (inr (sym (rank_alike e.channel f.channel h), k))
either_more e f es fs (inr (inr h)) k = inr (inl h)

either_not_after : (es fs : List Event) → IsNotAfter es fs ⊎ IsNotAfter fs es
either_not_after [] fs = inl tt
either_not_after (e ∷ es) [] = inr tt
either_not_after (e ∷ es) (f ∷ fs) = either_more e f es fs (three_ways (rank_of e.channel) (rank_of f.channel)) (either_not_after es fs)

ranks_through : (a b c : ℕ) → a < b → b < c → a < c
ranks_through a b c h k = omega arith

not_after_through : (es fs gs : List Event) → IsNotAfter es fs → IsNotAfter fs gs → IsNotAfter es gs
not_after_through [] fs gs h k = tt
not_after_through (e ∷ es) [] gs h k = absurd h
not_after_through (e ∷ es) (f ∷ fs) [] h k = absurd k
not_after_through (e ∷ es) (f ∷ fs) (g ∷ gs) (inl h) (inl k) = inl (ranks_through (rank_of e.channel) (rank_of f.channel) (rank_of g.channel) h k)
not_after_through (e ∷ es) (f ∷ fs) (g ∷ gs) (inl h) (inr k) = inl (subst (λ c. rank_of e.channel < rank_of c) k.0 h)
not_after_through (e ∷ es) (f ∷ fs) (g ∷ gs) (inr h) (inl k) = inl (subst (λ c. rank_of c < rank_of g.channel) (sym h.0) k)
not_after_through (e ∷ es) (f ∷ fs) (g ∷ gs) (inr h) (inr k) = inr (h.0 ∙ k.0, not_after_through es fs gs h.1 k.1)

-- ---- the first that works

abbrev NoneWorks : WheelParts → Indices → List (List Event) → Type 0
NoneWorks w from os = AllByRecursion (λ o. Works w from o → ⊥) os

-- no order of the list that works stands before this one
abbrev NoneBefore : WheelParts → Indices → List Event → List (List Event) → Type 0
NoneBefore w from x os = AllByRecursion (λ o. Works w from o → IsNotAfter (reverse x) (reverse o)) os

record FirstAmong (w : WheelParts) (from : Indices) (os : List (List Event)) : Type 0 where
  order : List Event
  among : Contains os order
  works : Works w from order
  first : NoneBefore w from order os

here : {X : Type 0} (x : X) (xs : List X) → Contains (x ∷ xs) x
here x xs = (0, omega arith, refl)

further : {X : Type 0} (y x : X) (xs : List X) → Contains xs x → Contains (y ∷ xs) x
further y x xs c = (suc c.0, omega (arith, c.1), c.2)

before_all : (w : WheelParts) (from : Indices) (x y : List Event) (os : List (List Event)) → IsNotAfter (reverse y) (reverse x) → NoneBefore w from x os → NoneBefore w from y os
before_all w from x y [] h n = tt
before_all w from x y (o ∷ os) h n = (λ k. not_after_through (reverse y) (reverse x) (reverse o) h (n.0 k), before_all w from x y os h n.1)

none_before : (w : WheelParts) (from : Indices) (y : List Event) (os : List (List Event)) → NoneWorks w from os → NoneBefore w from y os
none_before w from y [] n = tt
none_before w from y (o ∷ os) n = (λ k. absurd (n.0 k), none_before w from y os n.1)

nearer : (w : WheelParts) (from : Indices) (o : List Event) (os : List (List Event)) (f : FirstAmong w from os) → Works w from o → IsNotAfter (reverse f.order) (reverse o) ⊎ IsNotAfter (reverse o) (reverse f.order) → FirstAmong w from (o ∷ os)
nearer w from o os f k (inl h) = record { order = f.order; among = further o f.order os f.among; works = f.works; first = (λ _. h, f.first) }
nearer w from o os f k (inr h) = record { order = o; among = here o os; works = k; first = (λ _. not_after_itself (reverse o), before_all w from f.order o os h f.first) }

one_more : (w : WheelParts) (from : Indices) (o : List Event) (os : List (List Event)) → Works w from o ⊎ (Works w from o → ⊥) → NoneWorks w from os ⊎ FirstAmong w from os → NoneWorks w from (o ∷ os) ⊎ FirstAmong w from (o ∷ os)
one_more w from o os (inl k) (inl n) = inr (record { order = o; among = here o os; works = k; first = (λ _. not_after_itself (reverse o), none_before w from o os n) })
one_more w from o os (inr fails) (inl n) = inl (fails, n)
one_more w from o os (inl k) (inr f) = inr (nearer w from o os f k (either_not_after (reverse f.order) (reverse o)))
one_more w from o os (inr fails) (inr f) = inr (record { order = f.order; among = further o f.order os f.among; works = f.works; first = (λ k. absurd (fails k), f.first) })

first_among : (w : WheelParts) (from : Indices) (os : List (List Event)) → NoneWorks w from os ⊎ FirstAmong w from os
first_among w from [] = inl tt
first_among w from (o ∷ os) = one_more w from o os (works_or_not w from o) (first_among w from os)

by_first : (w : WheelParts) (from : Indices) (i : Instant) (order : List Event) → Contains (orders (events_of i)) order → Works w from order → NoneWorks w from (orders (events_of i)) ⊎ FirstAmong w from (orders (events_of i)) → (first : List Event) × IsFirstOrder w from i first
by_first w from i order c k (inl n) = absurd (All-contains (λ o. Works w from o → ⊥) (orders (events_of i)) order (All-from_recursion (λ o. Works w from o → ⊥) (orders (events_of i)) n) c k)
by_first w from i order c k (inr f) = (
  f.order,
  record {
    is_order = f.among;
    works = f.works;
    first = λ other d h. All-contains (λ o. Works w from o → IsNotAfter (reverse f.order) (reverse o)) (orders (events_of i)) other (All-from_recursion (λ o. Works w from o → IsNotAfter (reverse f.order) (reverse o)) (orders (events_of i)) f.first) d h;
  },
)

-- where an order works there is a first that does
pub first_order : (w : WheelParts) (from : Indices) (i : Instant) (order : List Event) → Contains (orders (events_of i)) order → Works w from order → (first : List Event) × IsFirstOrder w from i first
first_order w from i order c k = by_first w from i order c k (first_among w from (orders (events_of i)))

-- ---- and no second

abbrev pol_in : Option Pol → Pol
pol_in None = Rise
pol_in (Some p) = p

-- the edge of a channel in an instant that has one
abbrev event_in : ℤ → Option Pol → Option Pol → Option Pol → Channel → Event
event_in t a b c Crank = record { time = t; channel = Crank; polarity = pol_in a }
event_in t a b c Cam1 = record { time = t; channel = Cam1; polarity = pol_in b }
event_in t a b c Cam2 = record { time = t; channel = Cam2; polarity = pol_in c }

abbrev AllIn : ℤ → Option Pol → Option Pol → Option Pol → List Event → Type 0
AllIn t a b c es = AllByRecursion (λ (e : Event). e ≡ event_in t a b c e.channel) es

orders_in : (t : ℤ) (a b c : Option Pol) → AllByRecursion (λ order. AllIn t a b c (reverse order)) (orders (events_at t a b c))
orders_in t None None None = (tt, tt)
orders_in t None None (Some c) = ((refl, tt), tt)
orders_in t None (Some b) None = ((refl, tt), tt)
orders_in t (Some a) None None = ((refl, tt), tt)
orders_in t None (Some b) (Some c) = ((refl, (refl, tt)), ((refl, (refl, tt)), tt))
orders_in t (Some a) None (Some c) = ((refl, (refl, tt)), ((refl, (refl, tt)), tt))
orders_in t (Some a) (Some b) None = ((refl, (refl, tt)), ((refl, (refl, tt)), tt))
orders_in t (Some a) (Some b) (Some c) = ((refl, (refl, (refl, tt))), ((refl, (refl, (refl, tt))), ((refl, (refl, (refl, tt))), ((refl, (refl, (refl, tt))), ((refl, (refl, (refl, tt))), ((refl, (refl, (refl, tt))), tt))))))

order_in : (i : Instant) (order : List Event) → Contains (orders (events_of i)) order → AllIn i.time i.crank i.cam1 i.cam2 (reverse order)
order_in i order h =
    let P : List Event → Type 0 = λ order. AllIn i.time i.crank i.cam1 i.cam2 (reverse order) in
    All-contains P (orders (events_of i)) order (All-from_recursion P (orders (events_of i)) (orders_in i.time i.crank i.cam1 i.cam2)) h

consed : (e f : Event) (es fs : List Event) → e ≡ f → es ≡ fs → e ∷ es ≡ f ∷ fs
consed e f es fs p q = rw (p, q)

one_order : (t : ℤ) (a b c : Option Pol) (es fs : List Event) → AllIn t a b c es → AllIn t a b c fs → IsNotAfter es fs → IsNotAfter fs es → es ≡ fs
one_order t a b c [] [] g k x y = refl
one_order t a b c [] (f ∷ fs) g k x y = absurd y
one_order t a b c (e ∷ es) [] g k x y = absurd x
one_order t a b c (e ∷ es) (f ∷ fs) g k (inl x) (inl y) = absurd (omega (arith, x, y))
one_order t a b c (e ∷ es) (f ∷ fs) g k (inl x) (inr y) = absurd (omega (arith, x, ap rank_of y.0))
one_order t a b c (e ∷ es) (f ∷ fs) g k (inr x) (inl y) = absurd (omega (arith, y, ap rank_of x.0))
one_order t a b c (e ∷ es) (f ∷ fs) g k (inr x) (inr y) = consed e f es fs (g.0 ∙ ap (event_in t a b c) x.0 ∙ sym k.0) (one_order t a b c es fs g.1 k.1 x.1 y.1)

-- the first order that works is one
pub first_order_once : (w : WheelParts) (from : Indices) (i : Instant) (order other : List Event) → IsFirstOrder w from i order → IsFirstOrder w from i other → order ≡ other
first_order_once w from i order other f g =
    let turned : reverse order ≡ reverse other = one_order i.time i.crank i.cam1 i.cam2 (reverse order) (reverse other) (order_in i order f.is_order) (order_in i other g.is_order) (f.first other g.is_order g.works) (g.first order f.is_order f.works) in
    sym (reverse-reverse order) ∙ ap (λ (es : List Event). reverse es) turned ∙ reverse-reverse other
