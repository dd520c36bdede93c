-- The edges of an instant, passed in one of their orders.
use Rattle.std.proofs.Common.{◌⊎◌, inl, inr, List, [], ◌∷◌, ℤ, refl, sym, subst, arith}
use Rattle.std.specs.Prelude.{Option, Some, None, Contains}
use Rattle.std.specs.List.{AllByRecursion}
use Rattle.std.proofs.lemmas.List.Elements.{All-from_recursion, All-contains}
use Rattle.wheel_types.specs.declared.channel.Channel.{Channel}
use Rattle.wheel_types.specs.declared.channel.Channel.TheVariants.{Crank, Cam1, Cam2}
use Rattle.wheel_types.specs.declared.channel.Pol.{Pol}
use Rattle.wheel_types.specs.declared.place.Place.{Place}
use Rattle.wheel_types.specs.declared.instant.Instant.{Instant}
use Rattle.wheel_types.specs.declared.parts.WheelParts.{WheelParts}
use Rattle.wheel_types.specs.Motions.{Event, event_if, orders, events_at, events_of}
use Rattle.legal_steps.specs.Passes.{IsPass, PassesIf, Passes, PassesBoth, PassesAll, PassesInstant}
use Rattle.legal_steps.specs.declared.passes.Seen.{Seen}
use Rattle.legal_steps.proofs.Passing.{PlaceWalks}

-- ---- every order is one of the six

one : (w : WheelParts) (p q : Place) (x : Event) → PlaceWalks w p (x ∷ []) q → IsPass w p x.channel x.polarity q
one w p q x h = subst (λ m. IsPass w m x.channel x.polarity q) h.1.0 h.1.1

-- the event x and then y
record Two (w : WheelParts) (p q : Place) (x y : Event) : Type 0 where
  pub between : Place
  pub first : IsPass w p x.channel x.polarity between
  pub second : IsPass w between y.channel y.polarity q

two : (w : WheelParts) (p q : Place) (x y : Event) → PlaceWalks w p (y ∷ x ∷ []) q → Two w p q x y
two w p q x y h = record { between = h.0; first = one w p h.0 x h.1.0; second = h.1.1 }

-- and then z
record Three (w : WheelParts) (p q : Place) (x y z : Event) : Type 0 where
  pub between : Place
  pub before : Two w p between x y
  pub third : IsPass w between z.channel z.polarity q

three : (w : WheelParts) (p q : Place) (x y z : Event) → PlaceWalks w p (z ∷ y ∷ x ∷ []) q → Three w p q x y z
three w p q x y z h = record { between = h.0; before = two w p h.0 x y h.1.0; third = h.1.1 }

abbrev seen : Channel → Option Pol → Seen
seen c o = record { channel = c; edge = o }

abbrev InSomeOrder : WheelParts → Place → Option Pol → Option Pol → Option Pol → Place → Type 0
InSomeOrder w p a b c q = PassesAll w p (seen Crank a) (seen Cam1 b) (seen Cam2 c) q

abbrev event : ℤ → Channel → Pol → Event
event t c pol = record { time = t; channel = c; polarity = pol }

orders_pass : (w : WheelParts) (p q : Place) (t : ℤ) (a b c : Option Pol) → AllByRecursion (λ order. PlaceWalks w p order q → InSomeOrder w p a b c q) (orders (events_at t a b c))
orders_pass w p q t None None None = (λ h. inl (p, (refl, inl (p, (refl, h)))), tt)
orders_pass w p q t None None (Some c) = (λ h. inl (p, (refl, inl (p, (refl, one w p q (event t Cam2 c) h)))), tt)
orders_pass w p q t None (Some b) None = (λ h. inl (p, (refl, inl (q, (one w p q (event t Cam1 b) h, refl)))), tt)
orders_pass w p q t (Some a) None None = (λ h. inl (q, (one w p q (event t Crank a) h, inl (q, (refl, refl)))), tt)
orders_pass w p q t None (Some b) (Some c) = (
  λ h. let s = two w p q (event t Cam2 c) (event t Cam1 b) h in inl (p, (refl, inr (s.between, (s.first, s.second)))),
  (λ h. let s = two w p q (event t Cam1 b) (event t Cam2 c) h in inl (p, (refl, inl (s.between, (s.first, s.second)))), tt),
)
orders_pass w p q t (Some a) None (Some c) = (
  λ h. let s = two w p q (event t Cam2 c) (event t Crank a) h in inr (inr (s.between, (s.first, inl (q, (s.second, refl))))),
  (λ h. let s = two w p q (event t Crank a) (event t Cam2 c) h in inl (s.between, (s.first, inl (s.between, (refl, s.second)))), tt),
)
orders_pass w p q t (Some a) (Some b) None = (
  λ h. let s = two w p q (event t Cam1 b) (event t Crank a) h in inr (inl (s.between, (s.first, inl (q, (s.second, refl))))),
  (λ h. let s = two w p q (event t Crank a) (event t Cam1 b) h in inl (s.between, (s.first, inl (q, (s.second, refl)))), tt),
)
orders_pass w p q t (Some a) (Some b) (Some c) = (
  λ h. let s = three w p q (event t Cam2 c) (event t Cam1 b) (event t Crank a) h in inr (inr (s.before.between, (s.before.first, inr (s.between, (s.before.second, s.third))))),
  (
    λ h. let s = three w p q (event t Cam1 b) (event t Cam2 c) (event t Crank a) h in inr (inl (s.before.between, (s.before.first, inr (s.between, (s.before.second, s.third))))),
    (
      λ h. let s = three w p q (event t Cam2 c) (event t Crank a) (event t Cam1 b) h in inr (inr (s.before.between, (s.before.first, inl (s.between, (s.before.second, s.third))))),
      (
        λ h. let s = three w p q (event t Crank a) (event t Cam2 c) (event t Cam1 b) h in inl (s.before.between, (s.before.first, inr (s.between, (s.before.second, s.third)))),
        (
          λ h. let s = three w p q (event t Cam1 b) (event t Crank a) (event t Cam2 c) h in inr (inl (s.before.between, (s.before.first, inl (s.between, (s.before.second, s.third))))),
          (λ h. let s = three w p q (event t Crank a) (event t Cam1 b) (event t Cam2 c) h in inl (s.before.between, (s.before.first, inl (s.between, (s.before.second, s.third)))), tt),
        ),
      ),
    ),
  ),
)

-- a walk over an order of an instant's edges passes them
pub order_passes : (w : WheelParts) (p q : Place) (i : Instant) (order : List Event) → Contains (orders (events_of i)) order → PlaceWalks w p order q → PassesInstant w p i q
order_passes w p q i order h =
    let P : List Event → Type 0 = λ o. PlaceWalks w p o q → PassesInstant w p i q in
    All-contains P (orders (events_of i)) order (All-from_recursion P (orders (events_of i)) (orders_pass w p q i.time i.crank i.cam1 i.cam2)) h

-- ---- and the other way round

-- the events in this order, the last one first
abbrev in_turn : ℤ → Seen → Seen → Seen → List Event
in_turn t x y z = event_if t z.channel z.edge (event_if t y.channel y.edge (event_if t x.channel x.edge []))

more_if : (w : WheelParts) (p m q : Place) (t : ℤ) (c : Channel) (o : Option Pol) (es : List Event) → PlaceWalks w p es m → PassesIf w m c o q → PlaceWalks w p (event_if t c o es) q
more_if w p m q t c None es h k = subst (PlaceWalks w p es) (sym k) h
more_if w p m q t c (Some pol) es h k = (m, (h, k))

turn_walks : (w : WheelParts) (p m n q : Place) (t : ℤ) (x y z : Seen) → Passes w p x m → Passes w m y n → Passes w n z q → PlaceWalks w p (in_turn t x y z) q
turn_walks w p m n q t x y z h k l =
    let first : PlaceWalks w p (event_if t x.channel x.edge []) m = more_if w p p m t x.channel x.edge [] refl h in
    let second = more_if w p m n t y.channel y.edge (event_if t x.channel x.edge []) first k in
    more_if w p n q t z.channel z.edge (event_if t y.channel y.edge (event_if t x.channel x.edge [])) second l

-- the six orders
abbrev turns : ℤ → Option Pol → Option Pol → Option Pol → List (List Event)
turns t a b c =
    let x = seen Crank a in
    let y = seen Cam1 b in
    let z = seen Cam2 c in
    in_turn t x y z ∷ in_turn t x z y ∷ in_turn t y x z ∷ in_turn t y z x ∷ in_turn t z x y ∷ in_turn t z y x ∷ []

in_orders : (t : ℤ) (a b c : Option Pol) → AllByRecursion (Contains (orders (events_at t a b c))) (turns t a b c)
in_orders t None None None = ((0, omega arith, refl), ((0, omega arith, refl), ((0, omega arith, refl), ((0, omega arith, refl), ((0, omega arith, refl), ((0, omega arith, refl), tt))))))
in_orders t None None (Some c) = ((0, omega arith, refl), ((0, omega arith, refl), ((0, omega arith, refl), ((0, omega arith, refl), ((0, omega arith, refl), ((0, omega arith, refl), tt))))))
in_orders t None (Some b) None = ((0, omega arith, refl), ((0, omega arith, refl), ((0, omega arith, refl), ((0, omega arith, refl), ((0, omega arith, refl), ((0, omega arith, refl), tt))))))
in_orders t (Some a) None None = ((0, omega arith, refl), ((0, omega arith, refl), ((0, omega arith, refl), ((0, omega arith, refl), ((0, omega arith, refl), ((0, omega arith, refl), tt))))))
in_orders t None (Some b) (Some c) = ((1, omega arith, refl), ((0, omega arith, refl), ((1, omega arith, refl), ((1, omega arith, refl), ((0, omega arith, refl), ((0, omega arith, refl), tt))))))
in_orders t (Some a) None (Some c) = ((1, omega arith, refl), ((1, omega arith, refl), ((1, omega arith, refl), ((0, omega arith, refl), ((0, omega arith, refl), ((0, omega arith, refl), tt))))))
in_orders t (Some a) (Some b) None = ((1, omega arith, refl), ((1, omega arith, refl), ((0, omega arith, refl), ((0, omega arith, refl), ((1, omega arith, refl), ((0, omega arith, refl), tt))))))
in_orders t (Some a) (Some b) (Some c) = ((5, omega arith, refl), ((3, omega arith, refl), ((4, omega arith, refl), ((1, omega arith, refl), ((2, omega arith, refl), ((0, omega arith, refl), tt))))))

-- edges passed are a walk over an order
pub record WalksInOrder (w : WheelParts) (p q : Place) (i : Instant) : Type 0 where
  pub order : List Event
  pub is_order : Contains (orders (events_of i)) order
  pub walks : PlaceWalks w p order q

pub passes_in_order : (w : WheelParts) (p q : Place) (i : Instant) → PassesInstant w p i q → WalksInOrder w p q i
passes_in_order w p q i h = by_first (in_orders i.time i.crank i.cam1 i.cam2) h
  where
    by : (x y z : Seen) (m n : Place) → Contains (orders (events_of i)) (in_turn i.time x y z) → Passes w p x m → Passes w m y n → Passes w n z q → WalksInOrder w p q i
    by x y z m n o f g k = record { order = in_turn i.time x y z; is_order = o; walks = turn_walks w p m n q i.time x y z f g k }

    by_second : (x y z : Seen) → Contains (orders (events_of i)) (in_turn i.time x y z) → Contains (orders (events_of i)) (in_turn i.time x z y) → (m : Place) → Passes w p x m → PassesBoth w m y z q ⊎ PassesBoth w m z y q → WalksInOrder w p q i
    by_second x y z o u m f (inl k) = by x y z m k.0 o f k.1.0 k.1.1
    by_second x y z o u m f (inr k) = by x z y m k.0 u f k.1.0 k.1.1

    by_first : AllByRecursion (Contains (orders (events_of i))) (turns i.time i.crank i.cam1 i.cam2) → PassesInstant w p i q → WalksInOrder w p q i
    by_first o (inl k) = by_second (seen Crank i.crank) (seen Cam1 i.cam1) (seen Cam2 i.cam2) o.0 o.1.0 k.0 k.1.0 k.1.1
    by_first o (inr (inl k)) = by_second (seen Cam1 i.cam1) (seen Crank i.crank) (seen Cam2 i.cam2) o.1.1.0 o.1.1.1.0 k.0 k.1.0 k.1.1
    by_first o (inr (inr k)) = by_second (seen Cam2 i.cam2) (seen Crank i.crank) (seen Cam1 i.cam1) o.1.1.1.1.0 o.1.1.1.1.1.0 k.0 k.1.0 k.1.1
