-- The least of listed places.
use Rattle.std.proofs.Common.{◌≡◌, ℕ, ◌<◌, ◌⊎◌, inl, inr, List, [], ◌∷◌, ℤ, ◌<ℤ◌, refl, sym, subst, arith}
use Rattle.std.proofs.lemmas.Int.{ints}
use lib.Signed.{≤ℤ_refl}
use Rattle.wheel_types.specs.declared.place.Place.{Place}
use Rattle.wheel_types.specs.Verdicts.{IsBefore, IsLeast}
use Rattle.plain_motion.proofs.LeastPlaces.{before_through}
use Rattle.plain_motion.proofs.Listed.{IsIn, Lists}

pub nats_apart : (a b : ℕ) → (a < b) ⊎ ((b < a) ⊎ (a ≡ b))
nats_apart a b = grind arith

ints_apart : (a b : ℤ) → (a <ℤ b) ⊎ ((b <ℤ a) ⊎ (a ≡ b))
ints_apart a b = grind (arith, ints)

either_way : (p q : Place) → IsBefore p q ⊎ IsBefore q p
either_way p q = by_position (nats_apart p.j q.j)
  where
    by_second : p.j ≡ q.j → p.n1 ≡ q.n1 → (p.n2 <ℤ q.n2) ⊎ ((q.n2 <ℤ p.n2) ⊎ (p.n2 ≡ q.n2)) → IsBefore p q ⊎ IsBefore q p
    by_second e f (inl h) = inl (inr (e, inr (f, omega (arith, ints, h))))
    by_second e f (inr (inl h)) = inr (inr (sym e, inr (sym f, omega (arith, ints, h))))
    by_second e f (inr (inr h)) = inl (inr (e, inr (f, omega (arith, ints, h))))

    by_first : p.j ≡ q.j → (p.n1 <ℤ q.n1) ⊎ ((q.n1 <ℤ p.n1) ⊎ (p.n1 ≡ q.n1)) → IsBefore p q ⊎ IsBefore q p
    by_first e (inl h) = inl (inr (e, inl h))
    by_first e (inr (inl h)) = inr (inr (sym e, inl h))
    by_first e (inr (inr f)) = by_second e f (ints_apart p.n2 q.n2)

    by_position : (p.j < q.j) ⊎ ((q.j < p.j) ⊎ (p.j ≡ q.j)) → IsBefore p q ⊎ IsBefore q p
    by_position (inl h) = inl (inl h)
    by_position (inr (inl h)) = inr (inl h)
    by_position (inr (inr e)) = by_first e (ints_apart p.n1 q.n1)

before_itself : (p : Place) → IsBefore p p
before_itself p = inr (refl, inr (refl, ≤ℤ_refl _))

-- there is none, or there is a least one
abbrev pub LeastOrNone : (Place → Type 0) → Type 0
LeastOrNone P = ((p : Place) → P p → ⊥) ⊎ ((p : Place) × IsLeast P p)

least_listed : (ps : List Place) → LeastOrNone (λ p. IsIn p ps)
least_listed [] = inl (λ p h. h)
least_listed (q ∷ ps) = by_cases (least_listed ps)
  where
    alone : ((p : Place) → IsIn p ps → ⊥) → (p : Place) → IsIn p (q ∷ ps) → IsBefore q p
    alone n p (inl e) = subst (IsBefore q) e (before_itself q)
    alone n p (inr h) = absurd (n p h)

    first : (r : Place) → IsLeast (λ p. IsIn p ps) r → IsBefore q r → (p : Place) → IsIn p (q ∷ ps) → IsBefore q p
    first r l b p (inl e) = subst (IsBefore q) e (before_itself q)
    first r l b p (inr h) = before_through q r p b (l.least p h)

    other : (r : Place) → IsLeast (λ p. IsIn p ps) r → IsBefore r q → (p : Place) → IsIn p (q ∷ ps) → IsBefore r p
    other r l b p (inl e) = subst (IsBefore r) e b
    other r l b p (inr h) = l.least p h

    lesser : (r : Place) → IsLeast (λ p. IsIn p ps) r → IsBefore q r ⊎ IsBefore r q → LeastOrNone (λ p. IsIn p (q ∷ ps))
    lesser r l (inl b) = inr (q, record { holds = inl refl; least = first r l b })
    lesser r l (inr b) = inr (r, record { holds = inr l.holds; least = other r l b })

    by_cases : LeastOrNone (λ p. IsIn p ps) → LeastOrNone (λ p. IsIn p (q ∷ ps))
    by_cases (inl n) = inr (q, record { holds = inl refl; least = alone n })
    by_cases (inr (r, l)) = lesser r l (either_way q r)

pub least_or_none : (P : Place → Type 0) → Lists P → LeastOrNone P
least_or_none P l = by_cases (least_listed l.members)
  where
    by_cases : LeastOrNone (λ p. IsIn p l.members) → LeastOrNone P
    by_cases (inl n) = inl (λ p h. n p ((l.are p).1 h))
    by_cases (inr (r, m)) = inr (r, record { holds = (l.are r).0 m.holds; least = λ q h. m.least q ((l.are q).1 h) })
