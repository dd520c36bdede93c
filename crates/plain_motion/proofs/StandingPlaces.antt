-- The places of a wheel that stand are finitely many.
use Rattle.std.proofs.Common.{◌≡◌, ℕ, zero, suc, ◌<◌, ◌⊎◌, inl, inr, ℤ, pos, neg_ℤ, refl, subst, arith}
use Rattle.std.proofs.lemmas.Int.{ints}
use Rattle.std.specs.Prelude.{unsigned_abs}
use Rattle.wheel_types.specs.declared.channel.Channel.TheVariants.{Crank}
use Rattle.wheel_types.specs.declared.place.Place.{Place}
use Rattle.wheel_types.specs.declared.parts.WheelParts.{WheelParts}
use Rattle.wheel_types.specs.Wheels.{IsWheel}
use Rattle.wheel_types.specs.Edges.{edge_count}
use Rattle.wheel_types.specs.Steps.{indices_of, IsStanding}
use Rattle.wheel_types.specs.Plain.{is_standing}
use Rattle.wheel_types.proofs.Standing.{PlaceStands}
use Rattle.wheel_types.proofs.Tests.{standing_tested}
use Rattle.cam_ranges.proofs.SmallPlaces.{place_small, place_stands}
use Rattle.plain_motion.proofs.Listed.{Lists, Decided, by_test, none_listed, one_listed, relisted, either_listed, listed_through, listed_with}

-- the numbers below a number
numbers_listed : (n : ℕ) → Lists (λ k. k < n)
numbers_listed zero = none_listed _ (λ k h. absurd (omega (arith, h)))
numbers_listed (suc n) = relisted _ _ (either_listed _ _ (one_listed n) (numbers_listed n)) (λ k. (there k, back k))
  where
    there : (k : ℕ) → (n ≡ k) ⊎ (k < n) → k < suc n
    there k (inl e) = omega (arith, e)
    there k (inr h) = omega (arith, h)

    back : (k : ℕ) → k < suc n → (n ≡ k) ⊎ (k < n)
    back k h = grind arith

-- the integers below a number in size
integers_listed : (n : ℕ) → Lists (λ z. unsigned_abs z < n)
integers_listed zero = none_listed _ (λ z h. absurd (omega (arith, h)))
integers_listed (suc n) = relisted _ _ (either_listed _ _ (one_listed (pos n)) (either_listed _ _ (one_listed (neg_ℤ (pos n))) (integers_listed n))) (λ z. (there z, back z))
  where
    there : (z : ℤ) → (pos n ≡ z) ⊎ ((neg_ℤ (pos n) ≡ z) ⊎ (unsigned_abs z < n)) → unsigned_abs z < suc n
    there z (inl e) = omega (arith, ints, e)
    there z (inr (inl e)) = omega (arith, ints, e)
    there z (inr (inr h)) = omega (arith, ints, h)

    back : (z : ℤ) → unsigned_abs z < suc n → (pos n ≡ z) ⊎ ((neg_ℤ (pos n) ≡ z) ⊎ (unsigned_abs z < n))
    back z h = grind (arith, ints)

-- the place of a crank edge and the next cam edges
abbrev place : ℕ → ℤ → ℤ → Place
place j a b = record { j = j; n1 = a; n2 = b }

-- the place is below a position, and its cam edges are below a number in size
abbrev IsNear : ℕ → ℕ → Place → Type 0
IsNear count n p = (p.j < count) × ((unsigned_abs p.n1 < n) × (unsigned_abs p.n2 < n))

-- the near places are finitely many
near_listed : (count n : ℕ) → Lists (IsNear count n)
near_listed count n = relisted _ _ (listed_through _ _ (numbers_listed count) (λ j. listed_through _ _ (integers_listed n) (λ a. listed_through _ _ (integers_listed n) (λ b. one_listed (place j a b))))) (λ p. (
  λ h. subst (IsNear count n) h.1.1.1.1.1.1 (h.1.0, (h.1.1.1.0, h.1.1.1.1.1.0)),
  λ h. (p.j, (h.0, (p.n1, (h.1.0, (p.n2, (h.1.1, refl)))))),
))

-- whether a place stands is decided
standing_or_not : (w : WheelParts) (p : Place) → Decided (IsStanding w (indices_of p))
standing_or_not w p = by_test (IsStanding w (indices_of p)) (is_standing w (indices_of p)) (standing_tested w (indices_of p))

-- where all places that stand are near, they can be listed
listed_if_near : (w : WheelParts) (n : ℕ) → ((p : Place) → PlaceStands w p → IsNear (edge_count w Crank) n p) → Lists (PlaceStands w)
listed_if_near w n near = relisted _ _ (listed_with (IsNear (edge_count w Crank) n) (λ p. IsStanding w (indices_of p)) (near_listed (edge_count w Crank) n) (standing_or_not w)) (λ p. (
  λ h. record { edge = h.0.0; standing = h.1 },
  λ s. (near p s, s.standing),
))

-- the places of a wheel that stand
pub standing_listed : (w : WheelParts) → IsWheel w → Lists (PlaceStands w)
standing_listed w wheel = listed_if_near w _ (λ p s. let small = place_small w p wheel ((place_stands w p).0 s) in (s.edge, (small.first, small.second)))
