-- A list that has all places is no shorter than any ascending list of some.
use Rattle.std.proofs.Common.{◌≡◌, ℕ, zero, suc, ◌<◌, ◌≤◌, ◌⊎◌, inl, inr, List, length, get_or, pos, ℤ, ◌<ℤ◌, refl, sym, ◌∙◌, ap, subst, arith}
use Rattle.std.proofs.lemmas.Int.{ints}
use Rattle.std.proofs.lemmas.List.{get_or_default}
use Rattle.std.proofs.lemmas.List.Elements.{All-get_or}
use Rattle.std.specs.Prelude.{Contains}
use Rattle.wheel_types.specs.declared.place.Place.{Place}
use Rattle.wheel_types.specs.declared.parts.WheelParts.{WheelParts}
use Rattle.cam_ranges.specs.Places.{IsPlace, IsLess, IsAscending, HasTooMany}

-- ---- no place is before itself

-- no position is before itself
not_less_itself : (n : ℕ) → n < n → ⊥
not_less_itself n h = absurd (omega (arith, h))

-- nor is an edge
not_below_itself : (n : ℤ) → n <ℤ n → ⊥
not_below_itself n h = absurd (omega (arith, ints, h))

-- nor is a place
pub not_before_itself : (p : Place) → IsLess p p → ⊥
not_before_itself p (inl h) = not_less_itself p.j h
not_before_itself p (inr (e, inl h)) = not_below_itself p.n1 h
not_before_itself p (inr (e, inr (f, h))) = not_below_itself p.n2 h

-- a position is not both before another and from it on
not_both_less : (a b : ℕ) → a < b → (b < a) ⊎ (b ≡ a) → ⊥
not_both_less a b h (inl k) = absurd (omega (arith, h, k))
not_both_less a b h (inr k) = absurd (omega (arith, h, k))

-- nor is an edge
not_both_below : (a b : ℤ) → a <ℤ b → (b <ℤ a) ⊎ (b ≡ a) → ⊥
not_both_below a b h (inl k) = absurd (omega (arith, ints, h, k))
not_both_below a b h (inr k) = absurd (omega (arith, ints, h, k))

-- and of two places not each before the other
pub not_both_before : (p q : Place) → IsLess p q → IsLess q p → ⊥
not_both_before p q (inl h) (inl k) = not_both_less p.j q.j h (inl k)
not_both_before p q (inl h) (inr (e, k)) = not_both_less p.j q.j h (inr e)
not_both_before p q (inr (e, h)) (inl k) = not_both_less q.j p.j k (inr e)
not_both_before p q (inr (e, inl h)) (inr (f, inl k)) = not_both_below p.n1 q.n1 h (inl k)
not_both_before p q (inr (e, inl h)) (inr (f, inr (g, k))) = not_both_below p.n1 q.n1 h (inr g)
not_both_before p q (inr (e, inr (g, h))) (inr (f, inl k)) = not_both_below q.n1 p.n1 k (inr g)
not_both_before p q (inr (e, inr (g, h))) (inr (f, inr (i, k))) = not_both_below p.n2 q.n2 h (inl k)

-- ---- where the places of one list stand in another

-- two numbers are apart or one
either : (m n : ℕ) → (m < n) ⊎ ((n < m) ⊎ (m ≡ n))
either m n = grind arith

-- places in order stand in order in an ascending list
in_order : (ps : List Place) (m n : ℕ) (d p q : Place) → IsAscending ps → m < length ps → n < length ps → get_or ps m d ≡ p → get_or ps n d ≡ q → IsLess p q → m < n
in_order ps m n d p q ascend inm inn e f less = by_cases (either m n)
  where
    by_cases : (m < n) ⊎ ((n < m) ⊎ (m ≡ n)) → m < n
    by_cases (inl h) = h
    by_cases (inr (inl h)) = absurd (not_both_before p q less (subst (λ x. IsLess x p) f (subst (λ x. IsLess (get_or ps n d) x) e (ascend n m d h inm))))
    by_cases (inr (inr h)) = absurd (not_before_itself p (subst (IsLess p) (sym f ∙ ap (λ k. get_or ps k d) (sym h) ∙ e) less))

-- where a place of the one list stands in the other
record StandsAt (ps : List Place) (p : Place) : Type 0 where
  at : ℕ
  within : at < length ps
  is : (d : Place) → get_or ps at d ≡ p

-- a place that is in a list stands somewhere in it
stands_at : (ps : List Place) (p : Place) → Contains ps p → StandsAt ps p
stands_at ps p h = record { at = h.0; within = h.1; is = λ d. get_or_default ps h.0 d p h.1 ∙ h.2 }

-- the place at k stands at k or later
no_earlier : (ps qs : List Place) (d : Place) → IsAscending ps → IsAscending qs → ((k : ℕ) → k < length qs → Contains ps (get_or qs k d)) → (k : ℕ) (h : k < length qs) (s : StandsAt ps (get_or qs k d)) → k ≤ s.at
no_earlier ps qs d ascend rise are zero h s = omega arith
no_earlier ps qs d ascend rise are (suc k) h s =
    let before : k < length qs = omega arith in
    let r = stands_at ps (get_or qs k d) (are k before) in
    let least : k ≤ r.at = no_earlier ps qs d ascend rise are k before r in
    let less : r.at < s.at = in_order ps r.at s.at d (get_or qs k d) (get_or qs (suc k) d) ascend r.within s.within (r.is d) (s.is d) (rise k (suc k) d (omega arith) h) in
    omega arith

-- a place to ask lists for
any_place : Place
any_place = record { j = 0; n1 = pos 0; n2 = pos 0 }

-- a number above 0 is one more than another
last_of : (n : ℕ) → 0 < n → (k : ℕ) × (suc k ≡ n)
last_of zero h = absurd (omega (arith, h))
last_of (suc n) h = (n, refl)

-- a list that has all places of a wheel, and not too many, is as long as any
pub not_too_many : (w : WheelParts) (ps : List Place) → IsAscending ps → ((p : Place) → IsPlace w p → Contains ps p) → length ps ≤ 16384 → HasTooMany w → ⊥
not_too_many w ps ascend all few many =
    let qs = many.places in
    let are : (k : ℕ) → k < length qs → Contains ps (get_or qs k any_place) = λ k h. all (get_or qs k any_place) (All-get_or (IsPlace w) qs k any_place h many.stand) in
    let more : 16384 < length qs = many.many in
    let last = last_of (length qs) (omega arith) in
    let within : last.0 < length qs = omega (arith, last.1) in
    let s = stands_at ps (get_or qs last.0 any_place) (are last.0 within) in
    let least : last.0 ≤ s.at = no_earlier ps qs any_place ascend many.ascend are last.0 within s in
    absurd (omega (arith, least, s.within, last.1, more, few))
