-- Lists of places, as they are gathered in order.
use Rattle.std.proofs.Common.{◌≡◌, ℕ, ◌+◌, ◌-◌, ◌<◌, ◌≤◌, ◌⊎◌, inl, inr, ◌↔◌, List, [], ◌∷◌, ◌++◌, length, get_or, ℤ, pos, ◌+ℤ◌, ◌≤ℤ◌, ◌<ℤ◌, refl, sym, ◌∙◌, ap, subst, arith, length-append}
use Rattle.std.proofs.lemmas.Int.{ints, by_lt_z}
use Rattle.std.proofs.lemmas.List.{get_or_append_left, get_or-append_right}
use Rattle.std.proofs.lemmas.List.Elements.{Contains-get_or, Contains-append_left, Contains-push, Contains-push_cases}
use Rattle.std.specs.Prelude.{Contains}
use Rattle.wheel_types.specs.declared.place.Place.{Place}
use Rattle.wheel_types.specs.declared.parts.WheelParts.{WheelParts}
use Rattle.cam_ranges.specs.Places.{IsPlace, IsLess, IsAscending, HasTooMany}
use Rattle.cam_ranges.specs.Gathered.{AreExactly, IsBeforePosition, IsBeforeFirst, IsBeforeSecond}

-- ---- one place more

-- a list has exactly the places of a property that says the same
pub exactly_same : (P Q : Place → Type 0) (ps : List Place) → AreExactly P ps → ((p : Place) → P p ↔ Q p) → AreExactly Q ps
exactly_same P Q ps e h = record { ascend = e.ascend; exact = λ p. (λ k. (h p).0 ((e.exact p).0 k), λ k. (e.exact p).1 ((h p).1 k)) }

-- a list with one more is one longer
length-one_more : (ps : List Place) (q : Place) → length (ps ++ q ∷ []) ≡ length ps + 1
length-one_more ps q = length-append ps (q ∷ [])

-- a number below the next is below or equal
last_or_before : (b n : ℕ) → b < n + 1 → (b < n) ⊎ (b ≡ n)
last_or_before b n h = grind arith

-- the last of the list with one more
at_end : (ps : List Place) (q d : Place) (b : ℕ) → b ≡ length ps → get_or (ps ++ q ∷ []) b d ≡ q
at_end ps q d b e =
    let zero_on : b - length ps ≡ 0 = omega arith in
    get_or-append_right ps (q ∷ []) (length ps) b d refl (omega arith) ∙ ap (λ k. get_or (q ∷ []) k d) zero_on

-- an ascending list with a place after all of them
pub ascending_with : (ps : List Place) (q : Place) → IsAscending ps → ((p : Place) → Contains ps p → IsLess p q) → IsAscending (ps ++ q ∷ [])
ascending_with ps q ascend least a b d less within = by_end (last_or_before b (length ps) (subst (λ n. b < n) (length-one_more ps q) within))
  where
    by_end : (b < length ps) ⊎ (b ≡ length ps) → IsLess (get_or (ps ++ q ∷ []) a d) (get_or (ps ++ q ∷ []) b d)
    by_end (inl before) =
        let earlier : a < length ps = omega (arith, less, before) in
        subst (λ p. IsLess p (get_or (ps ++ q ∷ []) b d)) (sym (get_or_append_left ps (q ∷ []) d a earlier)) (subst (λ p. IsLess (get_or ps a d) p) (sym (get_or_append_left ps (q ∷ []) d b before)) (ascend a b d less before))
    by_end (inr end) =
        let earlier : a < length ps = omega (arith, less, end) in
        subst (λ p. IsLess p (get_or (ps ++ q ∷ []) b d)) (sym (get_or_append_left ps (q ∷ []) d a earlier)) (subst (λ p. IsLess (get_or ps a d) p) (sym (at_end ps q d b end)) (least (get_or ps a d) (Contains-get_or ps a d earlier)))

-- a list with a place after all of them
pub exactly_with : (P Q : Place → Type 0) (ps : List Place) (q : Place) → AreExactly P ps → ((p : Place) → P p → IsLess p q) → ((p : Place) → Q p ↔ (P p ⊎ (q ≡ p))) → AreExactly Q (ps ++ q ∷ [])
exactly_with P Q ps q e least is = record {
  ascend = ascending_with ps q e.ascend (λ p k. least p ((e.exact p).0 k));
  exact = λ p. (λ k. (is p).1 (forward p (Contains-push_cases ps q p k)), λ k. back p ((is p).0 k));
}
  where
    forward : (p : Place) → Contains ps p ⊎ (q ≡ p) → P p ⊎ (q ≡ p)
    forward p (inl k) = inl ((e.exact p).0 k)
    forward p (inr k) = inr k

    back : (p : Place) → P p ⊎ (q ≡ p) → Contains (ps ++ q ∷ []) p
    back p (inl k) = Contains-append_left ps (q ∷ []) p ((e.exact p).1 k)
    back p (inr k) = subst (Contains (ps ++ q ∷ [])) k (Contains-push ps q)

-- a full list of places of the wheel, and one after them
pub too_many : (w : WheelParts) (P : Place → Type 0) (ps : List Place) (q : Place) → AreExactly P ps → ((p : Place) → P p → IsPlace w p) → ((p : Place) → P p → IsLess p q) → IsPlace w q → 16384 ≤ length ps → HasTooMany w
too_many w P ps q e are least is full = record {
  places = ps ++ q ∷ [];
  ascend = ascending_with ps q e.ascend (λ p k. least p ((e.exact p).0 k));
  stand = λ k d within. standing (get_or (ps ++ q ∷ []) k d) (Contains-push_cases ps q (get_or (ps ++ q ∷ []) k d) (Contains-get_or (ps ++ q ∷ []) k d within));
  many = omega (arith, full, length-one_more ps q);
}
  where
    standing : (p : Place) → Contains ps p ⊎ (q ≡ p) → IsPlace w p
    standing p (inl k) = are p ((e.exact p).0 k)
    standing p (inr k) = subst (IsPlace w) k is

-- ---- edge by edge of the second cam

-- a place is made of its numbers
same_place : (p : Place) (j : ℕ) (n m : ℤ) → p.j ≡ j → p.n1 ≡ n → p.n2 ≡ m → ◌≡◌ {A = Place} (record { j = j; n1 = n; n2 = m }) p
same_place p j n m e f g = alike j p.j n p.n1 m p.n2 (sym e) (sym f) (sym g)
  where
    alike : (a d : ℕ) (b c e f : ℤ) → a ≡ d → b ≡ c → e ≡ f → ◌≡◌ {A = Place} (record { j = a; n1 = b; n2 = e }) (record { j = d; n1 = c; n2 = f })
    alike a d b c e f p q r = rw (p, q, r)

-- an edge before the next is before or equal
next_or_before : (m n : ℤ) → m <ℤ (n +ℤ pos 1) → (m <ℤ n) ⊎ (m ≡ n)
next_or_before m n h = by_lt_z m n (λ k. inl k) (λ k. inr (omega (arith, ints, h, k)))

-- an edge before another is before the one after that
before_next : (m n : ℤ) → m <ℤ n → m <ℤ (n +ℤ pos 1)
before_next m n h = omega (arith, ints)

-- an edge is before the one after it
at_next : (n : ℤ) → n <ℤ (n +ℤ pos 1)
at_next n = omega (arith, ints)

-- all places before an edge of the second cam are before the place with that edge
pub second_least : (w : WheelParts) (j : ℕ) (n m : ℤ) (p : Place) → IsBeforeSecond w j n m p → IsLess p (record { j = j; n1 = n; n2 = m })
second_least w j n m p h = h.1

-- before the edge after it there is that place too
pub second_more : (w : WheelParts) (j : ℕ) (n m : ℤ) → IsPlace w (record { j = j; n1 = n; n2 = m }) → (p : Place) → IsBeforeSecond w j n (m +ℤ pos 1) p ↔ (IsBeforeSecond w j n m p ⊎ (record { j = j; n1 = n; n2 = m } ≡ p))
second_more w j n m is p = (λ h. forward h.0 h.1, back)
  where
    by_second : IsPlace w p → p.j ≡ j → p.n1 ≡ n → (p.n2 <ℤ m) ⊎ (p.n2 ≡ m) → IsBeforeSecond w j n m p ⊎ (record { j = j; n1 = n; n2 = m } ≡ p)
    by_second s e f (inl k) = inl (s, inr (e, inr (f, k)))
    by_second s e f (inr k) = inr (same_place p j n m e f k)

    forward : IsPlace w p → ((p.j < j) ⊎ ((p.j ≡ j) × ((p.n1 <ℤ n) ⊎ ((p.n1 ≡ n) × (p.n2 <ℤ (m +ℤ pos 1)))))) → IsBeforeSecond w j n m p ⊎ (record { j = j; n1 = n; n2 = m } ≡ p)
    forward s (inl k) = inl (s, inl k)
    forward s (inr (e, inl k)) = inl (s, inr (e, inl k))
    forward s (inr (e, inr (f, k))) = by_second s e f (next_or_before p.n2 m k)

    later : ((p.j < j) ⊎ ((p.j ≡ j) × ((p.n1 <ℤ n) ⊎ ((p.n1 ≡ n) × (p.n2 <ℤ m))))) → (p.j < j) ⊎ ((p.j ≡ j) × ((p.n1 <ℤ n) ⊎ ((p.n1 ≡ n) × (p.n2 <ℤ (m +ℤ pos 1)))))
    later (inl k) = inl k
    later (inr (e, inl k)) = inr (e, inl k)
    later (inr (e, inr (f, k))) = inr (e, inr (f, before_next p.n2 m k))

    back : IsBeforeSecond w j n m p ⊎ (record { j = j; n1 = n; n2 = m } ≡ p) → IsBeforeSecond w j n (m +ℤ pos 1) p
    back (inl k) = (k.0, later k.1)
    back (inr e) = subst (IsBeforeSecond w j n (m +ℤ pos 1)) e (is, inr (refl, inr (refl, at_next m)))

-- the places at position j with edge n of the first cam next are those with an edge of the second cam from one on, before another
abbrev pub AreFrom : WheelParts → ℕ → ℤ → ℤ → ℤ → Type 0
AreFrom w j n first end = (p : Place) → p.j ≡ j → p.n1 ≡ n → IsPlace w p ↔ ((first ≤ℤ p.n2) × (p.n2 <ℤ end))

-- an edge is not both before another and from it on
not_below : (a b : ℤ) → a ≤ℤ b → b <ℤ a → ⊥
not_below a b h k = absurd (omega (arith, ints, h, k))

-- before the first of them there is none
pub first_is_second : (w : WheelParts) (j : ℕ) (n first end : ℤ) → AreFrom w j n first end → (p : Place) → IsBeforeFirst w j n p ↔ IsBeforeSecond w j n first p
first_is_second w j n first end are p = (λ h. (h.0, forward h.1), λ h. (h.0, back h.0 h.1))
  where
    forward : ((p.j < j) ⊎ ((p.j ≡ j) × (p.n1 <ℤ n))) → (p.j < j) ⊎ ((p.j ≡ j) × ((p.n1 <ℤ n) ⊎ ((p.n1 ≡ n) × (p.n2 <ℤ first))))
    forward (inl k) = inl k
    forward (inr (e, k)) = inr (e, inl k)

    back : IsPlace w p → ((p.j < j) ⊎ ((p.j ≡ j) × ((p.n1 <ℤ n) ⊎ ((p.n1 ≡ n) × (p.n2 <ℤ first))))) → (p.j < j) ⊎ ((p.j ≡ j) × (p.n1 <ℤ n))
    back s (inl k) = inl k
    back s (inr (e, inl k)) = inr (e, k)
    back s (inr (e, inr (f, k))) = absurd (not_below first p.n2 ((are p e f).0 s).0 k)

-- before an end is before all after it
lesser_end : (m end at : ℤ) → m <ℤ end → end ≤ℤ at → m <ℤ at
lesser_end m end at h k = omega (arith, ints, h, k)

-- and from their end on there is none with this edge of the first cam
pub second_is_first : (w : WheelParts) (j : ℕ) (n first end at : ℤ) → AreFrom w j n first end → end ≤ℤ at → (p : Place) → IsBeforeSecond w j n at p ↔ IsBeforeFirst w j (n +ℤ pos 1) p
second_is_first w j n first end at are past p = (λ h. (h.0, forward h.1), λ h. (h.0, back h.0 h.1))
  where
    forward : ((p.j < j) ⊎ ((p.j ≡ j) × ((p.n1 <ℤ n) ⊎ ((p.n1 ≡ n) × (p.n2 <ℤ at))))) → (p.j < j) ⊎ ((p.j ≡ j) × (p.n1 <ℤ (n +ℤ pos 1)))
    forward (inl k) = inl k
    forward (inr (e, inl k)) = inr (e, before_next p.n1 n k)
    forward (inr (e, inr (f, k))) = inr (e, subst (λ z. z <ℤ (n +ℤ pos 1)) (sym f) (at_next n))

    by_first : IsPlace w p → p.j ≡ j → (p.n1 <ℤ n) ⊎ (p.n1 ≡ n) → (p.j < j) ⊎ ((p.j ≡ j) × ((p.n1 <ℤ n) ⊎ ((p.n1 ≡ n) × (p.n2 <ℤ at))))
    by_first s e (inl k) = inr (e, inl k)
    by_first s e (inr f) = inr (e, inr (f, lesser_end p.n2 end at ((are p e f).0 s).1 past))

    back : IsPlace w p → ((p.j < j) ⊎ ((p.j ≡ j) × (p.n1 <ℤ (n +ℤ pos 1)))) → (p.j < j) ⊎ ((p.j ≡ j) × ((p.n1 <ℤ n) ⊎ ((p.n1 ≡ n) × (p.n2 <ℤ at))))
    back s (inl k) = inl k
    back s (inr (e, k)) = by_first s e (next_or_before p.n1 n k)

-- ---- edge by edge of the first cam

-- the first cam stands nowhere in the gap with this edge next
pub none_at_edge : (w : WheelParts) (j : ℕ) (n : ℤ) → ((p : Place) → p.j ≡ j → p.n1 ≡ n → IsPlace w p → ⊥) → (p : Place) → IsBeforeFirst w j n p ↔ IsBeforeFirst w j (n +ℤ pos 1) p
none_at_edge w j n none p = (λ h. (h.0, forward h.1), λ h. (h.0, back h.0 h.1))
  where
    forward : ((p.j < j) ⊎ ((p.j ≡ j) × (p.n1 <ℤ n))) → (p.j < j) ⊎ ((p.j ≡ j) × (p.n1 <ℤ (n +ℤ pos 1)))
    forward (inl k) = inl k
    forward (inr (e, k)) = inr (e, before_next p.n1 n k)

    by_first : IsPlace w p → p.j ≡ j → (p.n1 <ℤ n) ⊎ (p.n1 ≡ n) → (p.j < j) ⊎ ((p.j ≡ j) × (p.n1 <ℤ n))
    by_first s e (inl k) = inr (e, k)
    by_first s e (inr f) = absurd (none p e f s)

    back : IsPlace w p → ((p.j < j) ⊎ ((p.j ≡ j) × (p.n1 <ℤ (n +ℤ pos 1)))) → (p.j < j) ⊎ ((p.j ≡ j) × (p.n1 <ℤ n))
    back s (inl k) = inl k
    back s (inr (e, k)) = by_first s e (next_or_before p.n1 n k)

-- the places at position j have an edge of the first cam from one on, before another
abbrev pub AreFirstsFrom : WheelParts → ℕ → ℤ → ℤ → Type 0
AreFirstsFrom w j first end = (p : Place) → p.j ≡ j → IsPlace w p → (first ≤ℤ p.n1) × (p.n1 <ℤ end)

-- before the first of them there is none
pub position_is_first : (w : WheelParts) (j : ℕ) (first end : ℤ) → AreFirstsFrom w j first end → (p : Place) → IsBeforePosition w j p ↔ IsBeforeFirst w j first p
position_is_first w j first end are p = (λ h. (h.0, inl h.1), λ h. (h.0, back h.0 h.1))
  where
    back : IsPlace w p → ((p.j < j) ⊎ ((p.j ≡ j) × (p.n1 <ℤ first))) → p.j < j
    back s (inl k) = k
    back s (inr (e, k)) = absurd (not_below first p.n1 (are p e s).0 k)

-- a position before another is before the one after that
next_position : (a b : ℕ) → a < b → a < b + 1
next_position a b h = omega (arith, h)

-- a position is before the one after it
same_position : (a b : ℕ) → a ≡ b → a < b + 1
same_position a b h = omega (arith, h)

-- and from their end on there is none at the position
pub first_is_position : (w : WheelParts) (j : ℕ) (first end at : ℤ) → AreFirstsFrom w j first end → end ≤ℤ at → (p : Place) → IsBeforeFirst w j at p ↔ IsBeforePosition w (j + 1) p
first_is_position w j first end at are past p = (λ h. (h.0, forward h.1), λ h. (h.0, back h.0 (last_or_before p.j j h.1)))
  where
    forward : ((p.j < j) ⊎ ((p.j ≡ j) × (p.n1 <ℤ at))) → p.j < j + 1
    forward (inl k) = next_position p.j j k
    forward (inr (e, k)) = same_position p.j j e

    back : IsPlace w p → (p.j < j) ⊎ (p.j ≡ j) → (p.j < j) ⊎ ((p.j ≡ j) × (p.n1 <ℤ at))
    back s (inl k) = inl k
    back s (inr e) = inr (e, lesser_end p.n1 end at (are p e s).1 past)
