-- Where a place can be in an ascending list, by a place of the list that it was compared with.
use Rattle.std.proofs.Common.{◌≡◌, ◌⊎◌, inl, inr, ℕ, ◌+◌, ◌<◌, ◌<ℤ◌, ◌≤◌, List, length, get_or, subst, ◌∙◌, sym, ap, arith}
use Rattle.std.proofs.lemmas.Int.{ints}
use Rattle.std.proofs.lemmas.Bool.{cases_lt, cases_eq}
use Rattle.std.proofs.lemmas.List.{get_or_default}
use Rattle.std.specs.Prelude.{Contains}
use Rattle.wheel_types.specs.declared.place.Place.{Place}
use Rattle.cam_ranges.specs.Places.{IsLess, IsAscending}
use Rattle.cam_ranges.proofs.FewPlaces.{not_before_itself}

-- what stands before the one stands before what that stands before
pub less_through : (a b c : Place) → IsLess a b → IsLess b c → IsLess a c
less_through a b c (inl h) (inl k) = inl (omega (arith, h, k))
less_through a b c (inl h) (inr k) = let e : b.j ≡ c.j = k.0 in inl (omega (arith, h, e))
less_through a b c (inr h) (inl k) = let e : a.j ≡ b.j = h.0 in inl (omega (arith, k, e))
less_through a b c (inr (e, h)) (inr (f, k)) = inr (e ∙ f, cams h k)
  where
    cams : (a.n1 <ℤ b.n1) ⊎ ((a.n1 ≡ b.n1) × (a.n2 <ℤ b.n2)) → (b.n1 <ℤ c.n1) ⊎ ((b.n1 ≡ c.n1) × (b.n2 <ℤ c.n2)) → (a.n1 <ℤ c.n1) ⊎ ((a.n1 ≡ c.n1) × (a.n2 <ℤ c.n2))
    cams (inl h) (inl k) = inl (omega (arith, ints, h, k))
    cams (inl h) (inr (f, k)) = inl (omega (arith, ints, h, f))
    cams (inr (e, h)) (inl k) = inl (omega (arith, ints, k, e))
    cams (inr (e, h)) (inr (f, k)) = inr (e ∙ f, omega (arith, ints, h, k))

-- the place q is before place k, where it is less
pub before : (ps : List Place) (q : Place) (m k : ℕ) (d : Place) → IsAscending ps → m < length ps → get_or ps m d ≡ q
    → IsLess q (get_or ps k d) → m < k
before ps q m k d ascend inm e less = elim (cases_lt m k) [
  | inl lt ↦ lt
  | inr ge ↦ elim (cases_eq k m) [
    | inl same ↦ absurd (not_before_itself q (subst (IsLess q) (ap (λ n. get_or ps n d) same ∙ e) less))
    | inr other ↦
        let back = subst (IsLess (get_or ps k d)) e (ascend k m d (omega (arith, ge, other)) inm) in
        absurd (not_before_itself q (less_through q (get_or ps k d) q less back))
  ]
]

-- and after it, where it is neither less nor that place
pub after : (ps : List Place) (q : Place) (m k : ℕ) (d : Place) → IsAscending ps → k < length ps → get_or ps m d ≡ q
    → (IsLess q (get_or ps k d) → ⊥) → (get_or ps k d ≡ q → ⊥) → k + 1 ≤ m
after ps q m k d ascend ink e not_less not_same = elim (cases_lt m k) [
  | inl lt ↦ absurd (not_less (subst (λ x. IsLess x (get_or ps k d)) e (ascend m k d lt ink)))
  | inr ge ↦ elim (cases_eq k m) [
    | inl same ↦ absurd (not_same (ap (λ n. get_or ps n d) same ∙ e))
    | inr other ↦ omega (arith, ge, other)
  ]
]

-- each place of the list that is q is between these
abbrev pub AreBetween : List Place → Place → ℕ → ℕ → Type 0
AreBetween ps q low high = (m : ℕ) → m < length ps → ((d : Place) → get_or ps m d ≡ q) → (low ≤ m) × (m < high)

-- where nothing is between them, q is none of the list
pub not_between : (ps : List Place) (q : Place) (low high : ℕ) → high ≤ low → AreBetween ps q low high → Contains ps q → ⊥
not_between ps q low high none between there =
    let at : (e : Place) → get_or ps there.0 e ≡ q = λ e. get_or_default ps there.0 e q there.1 ∙ there.2 in
    let b = between there.0 there.1 at in
    omega (arith, none, b.0, b.1)
