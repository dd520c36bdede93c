-- Places in order, each once.
use Rattle.std.proofs.Common.{◌≡◌, ℕ, zero, suc, ◌<◌, ◌⊎◌, inl, inr, true, false, Bool, ℤ, ◌<ℤ◌, List, [], ◌∷◌, get_or, nat_cmp, eqb, ◌&&◌, refl, sym, ◌∙◌, subst, arith}
use Rattle.std.specs.Ordering.{ordering_then, int_cmp, int_eq}
use Rattle.std.specs.declared.cmp.Ordering.{Ordering}
use Rattle.std.specs.declared.cmp.Ordering.TheVariants.{Less, Equal, Greater}
use Rattle.std.proofs.lemmas.Cmp.{by_ranked, ranked, int_ranked}
use Rattle.std.proofs.lemmas.List.Elements.{All-from_recursion}
use Rattle.std.specs.List.Sorted.{IsStrictlySortedBy}
use Rattle.std.proofs.lemmas.Grind.{common_steps}
use Rattle.std.proofs.lemmas.Bool.{false≢true}
use Rattle.wheel_types.specs.declared.place.Place.{Place}
use Rattle.cam_ranges.specs.Places.{IsLess, IsAscending}

-- how places are ordered, field by field
abbrev pub place_cmp : Place → Place → Ordering
place_cmp p q = ordering_then (nat_cmp p.j q.j) (ordering_then (int_cmp p.n1 q.n1) (int_cmp p.n2 q.n2))

then_less : (a b : Ordering) → ordering_then a b ≡ Less → (a ≡ Less) ⊎ ((a ≡ Equal) × (b ≡ Less))
then_less Less b e = inl e
then_less Equal b e = inr (refl, e)
then_less Greater b e = absurd (cc)

nat_less : (x y : ℕ) → nat_cmp x y ≡ Less → x < y
nat_less x y e = by_ranked (x < y) (x ≡ y) (y < x) (nat_cmp x y) (ranked x y (nat_cmp x y) refl) (λ o h. h) (λ o h. absurd (not_both o)) (λ o h. absurd (not_all o))
  where
    not_both : nat_cmp x y ≡ Equal → ⊥
    not_both o = let f : Equal ≡ Less = sym o ∙ e in cc

    not_all : nat_cmp x y ≡ Greater → ⊥
    not_all o = let f : Greater ≡ Less = sym o ∙ e in cc

nat_equal : (x y : ℕ) → nat_cmp x y ≡ Equal → x ≡ y
nat_equal x y e = by_ranked (x < y) (x ≡ y) (y < x) (nat_cmp x y) (ranked x y (nat_cmp x y) refl) (λ o h. absurd (not_both o)) (λ o h. h) (λ o h. absurd (not_all o))
  where
    not_both : nat_cmp x y ≡ Less → ⊥
    not_both o = let f : Less ≡ Equal = sym o ∙ e in cc

    not_all : nat_cmp x y ≡ Greater → ⊥
    not_all o = let f : Greater ≡ Equal = sym o ∙ e in cc

int_less : (x y : ℤ) → int_cmp x y ≡ Less → x <ℤ y
int_less x y e = by_ranked (x <ℤ y) (x ≡ y) (y <ℤ x) (int_cmp x y) (int_ranked x y (int_cmp x y) refl) (λ o h. h) (λ o h. absurd (not_both o)) (λ o h. absurd (not_all o))
  where
    not_both : int_cmp x y ≡ Equal → ⊥
    not_both o = let f : Equal ≡ Less = sym o ∙ e in cc

    not_all : int_cmp x y ≡ Greater → ⊥
    not_all o = let f : Greater ≡ Less = sym o ∙ e in cc

int_equal : (x y : ℤ) → int_cmp x y ≡ Equal → x ≡ y
int_equal x y e = by_ranked (x <ℤ y) (x ≡ y) (y <ℤ x) (int_cmp x y) (int_ranked x y (int_cmp x y) refl) (λ o h. absurd (not_both o)) (λ o h. h) (λ o h. absurd (not_all o))
  where
    not_both : int_cmp x y ≡ Less → ⊥
    not_both o = let f : Less ≡ Equal = sym o ∙ e in cc

    not_all : int_cmp x y ≡ Greater → ⊥
    not_all o = let f : Greater ≡ Equal = sym o ∙ e in cc

pub less_is : (p q : Place) → place_cmp p q ≡ Less → IsLess p q
less_is p q e = by_first (then_less (nat_cmp p.j q.j) (ordering_then (int_cmp p.n1 q.n1) (int_cmp p.n2 q.n2)) e)
  where
    by_second : p.j ≡ q.j → (int_cmp p.n1 q.n1 ≡ Less) ⊎ ((int_cmp p.n1 q.n1 ≡ Equal) × (int_cmp p.n2 q.n2 ≡ Less)) → IsLess p q
    by_second same (inl o) = inr (same, inl (int_less p.n1 q.n1 o))
    by_second same (inr o) = inr (same, inr (int_equal p.n1 q.n1 o.0, int_less p.n2 q.n2 o.1))

    by_first : (nat_cmp p.j q.j ≡ Less) ⊎ ((nat_cmp p.j q.j ≡ Equal) × (ordering_then (int_cmp p.n1 q.n1) (int_cmp p.n2 q.n2) ≡ Less)) → IsLess p q
    by_first (inl o) = inl (nat_less p.j q.j o)
    by_first (inr o) = by_second (nat_equal p.j q.j o.0) (then_less (int_cmp p.n1 q.n1) (int_cmp p.n2 q.n2) o.1)

-- what is strictly sorted ascends
pub sorted_ascends : (ps : List Place) → IsStrictlySortedBy place_cmp ps → IsAscending ps
unfolding IsStrictlySortedBy
sorted_ascends [] s a b d h k = absurd (omega (arith, k))
sorted_ascends (p ∷ ps) s zero zero d h k = absurd (omega (arith, h))
sorted_ascends (p ∷ ps) s zero (suc b) d h k = less_is p (get_or ps b d) (All-from_recursion (λ q. place_cmp p q ≡ Less) ps s.0 b d (omega (arith, k)))
sorted_ascends (p ∷ ps) s (suc a) zero d h k = absurd (omega (arith, h))
sorted_ascends (p ∷ ps) s (suc a) (suc b) d h k = sorted_ascends ps s.1 a b d (omega (arith, h)) (omega (arith, k))

-- places that the test finds alike are one
pub same_by_test : (p q : Place) → (eqb p.j q.j && (int_eq p.n1 q.n1 && int_eq p.n2 q.n2)) ≡ true → p ≡ q
same_by_test p q e = grind (arith, common_steps)

self_alike : (p : Place) → (eqb p.j p.j && (int_eq p.n1 p.n1 && int_eq p.n2 p.n2)) ≡ true
self_alike p = grind (arith, common_steps)

-- and those that it does not are two
pub two_by_test : (p q : Place) (r : Bool) → r ≡ (eqb p.j q.j && (int_eq p.n1 q.n1 && int_eq p.n2 q.n2)) → r ≡ false → p ≡ q → ⊥
two_by_test p q r is e same =
    let all : (eqb p.j q.j && (int_eq p.n1 q.n1 && int_eq p.n2 q.n2)) ≡ true = subst (λ (s : Place). (eqb p.j s.j && (int_eq p.n1 s.n1 && int_eq p.n2 s.n2)) ≡ true) same (self_alike p) in
    false≢true (sym e ∙ is ∙ all)
