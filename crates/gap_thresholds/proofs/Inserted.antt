-- An ascending list of fractions with one more at its place.
use Rattle.std.proofs.Common.{◌≡◌, ℕ, zero, suc, ◌+◌, ◌*◌, ◌<◌, ◌≤◌, ◌⊎◌, ◌↔◌, inl, inr, true, List, ◌∷◌, length, get_or, refl, sym, subst, take, drop, arith}
use Rattle.std.proofs.lemmas.Bool.Decides.{Decides-eqb}
use Rattle.std.proofs.lemmas.List.Edits.{length-insert, get_or-insert_below, get_or-insert_at, get_or-insert_above}
use Rattle.std.proofs.lemmas.List.Elements.{All-append, All-cons, All-take, All-drop, All-filter, All-contains, All-contains_itself, filter_passes, Contains-get_or}
use Rattle.std.proofs.lemmas.List.Sorted.{IsPermutation-insert, IsPermutation-sym, Contains-permutation}
use Rattle.std.specs.Prelude.{All, filter}
use Rattle.std.specs.List.{Contains, insert}
use Rattle.gap_thresholds.specs.declared.cut.Cut.{Cut}
use Rattle.gap_thresholds.specs.Fractions.{IsLowest, Ascend, count_equal}
use Rattle.gap_thresholds.proofs.Counts.{one-le-count_equal}
use Rattle.gap_thresholds.proofs.Lowest.{same_lowest}
use Rattle.gap_thresholds.proofs.Parted.{Less, IsPlace, equal}

-- what holds of each holds of each with one more
pub all_inserted : (P : Cut → Type 0) (cuts : List Cut) (i : ℕ) (e : Cut) → All P cuts → P e → All P (insert cuts i e)
all_inserted P cuts i e all one = All-append P (take i cuts) (e ∷ drop i cuts) (All-take P i cuts all) (All-cons P e (drop i cuts) one (All-drop P i cuts all))

-- both before i, just before it, at it, or past it
places : (k i : ℕ) → ((k + 1 < i) ⊎ (k + 1 ≡ i)) ⊎ ((k ≡ i) ⊎ ((m : ℕ) × ((k ≡ m + 1) × (i ≤ m))))
places zero zero = inr (inl refl)
places zero (suc zero) = inl (inr (omega arith))
places zero (suc (suc i)) = inl (inl (omega arith))
places (suc k) zero = inr (inr (k, (omega arith, omega arith)))
places (suc k) (suc i) = elim (places k i) [
  | inl (inl b) ↦ inl (inl (omega (arith, b)))
  | inl (inr s) ↦ inl (inr (omega (arith, s)))
  | inr (inl s) ↦ inr (inl (omega (arith, s)))
  | inr (inr (m, (s, a))) ↦ inr (inr (m + 1, (omega (arith, s), omega (arith, a))))
]

-- one at its place between those below it and those above it
ascend_between : (cuts : List Cut) (i : ℕ) (e : Cut) → i ≤ length cuts → Ascend cuts → ((k : ℕ) (d : Cut) → k < i → Less (get_or cuts k d) e) → ((k : ℕ) (d : Cut) → i ≤ k → k < length cuts → Less e (get_or cuts k d)) → Ascend (insert cuts i e)
ascend_between cuts i e h up low high k d l = elim (places k i) [
  | inl (inl b) ↦ rewritten (get_or cuts k d) (get_or cuts (k + 1) d) (get_or-insert_below cuts i e d k (omega (arith, b)) h) (get_or-insert_below cuts i e d (k + 1) b h) (up k d (omega (arith, b, h)))
  | inl (inr s) ↦ rewritten (get_or cuts k d) e (get_or-insert_below cuts i e d k (omega (arith, s)) h) (subst (λ n. get_or (insert cuts i e) n d ≡ e) (sym s) (get_or-insert_at cuts i e d h)) (low k d (omega (arith, s)))
  | inr (inl s) ↦ rewritten e (get_or cuts k d) (subst (λ n. get_or (insert cuts i e) n d ≡ e) (sym s) (get_or-insert_at cuts i e d h)) (get_or-insert_above cuts i e d k (omega (arith, s)) h) (high k d (omega (arith, s)) (omega (arith, long)))
  | inr (inr (m, (s, a))) ↦ rewritten (get_or cuts m d) (get_or cuts k d) (subst (λ n. get_or (insert cuts i e) n d ≡ get_or cuts m d) (sym s) (get_or-insert_above cuts i e d m a h)) (get_or-insert_above cuts i e d k (omega (arith, s, a)) h) (subst (λ n. Less (get_or cuts m d) (get_or cuts n d)) (sym s) (up m d (omega (arith, s, long))))
]
  where
    long : k + 1 < length cuts + 1
    long = subst (λ n. k + 1 < n) (length-insert cuts i e h) l

    rewritten : (a b : Cut) → get_or (insert cuts i e) k d ≡ a → get_or (insert cuts i e) (k + 1) d ≡ b → Less a b → Less (get_or (insert cuts i e) k d) (get_or (insert cuts i e) (k + 1) d)
    rewritten a b p q less = subst (λ c. Less c (get_or (insert cuts i e) (k + 1) d)) (sym p) (subst (λ c. Less a c) (sym q) less)

strict : (m n : ℕ) → n ≤ m → (m ≡ n → ⊥) → n < m
strict m n l f = grind arith

-- a fraction that none is equal to keeps them ascending at its place
pub ascend_inserted : (cuts : List Cut) (i : ℕ) (e : Cut) → i ≤ length cuts → Ascend cuts → IsPlace cuts e.top e.bottom i → count_equal cuts e.top e.bottom ≡ 0 → Ascend (insert cuts i e)
ascend_inserted cuts i e h up place none = ascend_between cuts i e h up (λ k d l. place.0 k d (omega arith) l) (λ k d l m. above (get_or cuts k d) (Contains-get_or cuts k d m) (place.1 k d l m))
  where
    above : (c : Cut) → Contains cuts c → e.top * c.bottom ≤ c.top * e.bottom → Less e c
    above c there least = strict (c.top * e.bottom) (e.top * c.bottom) least (λ same. absurd (omega (arith, none, one-le-count_equal cuts c e.top e.bottom there same)))

-- it holds those of before and the new one
pub inserted_contains : (cuts : List Cut) (i : ℕ) (e c : Cut) → Contains (insert cuts i e) c ↔ (Contains cuts c ⊎ (c ≡ e))
inserted_contains cuts i e c = ((λ h. first (Contains-permutation (insert cuts i e) (e ∷ cuts) c (IsPermutation-sym (e ∷ cuts) (insert cuts i e) (IsPermutation-insert cuts i e)) h)), λ h. Contains-permutation (e ∷ cuts) (insert cuts i e) c (IsPermutation-insert cuts i e) (back h))
  where
    first : Contains (e ∷ cuts) c → Contains cuts c ⊎ (c ≡ e)
    first (zero, l, same) = inr (sym same)
    first (suc k, l, same) = inl (k, omega (arith, l), same)

    back : Contains cuts c ⊎ (c ≡ e) → Contains (e ∷ cuts) c
    back (inl (k, l, same)) = (suc k, omega (arith, l), same)
    back (inr same) = (zero, omega arith, sym same)

-- a fraction in lowest terms that one is equal to is that one
pub contains_equal : (cuts : List Cut) (e : Cut) → All IsLowest cuts → IsLowest e → 1 ≤ count_equal cuts e.top e.bottom → Contains cuts e
contains_equal cuts e lowest h some =
    let test = equal e.top e.bottom in
    let c = get_or (filter test cuts) 0 e in
    let inside : Contains cuts c = All-filter test (Contains cuts) cuts (All-contains_itself cuts) 0 e (omega (arith, some)) in
    let passes : test c ≡ true = filter_passes test cuts 0 e (omega (arith, some)) in
    subst (Contains cuts) (same_lowest c e (All-contains IsLowest cuts c lowest inside) h ((Decides-eqb _ _).0 passes)) inside
