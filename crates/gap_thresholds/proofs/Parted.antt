-- Where a fraction parts an ascending list of fractions.
use Rattle.std.proofs.Common.{◌≡◌, ℕ, zero, suc, ◌*◌, ◌<◌, ◌≤◌, ◌≢◌, ◌⊎◌, inl, inr, Bool, true, false, cond, List, [], ◌∷◌, length, get_or, sym, ap, subst, ltb-true, ltb-false, add-one, arith}
use Rattle.std.proofs.lemmas.Bool.{lt-ltb, le-ltb}
use Rattle.std.proofs.lemmas.Bool.Decides.{nat_tests}
use Rattle.std.specs.Prelude.{All, filter, nat_lt, ◌==◌}
use Rattle.std.specs.List.Sorted.{IsPartitionedBy, IsPartitionPoint}
use Rattle.gap_thresholds.specs.declared.cut.Cut.{Cut}
use Rattle.gap_thresholds.specs.Fractions.{IsBelow, Ascend, count_below, count_equal}
use Rattle.gap_thresholds.proofs.Counts.{below_then, length-cond}

-- it is below the other
abbrev pub Less : Cut → Cut → Type 0
Less c e = IsBelow c e.top e.bottom

next : (cuts : List Cut) → Ascend cuts → (k : ℕ) (d : Cut) → suc k < length cuts → Less (get_or cuts k d) (get_or cuts (suc k) d)
next cuts up k d = subst (λ n. n < length cuts → Less (get_or cuts k d) (get_or cuts n d)) (add-one k) (up k d)

same_or_below : (i j : ℕ) → i ≤ j → (i ≡ j) ⊎ (i < j)
same_or_below i j h = grind arith

-- each is below each later one
pub rises : (cuts : List Cut) → Ascend cuts → All (λ c. 1 ≤ c.bottom) cuts → (i j : ℕ) (d : Cut) → i < j → j < length cuts → Less (get_or cuts i d) (get_or cuts j d)
rises cuts up some i zero d h k = absurd (omega (arith, h))
rises cuts up some i (suc j) d h k =
    let here : Less (get_or cuts j d) (get_or cuts (suc j) d) = next cuts up j d k in
    elim (same_or_below i j (omega (arith, h))) [
      | inl e ↦ subst (λ n. Less (get_or cuts n d) (get_or cuts (suc j) d)) (sym e) here
      | inr l ↦
          let before : Less (get_or cuts i d) (get_or cuts j d) = rises cuts up some i j d l (omega (arith, k)) in
          below_then _ _ _ _ _ _ (some i d (omega (arith, k, l))) (omega (arith, before)) here
    ]

-- those below the fraction are those before the place
abbrev pub IsPlace : List Cut → ℕ → ℕ → ℕ → Type 0
IsPlace cuts top bottom = IsPartitionPoint (λ c. IsBelow c top bottom) (λ c. top * c.bottom ≤ c.top * bottom) cuts

-- the tests that one is below a fraction, and equal to it
abbrev pub below : ℕ → ℕ → Cut → Bool
below top bottom c = nat_lt (c.top * bottom) (top * c.bottom)

abbrev pub equal : ℕ → ℕ → Cut → Bool
equal top bottom c = (c.top * bottom) == (top * c.bottom)

-- those that are below a fraction come first
pub parted : (cuts : List Cut) → Ascend cuts → All (λ c. 1 ≤ c.bottom) cuts → (top bottom : ℕ) → IsPartitionedBy (below top bottom) cuts
parted cuts up some top bottom i j d h k l =
    elim (same_or_below i j h) [
      | inl e ↦ subst (λ n. below top bottom (get_or cuts n d) ≡ true) (sym e) l
      | inr m ↦
          let before : Less (get_or cuts i d) (get_or cuts j d) = rises cuts up some i j d m k in
          let less : (get_or cuts i d).top * bottom < top * (get_or cuts i d).bottom = below_then (get_or cuts i d).top (get_or cuts i d).bottom (get_or cuts j d).top (get_or cuts j d).bottom top bottom (some i d (omega (arith, k, m))) (omega (arith, before)) (ltb-true _ _ l) in
          lt-ltb _ _ less
    ]

-- as many pass as come before the first that fails
counted : (p : Cut → Bool) (cuts : List Cut) (i : ℕ) → i ≤ length cuts → IsPartitionPoint (λ c. p c ≡ true) (λ c. p c ≡ false) cuts i → length (filter p cuts) ≡ i
counted p [] i h point = omega (arith, h)
counted p (x ∷ cuts) zero h point =
    let rest : length (filter p cuts) ≡ 0 = counted p cuts zero (omega arith) ((λ k d l m. absurd (omega (arith, m))), λ k d l m. point.1 (suc k) d (omega arith) (omega (arith, m))) in
    omega (arith, rest, length-cond (p x) x (filter p cuts), ap {B = ℕ} (λ t. cond t 1 0) (point.1 0 x (omega arith) (omega arith)))
counted p (x ∷ cuts) (suc i) h point =
    let rest : length (filter p cuts) ≡ i = counted p cuts i (omega (arith, h)) ((λ k d l m. point.0 (suc k) d (omega arith) (omega (arith, m))), λ k d l m. point.1 (suc k) d (omega (arith, l)) (omega (arith, m))) in
    omega (arith, rest, length-cond (p x) x (filter p cuts), ap {B = ℕ} (λ t. cond t 1 0) (point.0 0 x (omega arith) (omega arith)))

-- where only one may pass
one_counted : (p : Cut → Bool) (cuts : List Cut) (i : ℕ) (t : Bool) → i < length cuts → ((d : Cut) → p (get_or cuts i d) ≡ t) → ((k : ℕ) (d : Cut) → k < length cuts → k ≢ i → p (get_or cuts k d) ≡ false) → length (filter p cuts) ≡ cond t 1 0
one_counted p [] i t h here others = absurd (omega (arith, h))
one_counted p (x ∷ cuts) zero t h here others =
    let rest : length (filter p cuts) ≡ 0 = counted p cuts zero (omega arith) ((λ k d l m. absurd (omega (arith, m))), λ k d l m. others (suc k) d (omega (arith, m)) (λ e. absurd (omega (arith, e)))) in
    omega (arith, rest, length-cond (p x) x (filter p cuts), ap {B = ℕ} (λ t. cond t 1 0) (here x))
one_counted p (x ∷ cuts) (suc i) t h here others =
    let rest : length (filter p cuts) ≡ cond t 1 0 = one_counted p cuts i t (omega (arith, h)) here (λ k d l m. others (suc k) d (omega (arith, l)) (λ e. m (omega (arith, e)))) in
    omega (arith, rest, length-cond (p x) x (filter p cuts), ap {B = ℕ} (λ t. cond t 1 0) (others 0 x (omega arith) (λ e. absurd (omega (arith, e)))))

-- the test of two numbers that differ
differ : (m n : ℕ) → m ≢ n → (m == n) ≡ false
differ m n h = grind (arith, nat_tests)

-- the tests part the list at the place, and conversely
pub place_from_tests : (cuts : List Cut) (top bottom i : ℕ) → IsPartitionPoint (λ c. below top bottom c ≡ true) (λ c. below top bottom c ≡ false) cuts i → IsPlace cuts top bottom i
place_from_tests cuts top bottom i point = ((λ k d l h. ltb-true _ _ (point.0 k d l h)), λ k d l h. ltb-false _ _ (point.1 k d l h))

pub tests_from_place : (cuts : List Cut) (top bottom i : ℕ) → IsPlace cuts top bottom i → IsPartitionPoint (λ c. below top bottom c ≡ true) (λ c. below top bottom c ≡ false) cuts i
tests_from_place cuts top bottom i place = ((λ k d l h. lt-ltb _ _ (place.0 k d l h)), λ k d l h. le-ltb _ _ (place.1 k d l h))

-- the place of a fraction: how many are below it
pub count_below-is : (cuts : List Cut) (top bottom i : ℕ) → i ≤ length cuts → IsPlace cuts top bottom i → i ≡ count_below cuts top bottom
count_below-is cuts top bottom i h place = sym (counted (below top bottom) cuts i h (tests_from_place cuts top bottom i place))

below_not_equal : (top bottom : ℕ) (c : Cut) → c.top * bottom < top * c.bottom → equal top bottom c ≡ false
below_not_equal top bottom c h = differ _ _ (λ e. omega (arith, h, e))

above_not_equal : (top bottom : ℕ) (c : Cut) → top * c.bottom < c.top * bottom → equal top bottom c ≡ false
above_not_equal top bottom c h = differ _ _ (λ e. omega (arith, h, e))

before_or_after : (k i : ℕ) → k ≢ i → (k < i) ⊎ (i < k)
before_or_after k i h = grind arith

-- only the one at the place may be equal to the fraction
pub count_equal-is : (cuts : List Cut) → Ascend cuts → All (λ c. 1 ≤ c.bottom) cuts → (top bottom i : ℕ) (t : Bool) → 1 ≤ bottom → IsPlace cuts top bottom i → i < length cuts → ((d : Cut) → equal top bottom (get_or cuts i d) ≡ t) → count_equal cuts top bottom ≡ cond t 1 0
count_equal-is cuts up some top bottom i t positive place h here =
    one_counted (equal top bottom) cuts i t h here (λ k d l m. elim (before_or_after k i m) [
      | inl b ↦ below_not_equal top bottom (get_or cuts k d) (place.0 k d (omega arith) b)
      | inr a ↦ above_not_equal top bottom (get_or cuts k d) (below_then top bottom (get_or cuts i d).top (get_or cuts i d).bottom (get_or cuts k d).top (get_or cuts k d).bottom positive (place.1 i d (omega arith) h) (rises cuts up some i k d a l))
    ])

-- where all are below it, none is
pub count_equal-none : (cuts : List Cut) (top bottom i : ℕ) → length cuts ≤ i → IsPlace cuts top bottom i → count_equal cuts top bottom ≡ 0
count_equal-none cuts top bottom i h place = counted (equal top bottom) cuts 0 (omega arith) ((λ k d l m. absurd (omega (arith, m))), λ k d l m. below_not_equal top bottom (get_or cuts k d) (place.0 k d (omega arith) (omega (arith, m, h))))
