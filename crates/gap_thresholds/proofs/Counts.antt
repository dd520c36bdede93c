-- How many fractions of a list are below a fraction, and how many are equal to it.
use Rattle.std.proofs.Common.{◌≡◌, ℕ, ◌+◌, ◌*◌, ◌<◌, ◌≤◌, Bool, true, false, cond, List, [], ◌∷◌, length, get_or, zero, suc, sym, ◌∙◌, ap, eq-eqb, arith}
use Rattle.std.proofs.Math.Nat.{lt_of_mul-lt-mul_left, mul-lt-mul_of_pos_left, mul-le-mul_left}
use Rattle.std.proofs.lemmas.Bool.Decides.{nat_tests}
use Rattle.std.proofs.lemmas.List.Elements.{All-head, All-tail, All-weaker}
use Rattle.std.specs.Prelude.{All, filter, nat_lt, ◌==◌}
use Rattle.std.specs.List.{Contains}
use Rattle.gap_thresholds.specs.declared.cut.Cut.{Cut}
use Rattle.gap_thresholds.specs.Fractions.{count_below, count_equal}

-- a / b is at most x / xb, which is below y / yb
pub below_then : (a b x xb y yb : ℕ) → 1 ≤ b → a * xb ≤ x * b → x * yb < y * xb → a * yb < y * b
below_then a b x xb y yb some h k =
    let first : yb * (a * xb) ≤ yb * (x * b) = mul-le-mul_left yb h in
    let second : b * (x * yb) < b * (y * xb) = mul-lt-mul_of_pos_left k some in
    let both : xb * (a * yb) < xb * (y * b) = omega (arith, first, second) in
    lt_of_mul-lt-mul_left xb both

-- a / b is below x / xb, which is at most y / yb
pub then_below : (a b x xb y yb : ℕ) → 1 ≤ yb → a * xb < x * b → x * yb ≤ y * xb → a * yb < y * b
then_below a b x xb y yb some h k =
    let first : yb * (a * xb) < yb * (x * b) = mul-lt-mul_of_pos_left h some in
    let second : b * (x * yb) ≤ b * (y * xb) = mul-le-mul_left b k in
    let both : xb * (a * yb) < xb * (y * b) = omega (arith, first, second) in
    lt_of_mul-lt-mul_left xb both

-- a / b is at most x / xb, which is at most y / yb
pub at_most_then : (a b x xb y yb : ℕ) → 1 ≤ xb → a * xb ≤ x * b → x * yb ≤ y * xb → a * yb ≤ y * b
at_most_then a b x xb y yb some h k =
    let first : yb * (a * xb) ≤ yb * (x * b) = mul-le-mul_left yb h in
    let second : b * (x * yb) ≤ b * (y * xb) = mul-le-mul_left b k in
    let both : xb * (a * yb) < xb * (y * b + 1) = omega (arith, first, second, some) in
    let less : a * yb < y * b + 1 = lt_of_mul-lt-mul_left xb both in
    omega (arith, less)

-- a / b equals x / xb, which equals y / yb
pub equal_then : (a b x xb y yb : ℕ) → 1 ≤ xb → a * xb ≡ x * b → x * yb ≡ y * xb → a * yb ≡ y * b
equal_then a b x xb y yb some h k =
    let low : a * yb ≤ y * b = at_most_then a b x xb y yb some (omega (arith, h)) (omega (arith, k)) in
    let high : y * b ≤ a * yb = at_most_then y yb x xb a b some (omega (arith, k)) (omega (arith, h)) in
    omega (arith, low, high)

pub length-cond : (t : Bool) (c : Cut) (cuts : List Cut) → length (cond t (c ∷ cuts) cuts) ≡ cond t 1 0 + length cuts
length-cond true c cuts = omega arith
length-cond false c cuts = omega arith

-- where each that passes one of two tests passes a third, and none passes both
counts-le : (p q r : Cut → Bool) (cuts : List Cut) → All (λ c. cond (p c) 1 0 + cond (q c) 1 0 ≤ cond (r c) 1 0) cuts → length (filter p cuts) + length (filter q cuts) ≤ length (filter r cuts)
counts-le p q r [] each = omega arith
counts-le p q r (c ∷ cuts) each =
    let rest : length (filter p cuts) + length (filter q cuts) ≤ length (filter r cuts) = counts-le p q r cuts (All-tail (λ c. cond (p c) 1 0 + cond (q c) 1 0 ≤ cond (r c) 1 0) c cuts each) in
    let here : cond (p c) 1 0 + cond (q c) 1 0 ≤ cond (r c) 1 0 = All-head (λ c. cond (p c) 1 0 + cond (q c) 1 0 ≤ cond (r c) 1 0) c cuts each in
    omega (arith, rest, here, length-cond (p c) c (filter p cuts), length-cond (q c) c (filter q cuts), length-cond (r c) c (filter r cuts))

-- where each that passes a test passes another
count-le : (p q : Cut → Bool) (cuts : List Cut) → All (λ c. cond (p c) 1 0 ≤ cond (q c) 1 0) cuts → length (filter p cuts) ≤ length (filter q cuts)
count-le p q [] each = omega arith
count-le p q (c ∷ cuts) each =
    let rest : length (filter p cuts) ≤ length (filter q cuts) = count-le p q cuts (All-tail (λ c. cond (p c) 1 0 ≤ cond (q c) 1 0) c cuts each) in
    let here : cond (p c) 1 0 ≤ cond (q c) 1 0 = All-head (λ c. cond (p c) 1 0 ≤ cond (q c) 1 0) c cuts each in
    omega (arith, rest, here, length-cond (p c) c (filter p cuts), length-cond (q c) c (filter q cuts))

both_tests : (m n i j : ℕ) → (m < n → i < j) → (m ≡ n → i < j) → cond (nat_lt m n) 1 0 + cond (m == n) 1 0 ≤ cond (nat_lt i j) 1 0
both_tests m n i j f g = grind (arith, nat_tests)

below_tests : (m n i j : ℕ) → (m < n → i < j) → cond (nat_lt m n) 1 0 ≤ cond (nat_lt i j) 1 0
below_tests m n i j f = grind (arith, nat_tests)

equal_tests : (m n i j : ℕ) → (m ≡ n → i ≡ j) → cond (m == n) 1 0 ≤ cond (i == j) 1 0
equal_tests m n i j f = grind (arith, nat_tests)

-- all that are at most a fraction are below a greater one
pub counts-le-count_below : (cuts : List Cut) (x xb y yb : ℕ) → All (λ c. 1 ≤ c.bottom) cuts → x * yb < y * xb → count_below cuts x xb + count_equal cuts x xb ≤ count_below cuts y yb
counts-le-count_below cuts x xb y yb some h = counts-le _ _ _ cuts (All-weaker (λ c. 1 ≤ c.bottom) _ each cuts some)
  where
    each : (c : Cut) → 1 ≤ c.bottom → cond (nat_lt (c.top * xb) (x * c.bottom)) 1 0 + cond ((c.top * xb) == (x * c.bottom)) 1 0 ≤ cond (nat_lt (c.top * yb) (y * c.bottom)) 1 0
    each c b = both_tests (c.top * xb) (x * c.bottom) (c.top * yb) (y * c.bottom) (λ k. below_then c.top c.bottom x xb y yb b (omega (arith, k)) h) (λ k. below_then c.top c.bottom x xb y yb b (omega (arith, k)) h)

-- all that are below a fraction are below one that is not less
pub count_below-le-count_below : (cuts : List Cut) (x xb y yb : ℕ) → 1 ≤ yb → x * yb ≤ y * xb → count_below cuts x xb ≤ count_below cuts y yb
count_below-le-count_below cuts x xb y yb some h = count-le _ _ cuts (λ k c l. each _)
  where
    each : (c : Cut) → cond (nat_lt (c.top * xb) (x * c.bottom)) 1 0 ≤ cond (nat_lt (c.top * yb) (y * c.bottom)) 1 0
    each c = below_tests (c.top * xb) (x * c.bottom) (c.top * yb) (y * c.bottom) (λ k. then_below c.top c.bottom x xb y yb some k h)

-- as many are below equal fractions
pub count_below-same : (cuts : List Cut) (x xb y yb : ℕ) → 1 ≤ xb → 1 ≤ yb → x * yb ≡ y * xb → count_below cuts x xb ≡ count_below cuts y yb
count_below-same cuts x xb y yb some_x some_y e =
    let low : count_below cuts x xb ≤ count_below cuts y yb = count_below-le-count_below cuts x xb y yb some_y (omega (arith, e)) in
    let high : count_below cuts y yb ≤ count_below cuts x xb = count_below-le-count_below cuts y yb x xb some_x (omega (arith, e)) in
    omega (arith, low, high)

equal-le : (cuts : List Cut) (x xb y yb : ℕ) → 1 ≤ xb → x * yb ≡ y * xb → count_equal cuts x xb ≤ count_equal cuts y yb
equal-le cuts x xb y yb some h = count-le _ _ cuts (λ k c l. each _)
  where
    each : (c : Cut) → cond ((c.top * xb) == (x * c.bottom)) 1 0 ≤ cond ((c.top * yb) == (y * c.bottom)) 1 0
    each c = equal_tests (c.top * xb) (x * c.bottom) (c.top * yb) (y * c.bottom) (λ k. equal_then c.top c.bottom x xb y yb some k h)

-- as many are equal to equal fractions
pub count_equal-same : (cuts : List Cut) (x xb y yb : ℕ) → 1 ≤ xb → 1 ≤ yb → x * yb ≡ y * xb → count_equal cuts x xb ≡ count_equal cuts y yb
count_equal-same cuts x xb y yb some_x some_y e =
    let low : count_equal cuts x xb ≤ count_equal cuts y yb = equal-le cuts x xb y yb some_x e in
    let high : count_equal cuts y yb ≤ count_equal cuts x xb = equal-le cuts y yb x xb some_y (sym e) in
    omega (arith, low, high)

-- one that passes is counted
pub some-passes : (p : Cut → Bool) (cuts : List Cut) (k : ℕ) (c : Cut) → k < length cuts → p (get_or cuts k c) ≡ true → 1 ≤ length (filter p cuts)
some-passes p [] k c h e = absurd (omega (arith, h))
some-passes p (x ∷ cuts) zero c h e = omega (arith, length-cond (p x) x (filter p cuts), ap {B = ℕ} (λ t. cond t 1 0) e)
some-passes p (x ∷ cuts) (suc k) c h e =
    let rest : 1 ≤ length (filter p cuts) = some-passes p cuts k c (omega (arith, h)) e in
    omega (arith, rest, length-cond (p x) x (filter p cuts))

-- one of the list that is equal to a fraction is counted
pub one-le-count_equal : (cuts : List Cut) (c : Cut) (x xb : ℕ) → Contains cuts c → c.top * xb ≡ x * c.bottom → 1 ≤ count_equal cuts x xb
one-le-count_equal cuts c x xb (k, h, e) same =
    let test = λ (d : Cut). (d.top * xb) == (x * d.bottom) in
    let passes : test c ≡ true = eq-eqb _ _ same in
    some-passes test cuts k c h (ap test e ∙ passes)
