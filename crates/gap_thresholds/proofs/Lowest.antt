-- Fractions in lowest terms: how they come about, and that two of equal value are one.
use Rattle.std.proofs.Common.{◌≡◌, ℕ, zero, suc, ◌+◌, ◌*◌, ◌/◌, ◌%◌, ◌<◌, ◌≤◌, sym, ◌∙◌, ap, subst, arith}
use Rattle.std.proofs.Math.Nat.{dvd-mul_right, mul-div_cancel', mul-lt-mul_of_pos_right}
use Rattle.std.proofs.lemmas.Nat.{div-add-mod', mod_below, same_from_place}
use Rattle.std.proofs.lemmas.Nat.Gcd.{le_of_dvd}
use Rattle.std.specs.Int.{IsGcd}
use Prim.Native.Nat.{◌∣◌}
use Rattle.gap_thresholds.specs.declared.cut.Cut.{Cut}
use Rattle.gap_thresholds.specs.Fractions.{IsLowest, IsEqual}

-- no number but 1 divides both
abbrev pub Apart : ℕ → ℕ → Type 0
Apart a b = (d x y : ℕ) → d * x ≡ a → d * y ≡ b → d ≡ 1

some_divisor : (b g : ℕ) → 1 ≤ b → g * (b / g) ≡ b → 0 < g
some_divisor b zero h e = absurd (omega (arith, e))
some_divisor b (suc g) h e = omega arith

-- the greatest divisor of a number above 0 is above 0
pub divisor_some : (a b g : ℕ) → 1 ≤ b → IsGcd a b g → 0 < g
divisor_some a b g h gcd = some_divisor b g h (mul-div_cancel' g gcd.1)

some_quotient : (b g q : ℕ) → 1 ≤ b → g * q ≡ b → 1 ≤ q
some_quotient b g zero h e = absurd (omega (arith, e))
some_quotient b g (suc q) h e = omega arith

at_most_one : (d g : ℕ) → 0 < g → d * g ≤ g → d ≤ 1
at_most_one zero g h k = omega arith
at_most_one (suc zero) g h k = omega arith
at_most_one (suc (suc d)) g h k = absurd (omega (arith, h, k))

not_zero : (d y q : ℕ) → 1 ≤ q → d * y ≡ q → 1 ≤ d
not_zero zero y q h e = absurd (omega (arith, e))
not_zero (suc d) y q h e = omega arith

product : (g d x q a : ℕ) → d * x ≡ q → g * q ≡ a → (d * g) * x ≡ a
product g d x q a e f = omega (arith, ap (λ n. g * n) e, f)

-- divided by the greatest divisor they have none left
pub apart_divided : (a b g : ℕ) → 1 ≤ b → IsGcd a b g → Apart (a / g) (b / g)
apart_divided a b g h gcd d x y e f =
    let some : 0 < g = divisor_some a b g h gcd in
    let first : g * (a / g) ≡ a = mul-div_cancel' g gcd.0 in
    let second : g * (b / g) ≡ b = mul-div_cancel' g gcd.1 in
    let in_first : (d * g) ∣ a = subst (λ n. (d * g) ∣ n) (product g d x (a / g) a e first) (dvd-mul_right (d * g) x) in
    let in_second : (d * g) ∣ b = subst (λ n. (d * g) ∣ n) (product g d y (b / g) b f second) (dvd-mul_right (d * g) y) in
    let most : d ≤ 1 = at_most_one d g some (le_of_dvd some (gcd.2 (d * g) in_first in_second)) in
    let least : 1 ≤ d = not_zero d y (b / g) (some_quotient b g (b / g) h second) f in
    omega (arith, most, least)

-- a bottom above 0 stays so
pub bottom_divided : (a b g : ℕ) → 1 ≤ b → IsGcd a b g → 1 ≤ b / g
bottom_divided a b g h gcd = some_quotient b g (b / g) h (mul-div_cancel' g gcd.1)

same_value : (a b g x y : ℕ) → g * x ≡ a → g * y ≡ b → x * b ≡ a * y
same_value a b g x y e f = omega (arith, ap (λ n. x * n) f, ap (λ n. n * y) e)

-- the value is as before
pub equal_divided : (a b g : ℕ) → IsGcd a b g → (a / g) * b ≡ a * (b / g)
equal_divided a b g gcd = same_value a b g (a / g) (b / g) (mul-div_cancel' g gcd.0) (mul-div_cancel' g gcd.1)

-- equal fractions have equal whole parts, and the rests are equal fractions
parts_alike : (a b c d q r p s : ℕ) → 1 ≤ b → 1 ≤ d → r < b → s < d → q * b + r ≡ a → p * d + s ≡ c → a * d ≡ c * b → (q ≡ p) × (r * d ≡ s * b)
parts_alike a b c d q r p s some_b some_d low_r low_s e f h =
    let first : r * d < b * d = mul-lt-mul_of_pos_right low_r some_d in
    let second : s * b < d * b = mul-lt-mul_of_pos_right low_s some_b in
    same_from_place q (r * d) p (s * b) (b * d) first (omega (arith, second)) (omega (arith, ap (λ n. n * d) e, ap (λ n. n * b) f, h))

no_rest : (s b : ℕ) → 1 ≤ b → 0 ≡ s * b → s ≡ 0
no_rest zero b h e = omega arith
no_rest (suc s) b h e = absurd (omega (arith, h, e))

some_rest : (r d s b : ℕ) → 1 ≤ r → 1 ≤ d → r * d ≡ s * b → 1 ≤ s
some_rest r d s b h k e = not_zero s b (r * d) (omega (arith, mul-lt-mul_of_pos_right {k = d} h k)) (sym e)

-- a bottom that divides its top is 1
whole_bottom : (a b q : ℕ) → Apart a b → q * b + 0 ≡ a → b ≡ 1
whole_bottom a b q apart e = apart b q 1 (omega (arith, e)) (omega arith)

-- the flipped fraction of the rest is in lowest terms too
flipped : (a b q r : ℕ) → Apart a b → q * b + r ≡ a → Apart b r
flipped a b q r apart e d x y f g = apart d (q * x + y) x (omega (arith, ap (λ n. q * n) f, g, e)) f

-- the tops are equal where all else is
tops : (a b c d q p r s : ℕ) → q * b + r ≡ a → p * d + s ≡ c → q ≡ p → b ≡ d → r ≡ s → a ≡ c
tops a b c d q p r s f g h i j = sym f ∙ ap (λ n. n * b + r) h ∙ ap (λ n. p * n + r) i ∙ ap (λ n. p * d + n) j ∙ g

-- equal fractions in lowest terms are one where the flipped fractions of their rests are
by_rests : (a b c d q p r s : ℕ) → 1 ≤ b → 1 ≤ d → r < b → s < d → Apart a b → Apart c d → q * b + r ≡ a → p * d + s ≡ c → a * d ≡ c * b → (1 ≤ r → 1 ≤ s → Apart b r → Apart d s → b * s ≡ d * r → (b ≡ d) × (r ≡ s)) → (a ≡ c) × (b ≡ d)
by_rests a b c d q p zero s some_b some_d low_r low_s one two f g e again =
    let alike = parts_alike a b c d q zero p s some_b some_d low_r low_s f g e in
    let none : s ≡ 0 = no_rest s b some_b (omega (arith, alike.1)) in
    let first : b ≡ 1 = whole_bottom a b q one f in
    let second : d ≡ 1 = whole_bottom c d p two (ap (λ n. p * d + n) (sym none) ∙ g) in
    let same : b ≡ d = first ∙ sym second in
    (tops a b c d q p zero s f g alike.0 same (sym none), same)
by_rests a b c d q p (suc r) s some_b some_d low_r low_s one two f g e again =
    let alike = parts_alike a b c d q (suc r) p s some_b some_d low_r low_s f g e in
    let more : 1 ≤ s = some_rest (suc r) d s b (omega arith) some_d alike.1 in
    let rests = again (omega arith) more (flipped a b q (suc r) one f) (flipped c d p s two g) (omega (arith, alike.1)) in
    (tops a b c d q p (suc r) s f g alike.0 rests.0 rests.1, rests.0)

-- two fractions in lowest terms that are equal in value have one top and one bottom, by Euclid's steps
same_parts : (n a b c d : ℕ) → b ≤ n → 1 ≤ b → 1 ≤ d → Apart a b → Apart c d → a * d ≡ c * b → (a ≡ c) × (b ≡ d)
same_parts zero a b c d small some_b some_d one two e = absurd (omega arith)
same_parts (suc n) a b c d small some_b some_d one two e =
    let low : a % b < b = mod_below a b some_b in
    by_rests a b c d (a / b) (c / d) (a % b) (c % d) some_b some_d low (mod_below c d some_d) one two (div-add-mod' a b) (div-add-mod' c d) e (λ h k f g e. same_parts n b (a % b) d (c % d) (omega (arith, low)) h k f g e)

-- two fractions in lowest terms that are equal in value are one
pub same_lowest : (c e : Cut) → IsLowest c → IsLowest e → IsEqual c e.top e.bottom → c ≡ e
same_lowest c e h k equal =
    let same = same_parts c.bottom c.top c.bottom e.top e.bottom (omega arith) h.0 k.0 h.1 k.1 equal in
    ap (λ n. record { top = n; bottom = c.bottom }) same.0 ∙ ap (λ n. record { top = e.top; bottom = n }) same.1
