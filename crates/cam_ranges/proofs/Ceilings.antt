-- The first multiple of a unit from a number on.
use Rattle.std.proofs.Common.{◌≡◌, ℕ, ◌+◌, ◌*◌, ◌<◌, ◌≤◌, ◌⊎◌, inl, inr, ◌↔◌, ℤ, pos, ◌+ℤ◌, ◌-ℤ◌, ◌*ℤ◌, ◌≤ℤ◌, sym, ◌∙◌, ap, subst, arith}
use Rattle.std.proofs.lemmas.Int.{ints}
use Rattle.std.proofs.Math.Nat.{add-mul, mul-le-mul, le_refl}
use Rattle.std.proofs.Math.IntN.{*ℤ_comm}
use borrow.Author.Differences.{up, down}
use Rattle.wheel_types.specs.Edges.{number_of, cycle_of}
use Rattle.wheel_types.proofs.Unrolled.{times, carried, number_below, distribute}

-- multiples rise
pub times_rise : (a b : ℤ) (k : ℕ) → a ≤ℤ b → (pos k *ℤ a) ≤ℤ (pos k *ℤ b)
times_rise a b k h =
    let apart : up a + down b ≤ up b + down a = omega (arith, ints, h) in
    let spread : (up a + down b) * k ≤ (up b + down a) * k = mul-le-mul apart (le_refl k) in
    rw (*ℤ_comm (pos k) a, *ℤ_comm (pos k) b) (omega (arith, ints, times a k, times b k, simp add-mul at spread))

-- one multiple back
one_back : (q : ℤ) (k : ℕ) → pos k *ℤ (q -ℤ pos 1) +ℤ pos k ≡ q *ℤ pos k
one_back q k =
    let one : pos 1 *ℤ pos k ≡ pos k = omega (arith, ints) in
    let back : (q -ℤ pos 1) +ℤ pos 1 ≡ q = omega (arith, ints) in
    ap (λ z. z +ℤ pos k) (*ℤ_comm (pos k) (q -ℤ pos 1))
    ∙ ap (λ z. (q -ℤ pos 1) *ℤ pos k +ℤ z) (sym one)
    ∙ sym (distribute (q -ℤ pos 1) (pos 1) k)
    ∙ ap (λ z. z *ℤ pos k) back

-- a multiple from the quotient on is from the number on
reached : (a b t v : ℤ) (u r : ℕ) → b ≡ (a +ℤ pos u) -ℤ pos 1 → b ≡ t +ℤ pos r → r < u → t ≤ℤ v → a ≤ℤ v
reached a b t v u r e f below h = omega (arith, ints, e, f, h)

-- a multiple before it is not
missed : (a b t v y : ℤ) (u r : ℕ) → b ≡ (a +ℤ pos u) -ℤ pos 1 → b ≡ t +ℤ pos r → y +ℤ pos u ≡ t → v ≤ℤ y → a ≤ℤ v → ⊥
missed a b t v y u r e f g h k = absurd (omega (arith, ints, e, f, g, h, k))

-- a number is from another on, or before it
either : (r n : ℤ) → (r ≤ℤ n) ⊎ (n ≤ℤ (r -ℤ pos 1))
either r n = grind (arith, ints)

-- the quotient rounded down, of a number that is a unit less one above, is the first multiple from the number on
pub ceiling : (u : ℕ) (a b : ℤ) → 0 < u → b ≡ (a +ℤ pos u) -ℤ pos 1 → (s : ℤ) → a ≤ℤ (pos u *ℤ s) ↔ cycle_of u b ≤ℤ s
ceiling u a b h e s = (λ k. from k (either q s), λ k. reached a b (q *ℤ pos u) (pos u *ℤ s) u (number_of u b) e (carried u b h) (number_below u b h) (subst (λ z. z ≤ℤ (pos u *ℤ s)) (*ℤ_comm (pos u) q) (times_rise q s u k)))
  where
    q : ℤ
    q = cycle_of u b

    from : a ≤ℤ (pos u *ℤ s) → (q ≤ℤ s) ⊎ (s ≤ℤ (q -ℤ pos 1)) → q ≤ℤ s
    from k (inl l) = l
    from k (inr l) = absurd (missed a b (q *ℤ pos u) (pos u *ℤ s) (pos u *ℤ (q -ℤ pos 1)) u (number_of u b) e (carried u b h) (one_back q u) (times_rise s (q -ℤ pos 1) u l) k)
