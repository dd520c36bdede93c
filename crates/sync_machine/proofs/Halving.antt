-- A search that halves, and its cost.
use Rattle.std.proofs.Common.{◌≡◌, ◌≤◌, ◌<◌, ◌+◌, ◌-◌, ◌*◌, ◌^◌, ℕ, zero, suc, Bool, true, false, cond, ◌∙◌, arith, inl, inr}
use Rattle.std.proofs.Math.Nat.{mul-le-mul_left, pow-succ'}
use Rattle.std.proofs.Math.Pow.{pow_mono}
use Rattle.std.proofs.lemmas.Bool.{cases_lt}
use Rattle.wheel_types.specs.Edges.{below}
use Rattle.image_format.specs.Walk.{count_below}
use Rattle.image_layout.proofs.Below.{filter_push}

-- one more step on at most half of the width
pub record Halves (p n w2 : ℕ) : Type 0 where
  pub halved : p * w2 ≤ n
  pub cost : p ≤ 2 * n + 1

halves : (p n w w2 : ℕ) → p * w ≤ n → 0 < w → 2 * w2 ≤ w → Halves (2 * p) n w2
halves p n w w2 h some half =
    let a : p * (2 * w2) ≤ p * w = mul-le-mul_left p half in
    let b : p * 1 ≤ p * w = mul-le-mul_left p (omega arith) in
    record { halved = omega arith; cost = omega arith }

pub halves_at : (s s0 n w w2 : ℕ) → s0 ≤ s → 2 ^ (s - s0) * w ≤ n → 0 < w → 2 * w2 ≤ w → Halves (2 ^ (s + 1 - s0)) n w2
halves_at s s0 n w w2 le h some half =
    let e : s + 1 - s0 ≡ suc (s - s0) = omega arith in
    rw (e, pow-succ' 2 (s - s0)) (halves (2 ^ (s - s0)) n w w2 h some half)

pub count_more : (n : ℕ) (p : ℕ → Bool) → count_below (suc n) p ≡ count_below n p + cond (p n) 1 0
unfolding count_below
count_more n p = filter_push p (below n) n

-- all below a place pass, and none from it on
pub count_split : (n r : ℕ) (p : ℕ → Bool) → r ≤ n → ((k : ℕ) → k < r → p k ≡ true) → ((k : ℕ) → r ≤ k → k < n → p k ≡ false) → count_below n p ≡ r
unfolding count_below
count_split zero r p within passes fails = omega arith
count_split (suc n) r p within passes fails =
    elim (cases_lt n r) [
      | inl all ↦
          let same : r ≡ suc n = omega arith in
          let rest = count_split n n p (omega arith) (λ k a. passes k (omega arith)) (λ k a b. absurd (omega arith)) in
          let here = passes n all in
          count_more n p ∙ rw (here, rest, same) (omega arith)
      | inr some ↦
          let rest = count_split n r p some passes (λ k a b. fails k a (omega arith)) in
          let here = fails n some (omega arith) in
          count_more n p ∙ rw (here, rest) (omega arith)
    ]

-- one alone passes
pub count_one : (n m : ℕ) (p : ℕ → Bool) → m < n → p m ≡ true → ((k : ℕ) → k < n → (k ≡ m → ⊥) → p k ≡ false) → count_below n p ≡ 1
unfolding count_below
count_one zero m p there passes fails = absurd (omega arith)
count_one (suc n) m p there passes fails =
    elim (cases_lt m n) [
      | inl before ↦
          let rest = count_one n m p before passes (λ k a b. fails k (omega arith) b) in
          let here = fails n (omega arith) (λ e. omega arith) in
          count_more n p ∙ rw (here, rest) (omega arith)
      | inr last ↦
          let same : m ≡ n = omega arith in
          let rest = count_split n 0 p (omega arith) (λ k a. absurd (omega arith)) (λ k a b. fails k (omega arith) (λ e. omega arith)) in
          let here : p n ≡ true = rw same at passes in
          count_more n p ∙ rw (here, rest) (omega arith)
    ]

-- none passes
pub count_none : (n : ℕ) (p : ℕ → Bool) → ((k : ℕ) → k < n → p k ≡ false) → count_below n p ≡ 0
count_none n p fails = count_split n 0 p (omega arith) (λ k a. absurd (omega arith)) (λ k a b. fails k b)

-- a count with this many binary digits bounds the steps
pub steps_bound : (s0 s n c : ℕ) → s0 ≤ s → 2 ^ (s - s0) ≤ 2 * n + 1 → n < 2 ^ c → s ≤ s0 + c
steps_bound s0 s n c le cost digits =
    elim (cases_lt (s0 + c) s) [
      | inl more ↦
          let grows : 2 ^ suc c ≤ 2 ^ (s - s0) = pow_mono {i = suc c} {j = s - s0} (omega arith) in
          let twice = pow-succ' 2 c in
          absurd (omega (arith, grows, twice, cost, digits))
      | inr bound ↦ bound
    ]
