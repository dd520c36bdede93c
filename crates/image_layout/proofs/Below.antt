-- The numbers below a bound, and how many of them pass a test.
use Rattle.std.proofs.Common.{◌≡◌, ℕ, zero, suc, ◌+◌, ◌<◌, Bool, true, false, cond, List, [], ◌∷◌, ◌++◌, length, get_or, refl, ap, ◌∙◌, arith, length-append, inl, inr}
use Rattle.std.specs.Prelude.{filter}
use Rattle.std.proofs.lemmas.Bool.{cases_lt}
use Rattle.std.proofs.lemmas.List.{get_or_append_left, get_or-append-add}
use Rattle.wheel_types.specs.Edges.{below}

-- one element more that may pass
pub filter_push : (p : ℕ → Bool) (xs : List ℕ) (k : ℕ) → length (filter p (xs ++ k ∷ [])) ≡ length (filter p xs) + cond (p k) 1 0
filter_push p [] k = elim (p k) as (λ v. length (cond v (k ∷ []) []) ≡ 0 + cond v 1 0) [ true ↦ refl | false ↦ refl ]
filter_push p (x ∷ xs) k =
    let rest = filter_push p xs k in
    elim (p x) as (λ v. length (cond v (x ∷ filter p (xs ++ k ∷ [])) (filter p (xs ++ k ∷ []))) ≡ length (cond v (x ∷ filter p xs) (filter p xs)) + cond (p k) 1 0)
    [ true ↦ omega (arith, rest) | false ↦ rest ]

-- there are as many as the bound
pub length-below : (n : ℕ) → length (below n) ≡ n
length-below zero = refl
length-below (suc n) = length-append (below n) (n ∷ []) ∙ omega (arith, length-below n)

-- and each stands at its own number
pub below_at : (n k e : ℕ) → k < n → get_or (below n) k e ≡ k
below_at zero k e there = absurd (omega arith)
below_at (suc n) k e there =
    let size = length-below n in
    elim (cases_lt k n) [
      | inl before ↦ get_or_append_left (below n) (n ∷ []) e k (omega (arith, size)) ∙ below_at n k e before
      | inr last ↦
          let at : k ≡ length (below n) + 0 = omega (arith, size) in
          let same : n ≡ k = omega arith in
          ap (λ (i : ℕ). get_or (below n ++ n ∷ []) i e) at ∙ get_or-append-add (below n) (n ∷ []) 0 e ∙ same
    ]
