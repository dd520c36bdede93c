-- Two lists that rise and have the same members are one.
use Rattle.std.proofs.Common.{◌≡◌, ℕ, suc, ◌<◌, ◌⊎◌, inl, inr, List, [], ◌∷◌, length, get_or, Contains, refl, sym, subst, ◌∙◌, arith}
use Rattle.std.specs.Prelude.{⊤}
use Rattle.std.proofs.lemmas.List.Elements.{Contains-get_or, Contains-append_cases, Contains-append_right, Contains-push_cases}

-- each is less than all that come after it
abbrev pub Rises : {X : Type 0} → (X → X → Type 0) → List X → Type 0
Rises Less [] = ⊤
Rises {X} Less (x ∷ xs) = ((y : X) → Contains xs y → Less x y) × Rises Less xs

pub rising : {X : Type 0} (Less : X → X → Type 0) (xs : List X) → ((i j : ℕ) (d : X) → i < j → j < length xs → Less (get_or xs i d) (get_or xs j d)) → Rises Less xs
rising Less [] up = tt
rising Less (x ∷ xs) up = (
  λ y at. subst (λ z. Less x z) at.2 (up 0 (suc at.0) y (omega arith) (omega (arith, at.1))),
  rising Less xs (λ i j d before within. up (suc i) (suc j) d (omega (arith, before)) (omega (arith, within))),
)

in_none : {X : Type 0} (x : X) → Contains [] x → ⊥
in_none x at = omega (arith, at.1)

first : {X : Type 0} (x : X) (xs : List X) → Contains (x ∷ xs) x
first x xs = Contains-get_or (x ∷ xs) 0 x (omega arith)

in_more : {X : Type 0} (y : X) (ys : List X) (x : X) → Contains (y ∷ ys) x → (x ≡ y) ⊎ Contains ys x
in_more {X} y ys x at = by (Contains-append_cases (y ∷ []) ys x at)
  where
    by_one : Contains [] x ⊎ (y ≡ x) → (x ≡ y) ⊎ Contains ys x
    by_one (inl none) = absurd (in_none x none)
    by_one (inr is) = inl (sym is)

    by : Contains (y ∷ []) x ⊎ Contains ys x → (x ≡ y) ⊎ Contains ys x
    by (inl one) = by_one (Contains-push_cases [] y x one)
    by (inr rest) = inr rest

heads : {X : Type 0} (Less : X → X → Type 0) (asym : (x y : X) → Less x y → Less y x → ⊥) (x y : X) (xs ys : List X) → Rises Less (x ∷ xs) → Rises Less (y ∷ ys)
    → (x ≡ y) ⊎ Contains ys x → (y ≡ x) ⊎ Contains xs y → x ≡ y
heads Less asym x y xs ys r s (inl is) other = is
heads Less asym x y xs ys r s (inr at) (inl is) = sym is
heads Less asym x y xs ys r s (inr at) (inr there) = absurd (asym y x (s.0 x at) (r.0 y there))

-- a later member of the one is no first member of the other
later : {X : Type 0} (Less : X → X → Type 0) (asym : (x y : X) → Less x y → Less y x → ⊥) (x y z : X) (ys : List X) → x ≡ y → Less x z → (z ≡ y) ⊎ Contains ys z → Contains ys z
later Less asym x y z ys same less (inl is) = let self : Less z z = subst (λ u. Less u z) (same ∙ sym is) less in absurd (asym z z self self)
later Less asym x y z ys same less (inr at) = at

pub one_list : {X : Type 0} (Less : X → X → Type 0) (asym : (x y : X) → Less x y → Less y x → ⊥) (xs ys : List X) → Rises Less xs → Rises Less ys
    → ((z : X) → Contains xs z → Contains ys z) → ((z : X) → Contains ys z → Contains xs z) → xs ≡ ys
one_list Less asym [] [] r s to from = refl
one_list Less asym [] (y ∷ ys) r s to from = absurd (in_none y (from y (first y ys)))
one_list Less asym (x ∷ xs) [] r s to from = absurd (in_none x (to x (first x xs)))
one_list Less asym (x ∷ xs) (y ∷ ys) r s to from =
    let same : x ≡ y = heads Less asym x y xs ys r s (in_more y ys x (to x (first x xs))) (in_more x xs y (from y (first y ys))) in
    let rest : xs ≡ ys = one_list Less asym xs ys r.1 s.1
    (λ z at. later Less asym x y z ys same (r.0 z at) (in_more y ys z (to z (Contains-append_right (x ∷ []) xs z at))))
    (λ z at. later Less asym y x z xs (sym same) (s.0 z at) (in_more x xs z (from z (Contains-append_right (y ∷ []) ys z at)))) in
    λ i. same i ∷ rest i
