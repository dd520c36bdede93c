-- Lists of all that have a property, and what is decided.
use Rattle.std.proofs.Common.{◌≡◌, ◌⊎◌, inl, inr, ◌↔◌, List, [], ◌∷◌, ◌++◌, Bool, true, false, IsTrue, refl, sym, subst}

-- it is one of these
abbrev pub IsIn : {X : Type 0} → X → List X → Type 0
IsIn x [] = ⊥
IsIn x (y ∷ ys) = (y ≡ x) ⊎ IsIn x ys

-- these have the property, and no others
pub record Lists {X : Type 0} (P : X → Type 0) : Type 0 where
  pub members : List X
  pub are : (x : X) → IsIn x members ↔ P x

-- it holds or does not
abbrev pub Decided : Type 0 → Type 0
Decided P = P ⊎ (P → ⊥)

-- two decided properties are so together
pub both_decided : (P Q : Type 0) → Decided P → Decided Q → Decided (P × Q)
both_decided P Q (inl p) (inl q) = inl (p, q)
both_decided P Q (inl p) (inr n) = inr (λ h. n h.1)
both_decided P Q (inr n) d = inr (λ h. n h.0)

-- what a test says is decided
pub by_test : (P : Type 0) (b : Bool) → IsTrue b ↔ P → Decided P
by_test P true h = inl (h.0 refl)
by_test P false h = inr (λ p. let e : false ≡ true = h.1 p in absurd (cc))

-- ---- from lists to lists

-- nothing has the property
pub none_listed : {X : Type 0} (P : X → Type 0) → ((x : X) → P x → ⊥) → Lists P
none_listed P n = record { members = []; are = λ x. (λ h. absurd h, λ h. absurd (n x h)) }

-- one thing alone
pub one_listed : {X : Type 0} (x : X) → Lists (λ y. x ≡ y)
one_listed {X = X} x = record { members = x ∷ []; are = λ y. (there y, λ e. inl e) }
  where
    there : (y : X) → (x ≡ y) ⊎ ⊥ → x ≡ y
    there y (inl e) = e
    there y (inr h) = absurd h

-- what has the same members is listed too
pub relisted : {X : Type 0} (P Q : X → Type 0) → Lists P → ((x : X) → P x ↔ Q x) → Lists Q
relisted P Q l h = record { members = l.members; are = λ x. (λ k. (h x).0 ((l.are x).0 k), λ k. (l.are x).1 ((h x).1 k)) }

-- what is in two lists, one after the other, is in one of them
in_append : {X : Type 0} (x : X) (xs ys : List X) → IsIn x (xs ++ ys) → IsIn x xs ⊎ IsIn x ys
in_append x [] ys h = inr h
in_append x (z ∷ xs) ys (inl e) = inl (inl e)
in_append {X = X} x (z ∷ xs) ys (inr h) = further (in_append x xs ys h)
  where
    further : IsIn x xs ⊎ IsIn x ys → ((z ≡ x) ⊎ IsIn x xs) ⊎ IsIn x ys
    further (inl k) = inl (inr k)
    further (inr k) = inr k

-- and the other way round
append_in : {X : Type 0} (x : X) (xs ys : List X) → IsIn x xs ⊎ IsIn x ys → IsIn x (xs ++ ys)
append_in x [] ys (inl h) = absurd h
append_in x [] ys (inr h) = h
append_in x (z ∷ xs) ys (inl (inl e)) = inl e
append_in x (z ∷ xs) ys (inl (inr h)) = inr (append_in x xs ys (inl h))
append_in x (z ∷ xs) ys (inr h) = inr (append_in x xs ys (inr h))

-- those with the one property or the other
pub either_listed : {X : Type 0} (P Q : X → Type 0) → Lists P → Lists Q → Lists (λ x. P x ⊎ Q x)
either_listed {X = X} P Q l m = record { members = l.members ++ m.members; are = λ x. (λ h. there x (in_append x l.members m.members h), λ h. append_in x l.members m.members (back x h)) }
  where
    there : (x : X) → IsIn x l.members ⊎ IsIn x m.members → P x ⊎ Q x
    there x (inl h) = inl ((l.are x).0 h)
    there x (inr h) = inr ((m.are x).0 h)

    back : (x : X) → P x ⊎ Q x → IsIn x l.members ⊎ IsIn x m.members
    back x (inl h) = inl ((l.are x).1 h)
    back x (inr h) = inr ((m.are x).1 h)

-- those that one of these leads to
led_listed : {X Y : Type 0} (R : X → Y → Type 0) → ((x : X) → Lists (R x)) → (xs : List X) → Lists (λ y. (x : X) × (IsIn x xs × R x y))
led_listed R each [] = none_listed _ (λ y h. absurd h.1.0)
led_listed {X = X} {Y = Y} R each (z ∷ xs) = relisted _ _ (either_listed (R z) (λ y. (x : X) × (IsIn x xs × R x y)) (each z) (led_listed R each xs)) (λ y. (there y, λ h. back y h.0 h.1.0 h.1.1))
  where
    there : (y : Y) → R z y ⊎ ((x : X) × (IsIn x xs × R x y)) → (x : X) × (IsIn x (z ∷ xs) × R x y)
    there y (inl h) = (z, (inl refl, h))
    there y (inr h) = (h.0, (inr h.1.0, h.1.1))

    back : (y : Y) (x : X) → IsIn x (z ∷ xs) → R x y → R z y ⊎ ((x : X) × (IsIn x xs × R x y))
    back y x (inl e) h = inl (subst (λ u. R u y) (sym e) h)
    back y x (inr k) h = inr (x, (k, h))

-- where those that each leads to are listed, those that one with the property leads to
pub listed_through : {X Y : Type 0} (P : X → Type 0) (R : X → Y → Type 0) → Lists P → ((x : X) → Lists (R x)) → Lists (λ y. (x : X) × (P x × R x y))
listed_through P R l each = relisted _ _ (led_listed R each l.members) (λ y. (λ h. (h.0, ((l.are h.0).0 h.1.0, h.1.1)), λ h. (h.0, ((l.are h.0).1 h.1.0, h.1.1))))

-- those that have a decided property too
pub listed_with : {X : Type 0} (P Q : X → Type 0) → Lists P → ((x : X) → Decided (Q x)) → Lists (λ x. P x × Q x)
listed_with {X = X} P Q l d = relisted _ _ (listed_through P (λ x y. (x ≡ y) × Q x) l (λ x. by_cases x (d x))) (λ y. (λ h. (subst P h.1.1.0 h.1.0, subst Q h.1.1.0 h.1.1.1), λ h. (y, (h.0, (refl, h.1)))))
  where
    by_cases : (x : X) → Decided (Q x) → Lists (λ y. (x ≡ y) × Q x)
    by_cases x (inl h) = relisted _ _ (one_listed x) (λ y. (λ e. (e, h), λ k. k.0))
    by_cases x (inr n) = none_listed _ (λ y k. n k.1)
