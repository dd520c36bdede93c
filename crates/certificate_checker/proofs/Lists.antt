-- Lists taken round onto others.
use Rattle.std.proofs.Common.{◌≡◌, List, [], ◌∷◌, ◌++◌, reverse, sym, ◌∙◌, ap, subst, arith}
use Rattle.std.proofs.lemmas.List.{reverse-append, append-nil}
use Rattle.std.specs.Prelude.{All, Contains}
use mathlib.Core.List.{append_assoc}
use Rattle.wheel_types.specs.declared.place.Place.{Place}
use Rattle.cam_ranges.specs.Places.{IsAscending}

-- the first list taken round, and then the other
abbrev pub onto : {X : Type 0} → List X → List X → List X
onto [] ys = ys
onto (x ∷ xs) ys = onto xs (x ∷ ys)

pub onto-reverse : {X : Type 0} (xs ys : List X) → onto xs ys ≡ reverse xs ++ ys
onto-reverse [] ys = refl
  where
    refl : ys ≡ reverse [] ++ ys
    refl = cc
onto-reverse (x ∷ xs) ys = onto-reverse xs (x ∷ ys) ∙ sym (append_assoc (reverse xs) (x ∷ []) ys) ∙ ap (λ l. l ++ ys) (sym (reverse-append (x ∷ []) xs))

pub onto-none : {X : Type 0} (xs : List X) → onto xs [] ≡ reverse xs
onto-none xs = onto-reverse xs [] ∙ append-nil (reverse xs)

-- an empty list has no place
pub none_in : {X : Type 0} (x : X) → Contains [] x → ⊥
none_in x h = omega (arith, h.1)

pub none_in-if : {X : Type 0} (xs : List X) (x : X) → xs ≡ [] → Contains xs x → ⊥
none_in-if xs x e h = none_in x (subst (λ l. Contains l x) e h)

-- it ascends, and whatever is asked of places holds of all its places
pub none_ascend : (ps : List Place) → ps ≡ [] → IsAscending ps
none_ascend ps e = subst IsAscending (sym e) (λ a b d h k. absurd (omega (arith, k)))

pub none_all : (P : Place → Type 0) (ps : List Place) → ps ≡ [] → All P ps
none_all P ps e = subst (All P) (sym e) (λ k d h. absurd (omega (arith, h)))
