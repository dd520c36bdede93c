-- Lists that are made element by element.
use Rattle.std.proofs.Common.{◌≡◌, ℕ, zero, suc, ◌+◌, List, [], ◌∷◌, ◌++◌, take, slice_get, Some, sym, ap, subst, ◌∙◌, add-one}
use Rattle.std.proofs.lemmas.List.{append-nil, append_assoc, map-append}
use Rattle.std.specs.Prelude.{map, flat_map}
use Rattle.gap_thresholds.specs.declared.cut.Cut.{Cut}

-- a cut to ask lists for
abbrev pub no_cut : Cut
no_cut = record { top = 0; bottom = 1 }

pub take_next : {X : Type 0} (xs : List X) (i : ℕ) (x : X) → slice_get xs i ≡ Some x → take (suc i) xs ≡ take i xs ++ x ∷ []
take_next [] i x h = absurd (cc)
take_next (y ∷ xs) zero x h = let e : y ≡ x = cc in ap (λ z. z ∷ []) e
take_next (y ∷ xs) (suc i) x h = ap (λ ys. y ∷ ys) (take_next xs i x h)

-- one element more, where a function of each is kept
pub map_more : {X Y : Type 0} (f : X → Y) (xs : List X) (i : ℕ) (x : X) (y : Y) (old new : List Y) → slice_get xs i ≡ Some x → y ≡ f x → old ≡ map f (take i xs) → new ≡ old ++ y ∷ [] → new ≡ map f (take (i + 1) xs)
map_more f xs i x y old new at is before more =
    subst (λ n. new ≡ map f (take n xs)) (sym (add-one i))
    (more ∙ (ap (λ ys. ys ++ y ∷ []) before ∙ (ap (λ z. map f (take i xs) ++ z ∷ []) is ∙ (sym (map-append f (take i xs) (x ∷ [])) ∙ ap (map f) (sym (take_next xs i x at))))))

pub same_more : {X : Type 0} (xs : List X) (i : ℕ) (x : X) (old new : List X) → slice_get xs i ≡ Some x → old ≡ take i xs → new ≡ old ++ x ∷ [] → new ≡ take (i + 1) xs
same_more xs i x old new at before more = subst (λ n. new ≡ take n xs) (sym (add-one i)) (more ∙ (ap (λ ys. ys ++ x ∷ []) before ∙ sym (take_next xs i x at)))

flat_append : {X Y : Type 0} (f : X → List Y) (xs : List X) (x : X) → flat_map f (xs ++ x ∷ []) ≡ flat_map f xs ++ f x
flat_append f [] x = append-nil (f x)
flat_append f (y ∷ xs) x = ap (λ ys. f y ++ ys) (flat_append f xs x) ∙ sym (append_assoc (f y) (flat_map f xs) (f x))

pub flat_more : {X Y : Type 0} (f : X → List Y) (xs : List X) (i : ℕ) (x : X) (ys : List Y) (old new : List Y) → slice_get xs i ≡ Some x → ys ≡ f x → old ≡ flat_map f (take i xs) → new ≡ old ++ ys → new ≡ flat_map f (take (i + 1) xs)
flat_more f xs i x ys old new at is before more =
    subst (λ n. new ≡ flat_map f (take n xs)) (sym (add-one i))
    (more ∙ (ap (λ zs. zs ++ ys) before ∙ (ap (λ zs. flat_map f (take i xs) ++ zs) is ∙ (sym (flat_append f (take i xs) x) ∙ ap (flat_map f) (sym (take_next xs i x at))))))
