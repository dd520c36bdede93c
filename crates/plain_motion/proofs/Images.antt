-- Lists of what a relation leads to, one by one.
use Rattle.std.proofs.Common.{◌≡◌, ◌⊎◌, inl, inr, List, [], ◌∷◌, ◌++◌, get_or, pos, sym, subst, arith}
use Rattle.std.specs.Prelude.{Contains, All, ◌↔◌}
use Rattle.std.proofs.lemmas.List.Elements.{Contains-get_or, Contains-append_left, Contains-push, Contains-push_cases}
use Rattle.wheel_types.specs.declared.place.Place.{Place}
use Rattle.plain_motion.specs.declared.window.Walk.{Walk}

-- the list ys has that to which the relation leads from the list xs
abbrev pub AreImages : {X Y : Type 0} → (X → Y → Type 0) → List X → List Y → Type 0
AreImages {X} {Y} R xs ys = (y : Y) → Contains ys y ↔ ((x : X) × (Contains xs x × R x y))

none_in : {X : Type 0} (x : X) → Contains [] x → ⊥
none_in x h = omega (arith, h.1)

pub images_start : {X Y : Type 0} (R : X → Y → Type 0) → AreImages R [] []
images_start R y = (λ h. absurd (none_in y h), λ h. absurd (none_in h.0 h.1.0))

pub images_none : {X Y : Type 0} (R : X → Y → Type 0) (xs : List X) (ys : List Y) (x : X) → AreImages R xs ys → ((y : Y) → R x y → ⊥) → AreImages R (xs ++ x ∷ []) ys
images_none {X} {Y} R xs ys x h n y = (
  λ k. let from = (h y).0 k in (from.0, (Contains-append_left xs (x ∷ []) from.0 from.1.0, from.1.1)),
  λ k. by_cases k.0 k.1.1 (Contains-push_cases xs x k.0 k.1.0),
)
  where
    by_cases : (z : X) → R z y → Contains xs z ⊎ (x ≡ z) → Contains ys y
    by_cases z r (inl c) = (h y).1 (z, (c, r))
    by_cases z r (inr e) = absurd (n y (subst (λ v. R v y) (sym e) r))

pub images_some : {X Y : Type 0} (R : X → Y → Type 0) (xs : List X) (ys : List Y) (x : X) (z : Y) → AreImages R xs ys → R x z → ((y : Y) → R x y → y ≡ z) → AreImages R (xs ++ x ∷ []) (ys ++ z ∷ [])
images_some {X} {Y} R xs ys x z h here once y = (
  λ k. forward (Contains-push_cases ys z y k),
  λ k. back k.0 k.1.1 (Contains-push_cases xs x k.0 k.1.0),
)
  where
    forward : Contains ys y ⊎ (z ≡ y) → (v : X) × (Contains (xs ++ x ∷ []) v × R v y)
    forward (inl c) = let from = (h y).0 c in (from.0, (Contains-append_left xs (x ∷ []) from.0 from.1.0, from.1.1))
    forward (inr e) = (x, (Contains-push xs x, subst (R x) e here))

    back : (v : X) → R v y → Contains xs v ⊎ (x ≡ v) → Contains (ys ++ z ∷ []) y
    back v k (inl c) = Contains-append_left ys (z ∷ []) y ((h y).1 (v, (c, k)))
    back v k (inr e) = subst (Contains (ys ++ z ∷ [])) (sym (once y (subst (λ u. R u y) (sym e) k))) (Contains-push ys z)

pub all_from_contains : {X : Type 0} (P : X → Type 0) (xs : List X) → ((x : X) → Contains xs x → P x) → All P xs
all_from_contains P xs h k d b = h (get_or xs k d) (Contains-get_or xs k d b)

abbrev pub somewhere : Place
somewhere = record { j = 0; n1 = pos 0; n2 = pos 0 }

abbrev pub nowhere : Walk
nowhere = record { start = somewhere; end = somewhere }
