-- Fronts of lists, item by item.
use Rattle.std.proofs.Common.{◌≡◌, ℕ, zero, suc, ◌+◌, ◌<◌, ◌≤◌, ◌⊎◌, inl, inr, List, [], ◌∷◌, length, take, take_all, ◌-◌, get_or, ⊎_elim, refl, sym, subst, arith}
use Rattle.std.proofs.lemmas.List.Elements.{All-append, All-cons, Contains-push_cases}
use Rattle.std.specs.Prelude.{All, Contains}
use Rattle.wheel_types.specs.declared.place.Place.{Place}
use Rattle.cam_ranges.specs.Places.{IsLess, IsAscending}
use Rattle.cam_ranges.proofs.OrderedLists.{less_through}
use Rattle.plain_motion.proofs.LeastPlaces.{take_one}

none_all : {X : Type 0} (P : X → Type 0) → All P []
none_all P k d h = absurd (omega (arith, h))

pub all_more : {X : Type 0} (P : X → Type 0) (xs : List X) (k : ℕ) (d : X) → k < length xs → All P (take k xs) → P (get_or xs k d) → All P (take (k + 1) xs)
all_more P xs k d h all here = subst (All P) (sym (take_one xs k d h)) (All-append P (take k xs) (get_or xs k d ∷ []) all (All-cons P (get_or xs k d) [] here (none_all P)))

pub not_more : {X : Type 0} (xs : List X) (k : ℕ) (d x : X) → k < length xs → (Contains (take k xs) x → ⊥) → (get_or xs k d ≡ x → ⊥) → Contains (take (k + 1) xs) x → ⊥
not_more xs k d x h none here c = by_cases (Contains-push_cases (take k xs) (get_or xs k d) x (subst (λ l. Contains l x) (take_one xs k d h) c))
  where
    by_cases : Contains (take k xs) x ⊎ (get_or xs k d ≡ x) → ⊥
    by_cases (inl n) = none n
    by_cases (inr e) = here e

-- what holds of all, holds of the front
pub all_done : {X : Type 0} (P : X → Type 0) (xs : List X) (k : ℕ) → length xs ≤ k → All P (take k xs) → All P xs
all_done P xs k h all = subst (All P) (take_all k xs h) all

-- each of the places below n stands before the next
abbrev pub RiseBelow : List Place → ℕ → Type 0
RiseBelow ps n = (a : ℕ) (d : Place) → a + 1 < n → IsLess (get_or ps a d) (get_or ps (a + 1) d)

pub rise_more : (ps : List Place) (n : ℕ) → RiseBelow ps n → ((d : Place) → 0 < n → IsLess (get_or ps (n - 1) d) (get_or ps n d)) → RiseBelow ps (n + 1)
rise_more ps n rise here a d h = by_cases (last_or_not a n h)
  where
    last_or_not : (a n : ℕ) → a + 1 < n + 1 → (a + 1 < n) ⊎ ((a ≡ n - 1) × ((a + 1 ≡ n) × (0 < n)))
    last_or_not a n h = grind arith

    by_cases : (a + 1 < n) ⊎ ((a ≡ n - 1) × ((a + 1 ≡ n) × (0 < n))) → IsLess (get_or ps a d) (get_or ps (a + 1) d)
    by_cases (inl k) = rise a d k
    by_cases (inr (e, (f, g))) = subst (λ m. IsLess (get_or ps m d) (get_or ps (a + 1) d)) (sym e) (subst (λ m. IsLess (get_or ps (n - 1) d) (get_or ps m d)) (sym f) (here d g))

next_or_not : (a b : ℕ) → a < suc b → (a < b) ⊎ (a ≡ b)
next_or_not a b h = grind arith

rises_to : (ps : List Place) → RiseBelow ps (length ps) → (a b : ℕ) (d : Place) → a < b → b < length ps → IsLess (get_or ps a d) (get_or ps b d)
rises_to ps rise a zero d h k = absurd (omega (arith, h))
rises_to ps rise a (suc b) d h k =
    let one : b + 1 ≡ suc b = omega arith in
    let step : IsLess (get_or ps b d) (get_or ps (suc b) d) = subst (λ m. IsLess (get_or ps b d) (get_or ps m d)) one (rise b d (omega (arith, k))) in
    ⊎_elim (λ l. less_through (get_or ps a d) (get_or ps b d) (get_or ps (suc b) d) (rises_to ps rise a b d l (omega (arith, k))) step) (λ e. subst (λ m. IsLess (get_or ps m d) (get_or ps (suc b) d)) (sym e) step) (next_or_not a b h)

pub rising_ascends : (ps : List Place) (n : ℕ) → length ps ≤ n → RiseBelow ps n → IsAscending ps
rising_ascends ps n h rise a b d l k = rises_to ps (λ c e m. rise c e (omega (arith, h, m))) a b d l k

-- places that ascend rise one by one
pub ascending_rises : (ps : List Place) (n : ℕ) (d : Place) → IsAscending ps → 0 < n → n < length ps → IsLess (get_or ps (n - 1) d) (get_or ps n d)
ascending_rises ps n d h some k = h (n - 1) n d (omega arith) k

get_or-any : (ps : List Place) (k : ℕ) (d e : Place) → k < length ps → get_or ps k d ≡ get_or ps k e
get_or-any [] k d e h = absurd (omega (arith, h))
get_or-any (p ∷ ps) zero d e h = refl
get_or-any (p ∷ ps) (suc k) d e h = get_or-any ps k d e (omega (arith, h))

pub less_anyhow : (ps : List Place) (n : ℕ) (d e : Place) → 0 < n → n < length ps → IsLess (get_or ps (n - 1) d) (get_or ps n d) → IsLess (get_or ps (n - 1) e) (get_or ps n e)
less_anyhow ps n d e some h less = subst (λ p. IsLess p (get_or ps n e)) (get_or-any ps (n - 1) d e (omega (arith, h, some))) (subst (λ p. IsLess (get_or ps (n - 1) d) p) (get_or-any ps n d e h) less)
