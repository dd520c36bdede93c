-- How a list of numbers is gathered from the items of an array, and how many items a pair has.
use Rattle.std.proofs.Common.{◌≡◌, ℕ, ◌<◌, ◌≤◌, ◌+◌, List, [], ◌∷◌, ◌++◌, Option, Some, None, drop, get_or, length, refl, ap, arith}
use Rattle.toml.specs.Data.{Data}
use Rattle.toml.specs.View.{view, items_view}
use Rattle.toml.specs.declared.value.Value.{Value}
use Rattle.toml.proofs.Views.{items_view-drop}
use Rattle.wheel_pattern.specs.Values.{in_front, all_below, whole_below, two_items}

-- these numbers in front of the others, where those are there
abbrev pub after_front : List ℕ → Option (List ℕ) → Option (List ℕ)
after_front [] ns = ns
after_front (x ∷ xs) ns = in_front (Some x) (after_front xs ns)

pub after_front-none : (xs : List ℕ) → after_front xs None ≡ None
after_front-none [] = refl
after_front-none (x ∷ xs) = rw (after_front-none xs) refl

pub after_front-done : (xs : List ℕ) → after_front xs (Some []) ≡ Some xs
after_front-done [] = refl
after_front-done (x ∷ xs) = rw (after_front-done xs) refl

pub after_front-push : (xs : List ℕ) (x : ℕ) (ns : Option (List ℕ)) → after_front (xs ++ x ∷ []) ns ≡ after_front xs (in_front (Some x) ns)
after_front-push [] x ns = refl
after_front-push (y ∷ xs) x ns = ap (in_front (Some y)) (after_front-push xs x ns)

-- the items at and after an index, by the first of them
pub all_below-drop : (bound : ℕ) (vs : List Value) (i : ℕ) (d : Value) → i < length vs
    → all_below bound (items_view (drop i vs)) ≡ in_front (whole_below bound (view (get_or vs i d))) (all_below bound (items_view (drop (i + 1) vs)))
all_below-drop bound vs i d h = ap (all_below bound) (items_view-drop vs i d h)

-- fewer than two items are no pair, nor are three or more
pub too_few : {A B : Type 0} (first : Data → Option A) (second : Data → Option B) (vs : List Value) → length vs < 2
    → two_items first second (items_view vs) ≡ None
too_few first second [] h = refl
too_few first second (v ∷ []) h = refl
too_few first second (v ∷ w ∷ vs) h = absurd (omega arith)

pub too_many : {A B : Type 0} (first : Data → Option A) (second : Data → Option B) (vs : List Value) → 3 ≤ length vs
    → two_items first second (items_view vs) ≡ None
too_many first second [] h = refl
too_many first second (v ∷ []) h = refl
too_many first second (v ∷ w ∷ []) h = absurd (omega arith)
too_many first second (v ∷ w ∷ x ∷ vs) h = refl
