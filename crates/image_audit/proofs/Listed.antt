-- Lists that are compared entry by entry.
use Rattle.std.proofs.Common.{◌≡◌, inl, inr, ℕ, suc, ◌<◌, ◌≤◌, List, [], ◌∷◌, length, Some, None, slice_get, get_or, refl, sym, ap, ◌∙◌, arith}
use Rattle.std.proofs.lemmas.Bool.{cases_lt}
use Rattle.std.proofs.lemmas.List.{length-map}
use Rattle.std.proofs.lemmas.Option.{slice_get-map, slice_get-get_or, slice_get_past}
use Rattle.std.specs.Prelude.{map, option_map}
use Rattle.wheel_types.specs.Edges.{below}
use Rattle.image_layout.proofs.Below.{length-below, below_at}

-- an entry of a list that a function makes of numbers
pub at_map : {X : Type 0} (f : ℕ → X) (n k : ℕ) → k < n → slice_get (map f (below n)) k ≡ Some (f k)
at_map f n k lt =
    let size : length (below n) ≡ n = length-below n in
    slice_get-map f (below n) k ∙ ap (option_map f) (slice_get-get_or (below n) k 0 (omega (arith, size, lt)) ∙ ap Some (below_at n k 0 lt))

-- and none past its end
pub past_map : {X : Type 0} (f : ℕ → X) (n k : ℕ) → n ≤ k → slice_get (map f (below n)) k ≡ None
past_map f n k le =
    let size : length (map f (below n)) ≡ n = length-map (below n) f ∙ length-below n in
    slice_get_past (map f (below n)) k (omega (arith, size, le))

-- lists with the same entries are one
pub same_entries : {X : Type 0} (xs ys : List X) → ((k : ℕ) → slice_get xs k ≡ slice_get ys k) → xs ≡ ys
same_entries [] [] each = refl
same_entries [] (y ∷ ys) each = let e : None ≡ Some y = each 0 in absurd (cc)
same_entries (x ∷ xs) [] each = let e : Some x ≡ None = each 0 in absurd (cc)
same_entries (x ∷ xs) (y ∷ ys) each =
    let head : Some x ≡ Some y = each 0 in
    let one : x ≡ y = cc in
    λ i. one i ∷ same_entries xs ys (λ k. each (suc k)) i

-- so are two whose entries are the same as far as the longer one reaches
pub same_lists : {X : Type 0} (xs ys : List X) (n : ℕ) → length xs ≤ n → length ys ≤ n → ((k : ℕ) → k < n → slice_get xs k ≡ slice_get ys k) → xs ≡ ys
same_lists xs ys n le more each = same_entries xs ys (λ k. elim (cases_lt k n) [
  | inl lt ↦ each k lt
  | inr past ↦ slice_get_past xs k (omega (arith, past, le)) ∙ sym (slice_get_past ys k (omega (arith, past, more)))
])

-- an entry of a list that a function makes of another, and none past its end
pub at_made : {X Y : Type 0} (f : X → Y) (xs : List X) (k : ℕ) (d : X) (y : Y) → k < length xs → y ≡ f (get_or xs k d) → Some y ≡ slice_get (map f xs) k
at_made f xs k d y lt e = ap Some e ∙ sym (slice_get-map f xs k ∙ ap (option_map f) (slice_get-get_or xs k d lt))

pub past_made : {X Y : Type 0} (f : X → Y) (xs : List X) (k : ℕ) → length xs ≤ k → None ≡ slice_get (map f xs) k
past_made f xs k le = sym (slice_get_past (map f xs) k (omega (arith, le, length-map xs f)))
