-- The kept edges of a channel, counted slot by slot.
use Rattle.std.proofs.Common.{◌≡◌, ℕ, zero, suc, ◌+◌, ◌/◌, ◌%◌, ◌^◌, Bool, true, cond, List, [], ◌∷◌, ◌++◌, length, get_or, refl, sym, ap, ◌∙◌, arith, ◌<◌, inl, inr, add-one}
use Rattle.std.specs.Prelude.{filter, is_some}
use Rattle.std.proofs.lemmas.List.{get_or_append_left, get_or-append-add}
use Rattle.std.proofs.lemmas.List.Elements.{filter-append}
use Rattle.std.proofs.lemmas.Bool.{cases_lt}
use Rattle.wheel_types.specs.Edges.{below, edge_at, edge_count, level_of, slot_before, keep_of, bit_of, kept, change}
use Rattle.wheel_types.specs.declared.channel.Channel.{Channel}
use Rattle.wheel_types.specs.declared.channel.Keep.{Keep}
use Rattle.wheel_types.specs.declared.parts.WheelParts.{WheelParts}
use Rattle.image_layout.proofs.Below.{filter_push}

module _ (w : WheelParts) (c : Channel) where
  pub counted_more : (k n : ℕ) (found : Bool) → n ≡ length (filter (λ i. is_some (edge_at w c i)) (below k)) → found ≡ is_some (edge_at w c k) → n + cond found 1 0 ≡ length (filter (λ i. is_some (edge_at w c i)) (below (k + 1)))
  counted_more k n found e f = rw (add-one k, f, e) (sym (filter_push (λ i. is_some (edge_at w c i)) (below k) k))

  pub before_is : (k : ℕ) → slot_before w (k + 1) ≡ k
  before_is k = rw add-one refl

  pub next_level : (xs : List ℕ) (k l : ℕ) → w.slots ≡ xs → l ≡ get_or xs k 0 / 2 ^ bit_of c % 2 → l ≡ level_of w c (slot_before w (k + 1))
  next_level xs k l same e = e ∙ ap (λ (ys : List ℕ). get_or ys k 0 / 2 ^ bit_of c % 2) (sym same) ∙ sym (ap (λ (i : ℕ). level_of w c i) (before_is k))

  kept_same : (k1 k2 : Keep) (a1 a2 b1 b2 : ℕ) → k1 ≡ k2 → a1 ≡ a2 → b1 ≡ b2 → is_some (kept k1 (change a1 b1)) ≡ is_some (kept k2 (change a2 b2))
  kept_same k1 k2 a1 a2 b1 b2 e f g = rw (e, f, g) refl

  pub edge_is : (xs : List ℕ) (keep : Keep) (k before l : ℕ) → w.slots ≡ xs → keep_of w c ≡ keep → before ≡ level_of w c (slot_before w k) → l ≡ get_or xs k 0 / 2 ^ bit_of c % 2 → is_some (kept keep (change before l)) ≡ is_some (edge_at w c k)
  edge_is xs keep k before l same keeps level e =
      kept_same keep (keep_of w c) before (level_of w c (slot_before w k)) l (level_of w c k) (sym keeps) level (e ∙ ap (λ (ys : List ℕ). get_or ys k 0 / 2 ^ bit_of c % 2) (sym same))

  pub counted_all : (k : ℕ) → k ≡ length w.slots → length (filter (λ i. is_some (edge_at w c i)) (below k)) ≡ edge_count w c
  counted_all k e = ap (λ (n : ℕ). length (filter (λ i. is_some (edge_at w c i)) (below n))) e

-- how many pass before one that passes
more_pass : (p : ℕ → Bool) (n k : ℕ) → k < n → p k ≡ true → length (filter p (below k)) < length (filter p (below n))
more_pass p zero k lt e = absurd (omega arith)
more_pass p (suc n) k lt e =
    let push = filter_push p (below n) n in
    elim (cases_lt k n) [
      | inl before ↦ let rest = more_pass p n k before e in omega (arith, push, rest)
      | inr last ↦
          let same : k ≡ n = omega arith in
          let here : p n ≡ true = rw same at e in
          let one : ℕ = 1 in
          let passes : cond (p n) 1 0 ≡ one = rw here refl in
          rw same (omega (arith, push, passes))
    ]

-- and which it is among those that pass
pub picked : (p : ℕ → Bool) (n k : ℕ) → k < n → p k ≡ true → get_or (filter p (below n)) (length (filter p (below k))) 0 ≡ k
picked p zero k lt e = absurd (omega arith)
picked p (suc n) k lt e =
    let parts : filter p (below n ++ n ∷ []) ≡ filter p (below n) ++ filter p (n ∷ []) = filter-append p (below n) (n ∷ []) in
    elim (cases_lt k n) [
      | inl before ↦ rw parts (get_or_append_left (filter p (below n)) (filter p (n ∷ [])) 0 (length (filter p (below k))) (more_pass p n k before e) ∙ picked p n k before e)
      | inr last ↦
          let same : k ≡ n = omega arith in
          let here : p n ≡ true = rw same at e in
          let one : filter p (n ∷ []) ≡ n ∷ [] = ap (λ (t : Bool). cond t (n ∷ []) []) here in
          let end : length (filter p (below n)) ≡ length (filter p (below n)) + 0 = omega arith in
          rw (same, parts, one) (ap (λ (i : ℕ). get_or (filter p (below n) ++ n ∷ []) i 0) end ∙ get_or-append-add (filter p (below n)) (n ∷ []) 0 0)
    ]
