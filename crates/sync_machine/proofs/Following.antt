-- One letter more of a walk.
use Rattle.std.proofs.Common.{◌≡◌, ℕ, ◌+◌, ◌<◌, ◌≤◌, List, length, drop, get_or, sym, ap, ◌∙◌, arith}
use Rattle.std.proofs.lemmas.List.{drop_more, drop_all}
use Rattle.image_layout.specs.Fields.{entry_at}
use Rattle.image_format.specs.Walk.{state_after, taken}
use Rattle.image_format.proofs.Walking.{after_zero, after_on, taken_zero, taken_on, after_all, taken_all}

module _ (b xs : List ℕ) (from q k to : ℕ) (there : k < length xs) (read : to ≡ entry_at b q (get_or xs k 0)) where
  pub ends_state : to ≡ 0 → state_after b q (drop k xs) ≡ state_after b from xs → to ≡ state_after b from xs
  ends_state e inv =
      e ∙ sym (after_zero b q (get_or xs k 0) (drop (k + 1) xs) (sym read ∙ e)) ∙ ap (λ (ys : List ℕ). state_after b q ys) (sym (drop_more xs k 0 there)) ∙ inv

  pub goes_on_state : (to ≡ 0 → ⊥) → state_after b q (drop k xs) ≡ state_after b from xs → state_after b to (drop (k + 1) xs) ≡ state_after b from xs
  goes_on_state e inv =
      ap (λ (r : ℕ). state_after b r (drop (k + 1) xs)) read
      ∙ sym (after_on b q (get_or xs k 0) (drop (k + 1) xs) (λ z. e (read ∙ z)))
      ∙ ap (λ (ys : List ℕ). state_after b q ys) (sym (drop_more xs k 0 there)) ∙ inv

  pub ends_reads : (n : ℕ) → to ≡ 0 → n + taken b q (drop k xs) ≡ taken b from xs → n + 1 ≡ taken b from xs
  ends_reads n e inv =
      ap (λ (r : ℕ). n + r) (sym (taken_zero b q (get_or xs k 0) (drop (k + 1) xs) (sym read ∙ e)) ∙ ap (λ (ys : List ℕ). taken b q ys) (sym (drop_more xs k 0 there))) ∙ inv

  pub goes_on_reads : (n : ℕ) → (to ≡ 0 → ⊥) → n + taken b q (drop k xs) ≡ taken b from xs → (n + 1) + taken b to (drop (k + 1) xs) ≡ taken b from xs
  goes_on_reads n e inv =
      let one : taken b q (drop k xs) ≡ 1 + taken b to (drop (k + 1) xs) =
      ap (λ (ys : List ℕ). taken b q ys) (drop_more xs k 0 there)
      ∙ taken_on b q (get_or xs k 0) (drop (k + 1) xs) (λ z. e (read ∙ z))
      ∙ ap (λ (r : ℕ). 1 + taken b r (drop (k + 1) xs)) (sym read) in
      omega (arith, one, inv)

module _ (b xs : List ℕ) (from q k : ℕ) (over : length xs ≤ k) where
  pub all_state : state_after b q (drop k xs) ≡ state_after b from xs → q ≡ state_after b from xs
  all_state inv = sym (after_all b q) ∙ ap (λ (ys : List ℕ). state_after b q ys) (sym (drop_all k xs over)) ∙ inv

  pub all_reads : (n : ℕ) → n + taken b q (drop k xs) ≡ taken b from xs → n ≡ taken b from xs
  all_reads n inv =
      let none : taken b q (drop k xs) ≡ 0 = ap (λ (ys : List ℕ). taken b q ys) (drop_all k xs over) ∙ taken_all b q in
      omega (arith, none, inv)
