-- The walk of letters, one at a time.
use Rattle.std.proofs.Common.{◌≡◌, ℕ, ◌+◌, List, [], ◌∷◌, refl}
use Rattle.std.proofs.lemmas.Bool.{cond-true, cond-false, ne_eqb, eq-eqb}
use Rattle.image_layout.specs.Fields.{entry_at}
use Rattle.image_format.specs.Walk.{state_after, taken}

module _ (b : List ℕ) (q letter : ℕ) (rest : List ℕ) where
  pub after_zero : entry_at b q letter ≡ 0 → state_after b q (letter ∷ rest) ≡ 0
  unfolding state_after
  after_zero e = cond-true _ _ _ (eq-eqb _ _ e)

  pub after_on : (entry_at b q letter ≡ 0 → ⊥) → state_after b q (letter ∷ rest) ≡ state_after b (entry_at b q letter) rest
  unfolding state_after
  after_on e = cond-false _ _ _ (ne_eqb _ _ e)

  pub taken_zero : entry_at b q letter ≡ 0 → taken b q (letter ∷ rest) ≡ 1
  unfolding taken
  taken_zero e = cond-true _ _ _ (eq-eqb _ _ e)

  pub taken_on : (entry_at b q letter ≡ 0 → ⊥) → taken b q (letter ∷ rest) ≡ 1 + taken b (entry_at b q letter) rest
  unfolding taken
  taken_on e = cond-false _ _ _ (ne_eqb _ _ e)

pub after_all : (b : List ℕ) (q : ℕ) → state_after b q [] ≡ q
unfolding state_after
after_all b q = refl

pub taken_all : (b : List ℕ) (q : ℕ) → taken b q [] ≡ 0
unfolding taken
taken_all b q = refl
