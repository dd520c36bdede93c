-- Taps that are told one mark more.
use Rattle.std.proofs.Common.{◌≡◌, ℕ, List, [], ◌∷◌, ◌++◌, refl, sym, ◌∙◌, ap}
use Rattle.tap_board.specs.Meanings.{Meaning, told, told_all}

-- one more mark last
pub told_last : (ms : List ℕ) (m : ℕ) (taps : List Meaning) → told m (told_all ms taps) ≡ told_all (ms ++ m ∷ []) taps
told_last [] m taps = refl
told_last (x ∷ ms) m taps = told_last ms m (told x taps)

-- taps that heard these marks, and then one more
pub heard_next : (taps mid live : List Meaning) (ms all : List ℕ) (m : ℕ) → mid ≡ told_all ms taps → live ≡ told m mid → all ≡ ms ++ m ∷ [] → live ≡ told_all all taps
heard_next taps mid live ms all m h n is = n ∙ ap (told m) h ∙ told_last ms m taps ∙ ap (λ l. told_all l taps) (sym is)
