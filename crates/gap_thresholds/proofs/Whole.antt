-- Whole numbers as fractions.
use Rattle.std.proofs.Common.{◌≡◌, ℕ, zero, suc, ◌*◌, ◌∙◌, arith}
use Rattle.gap_thresholds.specs.declared.cut.Cut.{Cut}
use Rattle.gap_thresholds.specs.Fractions.{IsLowest}

one_alone : (d y : ℕ) → d * y ≡ 1 → d ≡ 1
one_alone zero y e = omega (arith, e)
one_alone (suc d) zero e = omega (arith, e)
one_alone (suc d) (suc y) e = omega (arith, e)

-- a whole number is in lowest terms
pub lowest_from_whole : (c : Cut) → c.bottom ≡ 1 → IsLowest c
lowest_from_whole c e = (omega arith, λ d x y p q. one_alone d y (q ∙ e))

-- fractions with one top and one bottom are one
pub same_cut : (c d : Cut) → c.top ≡ d.top → c.bottom ≡ d.bottom → c ≡ d
same_cut c d p q = same c.top d.top c.bottom d.bottom p q
  where
    same : (a b x y : ℕ) → a ≡ b → x ≡ y → ◌≡◌ {A = Cut} (record { top = a; bottom = x }) (record { top = b; bottom = y })
    same a b x y p q = rw (p, q)
