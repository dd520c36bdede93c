use Rattle.std.proofs.Common.{◌≡◌, ◌∙◌, ◌-◌, ◌&&◌, ◌++◌, Bool, List, ℕ, length, drop, sym, ap}
use Rattle.std.specs.List.{list_all}
use Rattle.std.proofs.lemmas.List.Folds.{list_all-append}
use Rattle.csv_capture.specs.Digits.{is_zero}
use Rattle.csv_capture.proofs.Numbers.{drop-both}
use Rattle.csv_capture.proofs.digits.is_whole_at.Goals as goal

-- the digits after a place, in two parts
zeros_both : (whole fraction : List ℕ) (count : ℕ) → list_all is_zero (drop count (whole ++ fraction)) ≡ (list_all is_zero (drop count whole) && list_all is_zero (drop (count - length whole) fraction))
zeros_both whole fraction count =
    ap (list_all is_zero) (drop-both count whole fraction) ∙ list_all-append is_zero (drop count whole) (drop (count - length whole) fraction)

pub returns-then-all_zeros : goal.returns-then-all_zeros
returns-then-all_zeros c =
    let first = sym c.all_zeros.ensures ∙ c.if-all_zeros.true in
    let after = ap (list_all is_zero) (c.back-then-all_zeros.ensures ∙ ap (λ (k : ℕ). drop k c.args.fraction.now) c.saturating_sub.ensures) in
    c.all_zeros-then-all_zeros.ensures ∙ after
    ∙ sym (zeros_both c.args.whole.now c.args.fraction.now c.args.count ∙ ap (λ (b : Bool). b && list_all is_zero (drop (c.args.count - length c.args.whole.now) c.args.fraction.now)) (ap (list_all is_zero) (sym c.back.ensures) ∙ first))
