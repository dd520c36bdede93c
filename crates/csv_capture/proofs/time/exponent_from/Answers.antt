use Rattle.std.proofs.Common.{◌≡◌, ◌∙◌, ◌<◌, ◌≤◌, ◌+◌, ◌-◌, ℕ, Bool, true, false, List, [], ◌∷◌, length, drop, refl, sym, ap, arith}
use Rattle.std.specs.List.{after_first, list_any, position_or_len}
use Rattle.std.proofs.lemmas.List.{length-drop, take_all}
use Rattle.std.proofs.lemmas.List.Folds.{list_any_at}
use Rattle.std.proofs.lemmas.List.Sums.{passes_at_first}
use Rattle.csv_capture.specs.Times.{exponent_of, is_mark}
use Rattle.csv_capture.proofs.time.exponent_from.Goals as goal

any_within : (text : List ℕ) → position_or_len is_mark text < length text → list_any is_mark text ≡ true
any_within text h = list_any_at is_mark text (position_or_len is_mark text) 0 h (passes_at_first is_mark text 0 h)

none_past : (text : List ℕ) → length text ≤ position_or_len is_mark text → list_any is_mark text ≡ false
none_past [] h = refl
none_past (b ∷ bytes) h = by (is_mark b) refl (none_past bytes)
  where
    by : (m : Bool) → is_mark b ≡ m → (length bytes ≤ position_or_len is_mark bytes → list_any is_mark bytes ≡ false) → list_any is_mark (b ∷ bytes) ≡ false
    by true e more =
        let first : position_or_len is_mark (b ∷ bytes) ≡ 0 = rw e refl in
        absurd (omega (arith, first, h))
    by false e more =
        let next : position_or_len is_mark (b ∷ bytes) ≡ 1 + position_or_len is_mark bytes = rw e refl in
        rw e (more (omega (arith, next, h)))

pub returns-then-at-text : goal.returns-then-at-text
returns-then-at-text c =
    let text = c.args.text.now in
    let at = c.args.at in
    let some = any_within text (omega (arith, c.requires, c.if-at-text.true)) in
    let rest : after_first is_mark text ≡ drop (at + 1) text = ap (λ (k : ℕ). drop (k + 1) text) (sym c.requires) in
    let all = take_all (length text - (at + 1)) (drop (at + 1) text) (omega (arith, length-drop (at + 1) text)) in
    rw some (c.exponent_of.ensures ∙ ap exponent_of (all ∙ sym rest))

pub returns-else-at-text : goal.returns-else-at-text
returns-else-at-text c =
    let none = none_past c.args.text.now (omega (arith, c.requires, c.if-at-text.false)) in
    rw none refl
