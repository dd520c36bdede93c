-- The text of a shape's number is that of the instants that have the shape.
use Rattle.std.proofs.Common.{◌≡◌, ℕ, ◌+◌, ◌*◌, ◌/◌, ◌%◌, ◌<◌, List, ◌++◌, refl, ◌∙◌, ap, arith}
use Rattle.std.specs.Prelude.{Option, Some, None, decimal, codes}
use Rattle.std.specs.Fmt.{signed_decimal}
use Rattle.wheel_types.specs.declared.channel.Pol.{Pol}
use Rattle.wheel_types.specs.declared.channel.Pol.TheVariants.{Rise, Fall}
use Rattle.wheel_types.specs.declared.instant.Instant.{Instant}
use Rattle.wheel_types.specs.declared.verdict.Report.{Report}
use Rattle.wheel_types.specs.Shapes.{digit_of, edge_of, shape_number}
use Rattle.wheel_types.specs.Texts.{change_text, shape_text, shape_text_of, verdict_text, line_text, report_line_text}

digit_below : (a : Option Pol) → digit_of a < 3
digit_below None = omega arith
digit_below (Some Rise) = omega arith
digit_below (Some Fall) = omega arith

-- a digit stands for the edge that has it
pub edge_of-digit : (a : Option Pol) → edge_of (digit_of a) ≡ a
edge_of-digit None = refl
edge_of-digit (Some Rise) = refl
edge_of-digit (Some Fall) = refl

first_digit : (a b c : ℕ) → a < 3 → b < 3 → (a + 3 * b + 9 * c) % 3 ≡ a
first_digit a b c h g = omega arith

second_digit : (a b c : ℕ) → a < 3 → b < 3 → (a + 3 * b + 9 * c) / 3 % 3 ≡ b
second_digit a b c h g = omega arith

third_digit : (a b c : ℕ) → a < 3 → b < 3 → (a + 3 * b + 9 * c) / 9 ≡ c
third_digit a b c h g = omega arith

three_texts : (a b c d e f : Option Pol) → a ≡ d → b ≡ e → c ≡ f → change_text (codes "C") a ++ (change_text (codes "1") b ++ change_text (codes "2") c) ≡ change_text (codes "C") d ++ (change_text (codes "1") e ++ change_text (codes "2") f)
three_texts a b c d e f p q r = rw (p, q, r)

-- the text of an instant's shape
pub shape_text_of-instant : (i : Instant) → shape_text_of (shape_number i.crank i.cam1 i.cam2) ≡ shape_text i
shape_text_of-instant i =
    let a = digit_of i.crank in
    let b = digit_of i.cam1 in
    let c = digit_of i.cam2 in
    three_texts _ _ _ _ _ _
    (ap edge_of (first_digit a b c (digit_below i.crank) (digit_below i.cam1)) ∙ edge_of-digit i.crank)
    (ap edge_of (second_digit a b c (digit_below i.crank) (digit_below i.cam1)) ∙ edge_of-digit i.cam1)
    (ap edge_of (third_digit a b c (digit_below i.crank) (digit_below i.cam1)) ∙ edge_of-digit i.cam2)

line : List ℕ → List ℕ → List ℕ → List ℕ → List ℕ
line index time shape verdict = index ++ (codes " " ++ (time ++ (codes " " ++ (shape ++ (codes " " ++ (verdict ++ codes "\n"))))))

-- the line of a record that an instant with its shape gives
pub report_line_text-instant : (r : Report) (i : Instant) → r.time ≡ i.time → r.shape ≡ shape_number i.crank i.cam1 i.cam2 → report_line_text r ≡ line_text r.index i r.verdict
unfolding line
report_line_text-instant r i t s =
    ap (λ z. line (decimal r.index) (signed_decimal z) (shape_text_of r.shape) (verdict_text r.verdict)) t
    ∙ ap (λ z. line (decimal r.index) (signed_decimal i.time) z (verdict_text r.verdict)) (ap shape_text_of s ∙ shape_text_of-instant i)
