-- What is printed of a report is read again.
use Rattle.std.proofs.Common.{◌≡◌, ℕ, zero, suc, ◌+◌, ◌*◌, ◌-◌, ◌/◌, ◌%◌, ◌^◌, ◌<◌, ◌≤◌, false, cond, List, [], ◌∷◌, ◌++◌, ℤ, pos, neg_ℤ, ◌≤ℤ◌, refl, sym, ◌∙◌, ap, arith, eqb}
use mathlib.Core.List.{append_assoc}
use Rattle.std.proofs.lemmas.Int.{ints}
use Rattle.std.proofs.lemmas.Bool.Decides.{nat_tests}
use Rattle.std.specs.Prelude.{Option, Some, None, decimal, codes, unsigned_abs}
use Rattle.std.specs.Fmt.{signed_decimal}
use Rattle.wheel_types.specs.declared.channel.Pol.{Pol}
use Rattle.wheel_types.specs.declared.channel.Pol.TheVariants.{Rise, Fall}
use Rattle.wheel_types.specs.declared.verdict.Verdict.{Verdict}
use Rattle.wheel_types.specs.declared.verdict.Verdict.TheVariants.{At, Open, Lost}
use Rattle.wheel_types.specs.declared.verdict.Report.{Report}
use Rattle.wheel_types.specs.Shapes.{digit_of, edge_of}
use Rattle.wheel_types.specs.Texts.{change_text, shape_text_of, place_text, verdict_text, report_line_text}
use Rattle.pair_certificate.specs.FirstReports.{edge_at, shape_at, at_verdict, open_verdict, verdict_at, report_at}
use Rattle.pair_certificate.specs.Readings.{IsReportLine}
use Rattle.pair_certificate.specs.Reports.{IsVerdictInRange, IsReportInRange}
use Rattle.pair_certificate.proofs.Again.{Stops, number_again, signed_again, place_again}

-- the edges of a shape before a space
edges_again : (a b c : Option Pol) (rest : List ℕ) → shape_at (change_text (codes "C") a ++ (change_text (codes "1") b ++ (change_text (codes "2") c ++ (32 ∷ rest)))) ≡ cond (eqb (digit_of a + 3 * digit_of b + 9 * digit_of c) 0) None (Some (digit_of a + 3 * digit_of b + 9 * digit_of c, 32 ∷ rest))
unfolding shape_at edge_at
edges_again None None None rest = refl
edges_again None None (Some Rise) rest = refl
edges_again None None (Some Fall) rest = refl
edges_again None (Some Rise) None rest = refl
edges_again None (Some Rise) (Some Rise) rest = refl
edges_again None (Some Rise) (Some Fall) rest = refl
edges_again None (Some Fall) None rest = refl
edges_again None (Some Fall) (Some Rise) rest = refl
edges_again None (Some Fall) (Some Fall) rest = refl
edges_again (Some Rise) None None rest = refl
edges_again (Some Rise) None (Some Rise) rest = refl
edges_again (Some Rise) None (Some Fall) rest = refl
edges_again (Some Rise) (Some Rise) None rest = refl
edges_again (Some Rise) (Some Rise) (Some Rise) rest = refl
edges_again (Some Rise) (Some Rise) (Some Fall) rest = refl
edges_again (Some Rise) (Some Fall) None rest = refl
edges_again (Some Rise) (Some Fall) (Some Rise) rest = refl
edges_again (Some Rise) (Some Fall) (Some Fall) rest = refl
edges_again (Some Fall) None None rest = refl
edges_again (Some Fall) None (Some Rise) rest = refl
edges_again (Some Fall) None (Some Fall) rest = refl
edges_again (Some Fall) (Some Rise) None rest = refl
edges_again (Some Fall) (Some Rise) (Some Rise) rest = refl
edges_again (Some Fall) (Some Rise) (Some Fall) rest = refl
edges_again (Some Fall) (Some Fall) None rest = refl
edges_again (Some Fall) (Some Fall) (Some Rise) rest = refl
edges_again (Some Fall) (Some Fall) (Some Fall) rest = refl

digit_back : (n : ℕ) → n < 3 → digit_of (edge_of n) ≡ n
digit_back zero h = refl
digit_back (suc zero) h = refl
digit_back (suc (suc zero)) h = refl
digit_back (suc (suc (suc n))) h = absurd (omega (arith, h))

number_back : (n : ℕ) → n ≤ 26 → digit_of (edge_of (n % 3)) + 3 * digit_of (edge_of (n / 3 % 3)) + 9 * digit_of (edge_of (n / 9)) ≡ n
number_back n h =
    let a : digit_of (edge_of (n % 3)) ≡ n % 3 = digit_back (n % 3) (omega arith) in
    let b : digit_of (edge_of (n / 3 % 3)) ≡ n / 3 % 3 = digit_back (n / 3 % 3) (omega arith) in
    let c : digit_of (edge_of (n / 9)) ≡ n / 9 = digit_back (n / 9) (omega (arith, h)) in
    omega (arith, a, b, c)

not_none : (n : ℕ) → 1 ≤ n → eqb n 0 ≡ false
not_none n h = grind (arith, nat_tests)

pub shape_again : (n : ℕ) (rest : List ℕ) → 1 ≤ n → n ≤ 26 → shape_at (shape_text_of n ++ (32 ∷ rest)) ≡ Some (n, 32 ∷ rest)
shape_again n rest some few =
    let a : Option Pol = edge_of (n % 3) in
    let b : Option Pol = edge_of (n / 3 % 3) in
    let c : Option Pol = edge_of (n / 9) in
    let apart : shape_text_of n ++ (32 ∷ rest) ≡ change_text (codes "C") a ++ (change_text (codes "1") b ++ (change_text (codes "2") c ++ (32 ∷ rest))) = append_assoc (change_text (codes "C") a) (change_text (codes "1") b ++ change_text (codes "2") c) (32 ∷ rest) ∙ ap (λ l. change_text (codes "C") a ++ l) (append_assoc (change_text (codes "1") b) (change_text (codes "2") c) (32 ∷ rest)) in
    ap shape_at apart ∙ edges_again a b c rest
    ∙ ap (λ m. cond (eqb m 0) None (Some (m, 32 ∷ rest))) (number_back n few)
    ∙ ap (λ t. cond t None (Some (n, 32 ∷ rest))) (not_none n some)

small : (n : ℕ) → n < 2 ^ 32 → n ≤ 2 ^ 32 - 1
small n h = omega (arith, h)

few : (n : ℕ) → n < 2 ^ 32 → n < 10 ^ 64
few n h = omega (arith, h)

pub verdict_again : (v : Verdict) (rest : List ℕ) → IsVerdictInRange v → Stops rest → verdict_at (verdict_text v ++ rest) ≡ Some (v, rest)
unfolding verdict_at at_verdict open_verdict
verdict_again (At j slot) rest h s =
    let after : List ℕ = codes " slot " ++ (decimal slot ++ rest) in
    let apart : verdict_text (At j slot) ++ rest ≡ codes "at " ++ (decimal j ++ after) = simp append_assoc in
    ap verdict_at apart
    ∙ rw (number_again (2 ^ 32 - 1) j after (small j h.0) (few j h.0) refl, number_again (2 ^ 32 - 1) slot rest (small slot h.1) (few slot h.1) s) refl
verdict_again (Open a b) rest h s =
    let after : List ℕ = 32 ∷ (place_text b ++ rest) in
    let apart : verdict_text (Open a b) ++ rest ≡ codes "open " ++ (place_text a ++ after) = simp append_assoc in
    ap verdict_at apart ∙ rw (place_again a after h.0 refl, place_again b rest h.1 s) refl
verdict_again Lost rest h s = refl

least_time : (t : ℤ) → unsigned_abs t ≤ 10 ^ 24 → neg_ℤ (pos (10 ^ 24)) ≤ℤ t
least_time t h = omega (arith, ints, h)

most_time : (t : ℤ) → unsigned_abs t ≤ 10 ^ 24 → t ≤ℤ pos (10 ^ 24)
most_time t h = omega (arith, ints, h)

pub report_again : (r : Report) → IsReportInRange r → report_at (report_line_text r) ≡ Some r
unfolding report_at
report_again r h =
    let last : List ℕ = 10 ∷ [] in
    let fourth : List ℕ = verdict_text r.verdict ++ last in
    let third : List ℕ = shape_text_of r.shape ++ (32 ∷ fourth) in
    let second : List ℕ = signed_decimal r.time ++ (32 ∷ third) in
    let index : r.index < 2 ^ 64 = h.index in
    rw (
      number_again (2 ^ 64 - 1) r.index (32 ∷ second) (omega (arith, index)) (omega (arith, index)) refl,
      signed_again (10 ^ 24) (10 ^ 24) r.time (32 ∷ third) (omega arith) (omega arith) (least_time r.time h.time) (most_time r.time h.time) refl,
      shape_again r.shape fourth h.some_edge h.shape,
      verdict_again r.verdict last h.verdict refl,
    ) refl

-- the record that a first reading gives of a line in the grammar is the line's
pub line_again : (line : List ℕ) (r : Report) (o : Option Report) → o ≡ report_at line → IsReportLine line r → o ≡ Some r
line_again line r o e is = e ∙ ap report_at is.text ∙ report_again r is.range

pub same_record : (a b : Report) (o : Option Report) → o ≡ Some a → o ≡ Some b → a ≡ b
same_record a b o e f = let g : Some a ≡ Some b = sym e ∙ f in cc
