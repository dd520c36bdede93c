-- Joined lines are the lines of their text.
use Rattle.std.proofs.Common.{◌≡◌, ◌≢◌, ℕ, suc, ◌/◌, ◌%◌, ◌^◌, ◌<◌, ◌≤◌, true, false, List, [], ◌∷◌, ◌++◌, ℤ, pos, negsuc, eqb, refl, sym, ◌∙◌, ap, subst, arith}
use mathlib.Core.List.{append_assoc}
use Rattle.std.proofs.lemmas.Bool.{false≢true}
use Rattle.std.proofs.lemmas.Bool.Decides.{nat_tests}
use Rattle.std.proofs.lemmas.Int.{ints}
use Rattle.std.specs.List.{list_all}
use Rattle.std.specs.Fmt.{signed_decimal}
use Rattle.std.specs.Prelude.{All, Option, Some, None, decimal, codes, flat_map, unsigned_abs, ⊤}
use Rattle.wheel_types.specs.declared.channel.Pol.{Pol}
use Rattle.wheel_types.specs.declared.channel.Pol.TheVariants.{Rise, Fall}
use Rattle.wheel_types.specs.declared.place.Place.{Place}
use Rattle.wheel_types.specs.declared.verdict.Verdict.{Verdict}
use Rattle.wheel_types.specs.declared.verdict.Verdict.TheVariants as verdict
use Rattle.wheel_types.specs.declared.verdict.Report.{Report}
use Rattle.wheel_types.specs.Shapes.{edge_of}
use Rattle.wheel_types.specs.Texts.{change_text, shape_text_of, place_text, verdict_text, report_line_text}
use Rattle.capture_core.specs.Numerals.{is_digit}
use Rattle.pair_certificate.specs.declared.line.CertKind.{CertKind}
use Rattle.pair_certificate.specs.declared.line.CertKind.TheVariants as kind
use Rattle.pair_certificate.specs.declared.line.CertLine.{CertLine}
use Rattle.pair_certificate.specs.Certificates.{kind_text, cover_text, cert_line_text}
use Rattle.pair_certificate.specs.Lines.{with_first, lines_of}
use Rattle.pair_certificate.specs.Readings.{AreLines, IsReportLine, IsCertLine, MeansReports, MeansCertificate}
use Rattle.pair_certificate.specs.Reports.{IsPlaceInRange, IsSigned, IsVerdictInRange, IsReportInRange, IsKindInRange, IsCertLineInRange}
use Rattle.pair_certificate.proofs.Again.{Digits, digits_of, parts}
use Rattle.pair_certificate.proofs.TextLines.{plain, ended}

-- no line feed
abbrev NoFeed : List ℕ → Type 0
NoFeed [] = ⊤
NoFeed (b ∷ bytes) = (b ≢ 10) × NoFeed bytes

join : (xs ys : List ℕ) → NoFeed xs → NoFeed ys → NoFeed (xs ++ ys)
join [] ys a b = b
join (x ∷ xs) ys a b = (a.0, join xs ys a.1 b)

digit_other : (d : ℕ) → is_digit d ≡ true → d ≢ 10
digit_other d h e = let f : is_digit 10 ≡ true = subst (λ n. is_digit n ≡ true) e h in false≢true f

digits_other : (ds : List ℕ) → list_all is_digit ds ≡ true → NoFeed ds
digits_other [] h = tt
digits_other (d ∷ ds) h = let p = parts (is_digit d) (list_all is_digit ds) h in (digit_other d p.0, digits_other ds p.1)

number_other : (n : ℕ) → n < 10 ^ 64 → NoFeed (decimal n)
number_other n h = let d : Digits n = digits_of n h in digits_other (decimal n) d.all

other : (b : ℕ) → eqb b 10 ≡ false → b ≢ 10
other b h e = grind (arith, nat_tests)

signed_other : (z : ℤ) → unsigned_abs z < 10 ^ 64 → NoFeed (signed_decimal z)
signed_other (pos n) h = number_other n (omega (arith, ints, h))
signed_other (negsuc n) h = (other 45 refl, number_other (suc n) (omega (arith, ints, h)))

cam_other : (z : ℤ) → IsSigned z → NoFeed (signed_decimal z)
cam_other z h = signed_other z (omega (arith, ints, h.0, h.1))

place_other : (p : Place) → IsPlaceInRange p → NoFeed (place_text p)
place_other p h =
    let j : p.j < 2 ^ 32 = h.j in
    join (decimal p.j) _ (number_other p.j (omega (arith, j))) (other 58 refl, join (signed_decimal p.n1) _ (cam_other p.n1 h.n1) (other 58 refl, cam_other p.n2 h.n2))

change_other : (name : List ℕ) (o : Option Pol) → NoFeed name → NoFeed (change_text name o)
change_other name None h = tt
change_other name (Some Rise) h = join name (43 ∷ []) h (other 43 refl, tt)
change_other name (Some Fall) h = join name (45 ∷ []) h (other 45 refl, tt)

shape_other : (n : ℕ) → NoFeed (shape_text_of n)
shape_other n =
    let a : List ℕ = change_text (codes "C") (edge_of (n % 3)) in
    let b : List ℕ = change_text (codes "1") (edge_of (n / 3 % 3)) in
    let d : List ℕ = change_text (codes "2") (edge_of (n / 9)) in
    join a (b ++ d) (change_other (codes "C") (edge_of (n % 3)) (other 67 refl, tt)) (join b d (change_other (codes "1") (edge_of (n / 3 % 3)) (other 49 refl, tt)) (change_other (codes "2") (edge_of (n / 9)) (other 50 refl, tt)))

few : (n : ℕ) → n < 2 ^ 32 → n < 10 ^ 64
few n h = omega (arith, h)

verdict_other : (v : Verdict) → IsVerdictInRange v → NoFeed (verdict_text v)
verdict_other (verdict.At j slot) h = (other 97 refl, (other 116 refl, (other 32 refl, join (decimal j) _ (number_other j (few j h.0)) (other 32 refl, (other 115 refl, (other 108 refl, (other 111 refl, (other 116 refl, (other 32 refl, number_other slot (few slot h.1))))))))))
verdict_other (verdict.Open a b) h = (other 111 refl, (other 112 refl, (other 101 refl, (other 110 refl, (other 32 refl, join (place_text a) _ (place_other a h.0) (other 32 refl, place_other b h.1))))))
verdict_other verdict.Lost h = (other 108 refl, (other 111 refl, (other 115 refl, (other 116 refl, tt))))

kind_other : (k : CertKind) → IsKindInRange k → NoFeed (kind_text k)
kind_other (kind.At a) h = (other 97 refl, (other 116 refl, (other 32 refl, place_other a h)))
kind_other (kind.Open a b) h = (other 111 refl, (other 112 refl, (other 101 refl, (other 110 refl, (other 32 refl, join (place_text a) _ (place_other a h.0) (other 32 refl, place_other b h.1))))))
kind_other kind.Lost h = (other 108 refl, (other 111 refl, (other 115 refl, (other 116 refl, tt))))

cover_other : (ps : List Place) → All IsPlaceInRange ps → NoFeed (cover_text ps)
cover_other [] h = tt
cover_other (p ∷ ps) h = (other 32 refl, join (place_text p) _ (place_other p (h 0 p (omega arith))) (cover_other ps (λ k d b. h (suc k) d (omega (arith, b)))))

-- a text that ends with its only line feed
record IsText (text : List ℕ) : Type 0 where
  pub body : List ℕ
  pub other : NoFeed body
  pub whole : text ≡ body ++ 10 ∷ []

prepend : (xs text : List ℕ) → NoFeed xs → IsText text → IsText (xs ++ text)
prepend xs text h t = record { body = xs ++ t.body; other = join xs t.body h t.other; whole = ap (λ l. xs ++ l) t.whole ∙ sym (append_assoc xs t.body (10 ∷ [])) }

feed : IsText (10 ∷ [])
feed = record { body = []; other = tt; whole = refl }

space : (text : List ℕ) → IsText text → IsText (32 ∷ text)
space text t = prepend (32 ∷ []) text (other 32 refl, tt) t

cut : (body rest : List ℕ) → NoFeed body → lines_of (body ++ (10 ∷ rest)) ≡ (body ++ 10 ∷ []) ∷ lines_of rest
cut [] rest h = ended 10 rest refl
cut (b ∷ body) rest h = plain b (body ++ (10 ∷ rest)) h.0 ∙ ap (with_first b) (cut body rest h.1)

first_line : (text rest : List ℕ) → IsText text → lines_of (text ++ rest) ≡ text ∷ lines_of rest
first_line text rest t =
    ap (λ l. lines_of (l ++ rest)) t.whole ∙ ap lines_of (append_assoc t.body (10 ∷ []) rest) ∙ cut t.body rest t.other ∙ ap (λ l. l ∷ lines_of rest) (sym t.whole)

report_text : (r : Report) → IsReportInRange r → IsText (report_line_text r)
report_text r h =
    let index : r.index < 2 ^ 64 = h.index in
    let time : unsigned_abs r.time ≤ 10 ^ 24 = h.time in
    prepend (decimal r.index) _ (number_other r.index (omega (arith, index))) (space _ (prepend (signed_decimal r.time) _ (signed_other r.time (omega (arith, time))) (space _ (prepend (shape_text_of r.shape) _ (shape_other r.shape) (space _ (prepend (verdict_text r.verdict) _ (verdict_other r.verdict h.verdict) feed))))))

cert_text : (c : CertLine) → IsCertLineInRange c → IsText (cert_line_text c)
cert_text c h =
    let index : c.index < 2 ^ 64 = h.index in
    prepend (decimal c.index) _ (number_other c.index (omega (arith, index))) (space _ (prepend (kind_text c.kind) _ (kind_other c.kind h.kind) (space _ (prepend (58 ∷ []) _ (other 58 refl, tt) (prepend (cover_text c.cover) _ (cover_other c.cover h.cover) feed)))))

pub reports_back : (rs : List Report) → All IsReportInRange rs → MeansReports (flat_map report_line_text rs) rs
reports_back [] h = tt
reports_back (r ∷ rs) h =
    let range : IsReportInRange r = h 0 r (omega arith) in
    subst (λ l. AreLines IsReportLine l (r ∷ rs)) (sym (first_line (report_line_text r) (flat_map report_line_text rs) (report_text r range))) (record { range = range; text = refl }, reports_back rs (λ k d b. h (suc k) d (omega (arith, b))))

pub certificates_back : (cs : List CertLine) → All IsCertLineInRange cs → MeansCertificate (flat_map cert_line_text cs) cs
certificates_back [] h = tt
certificates_back (c ∷ cs) h =
    let range : IsCertLineInRange c = h 0 c (omega arith) in
    subst (λ l. AreLines IsCertLine l (c ∷ cs)) (sym (first_line (cert_line_text c) (flat_map cert_line_text cs) (cert_text c range))) (record { range = range; text = refl }, certificates_back cs (λ k d b. h (suc k) d (omega (arith, b))))
