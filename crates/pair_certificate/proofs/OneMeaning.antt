-- A text means one report, and one certificate.
use Rattle.std.proofs.Common.{◌≡◌, ℕ, List, [], ◌∷◌, ◌++◌, refl, sym, ◌∙◌, ap}
use Rattle.std.specs.Prelude.{All, codes}
use Rattle.wheel_types.specs.declared.place.Place.{Place}
use Rattle.wheel_types.specs.declared.verdict.Report.{Report}
use Rattle.wheel_types.specs.Texts.{place_text}
use Rattle.pair_certificate.specs.declared.line.CertLine.{CertLine}
use Rattle.pair_certificate.specs.Certificates.{cover_text}
use Rattle.pair_certificate.specs.Reports.{IsPlaceInRange}
use Rattle.pair_certificate.specs.Readings.{AreLines, IsReportLine, IsCertLine, MeansReports, MeansCertificate}
use Rattle.pair_certificate.specs.FirstFields.{after_text, place_at}
use Rattle.pair_certificate.specs.FirstReports.{report_at}
use Rattle.pair_certificate.specs.FirstCertificates.{head_at}
use Rattle.pair_certificate.proofs.Again.{place_again}
use Rattle.pair_certificate.proofs.ReportsAgain.{line_again}
use Rattle.pair_certificate.proofs.CertAgain.{line_head, head_once, alike}
use Rattle.pair_certificate.proofs.CoversAgain.{some_once, none_some, spaced, stops, head_range, tail_range}
use Rattle.pair_certificate.specs.Lines.{lines_of}

report_once : (line : List ℕ) (r q : Report) → IsReportLine line r → IsReportLine line q → r ≡ q
report_once line r q a b = some_once r q (report_at line) (line_again line r (report_at line) refl a) (line_again line q (report_at line) refl b)

-- covers of one text are one
cover_once : (ps qs : List Place) → All IsPlaceInRange ps → All IsPlaceInRange qs → cover_text ps ++ codes "\n" ≡ cover_text qs ++ codes "\n" → ps ≡ qs
cover_once [] [] a b e = refl
cover_once [] (q ∷ qs) a b e = absurd (none_some _ (after_text (codes " ") (codes "\n")) refl (ap (after_text (codes " ")) e ∙ spaced q qs))
cover_once (p ∷ ps) [] a b e = absurd (none_some _ (after_text (codes " ") (codes "\n")) refl (ap (after_text (codes " ")) (sym e) ∙ spaced p ps))
cover_once (p ∷ ps) (q ∷ qs) a b e =
    let next : place_text p ++ (cover_text ps ++ codes "\n") ≡ place_text q ++ (cover_text qs ++ codes "\n") = some_once _ _ (after_text (codes " ") (cover_text (p ∷ ps) ++ codes "\n")) (spaced p ps) (ap (after_text (codes " ")) e ∙ spaced q qs) in
    let read : ◌≡◌ {A = Place × List ℕ} (p, cover_text ps ++ codes "\n") (q, cover_text qs ++ codes "\n") = some_once _ _ (place_at (place_text p ++ (cover_text ps ++ codes "\n"))) (place_again p _ (head_range p ps a) (stops ps)) (ap place_at next ∙ place_again q _ (head_range q qs b) (stops qs)) in
    joined p q ps qs (ap (λ (x : Place × List ℕ). x.0) read) (cover_once ps qs (tail_range p ps a) (tail_range q qs b) (ap (λ (x : Place × List ℕ). x.1) read))
  where
    joined : (p q : Place) (ps qs : List Place) → p ≡ q → ps ≡ qs → p ∷ ps ≡ q ∷ qs
    joined p q ps qs e f = rw (e, f)

cert_once : (line : List ℕ) (c d : CertLine) → IsCertLine line c → IsCertLine line d → c ≡ d
cert_once line c d a b =
    let h = head_once c.index d.index c.kind d.kind _ _ (head_at line) (line_head line c a) (line_head line d b) in
    alike c.index d.index c.kind d.kind c.cover d.cover h.0 h.1.0 (cover_once c.cover d.cover a.range.cover b.range.cover h.1.1)

pub lines_once : {X : Type 0} (IsLine : List ℕ → X → Type 0) → ((line : List ℕ) (x y : X) → IsLine line x → IsLine line y → x ≡ y) → (lines : List (List ℕ)) (xs ys : List X) → AreLines IsLine lines xs → AreLines IsLine lines ys → xs ≡ ys
lines_once IsLine once [] [] [] a b = refl
lines_once {X} IsLine once (l ∷ lines) (x ∷ xs) (y ∷ ys) a b = both x y xs ys (once l x y a.0 b.0) (lines_once IsLine once lines xs ys a.1 b.1)
  where
    both : (x y : X) (xs ys : List X) → x ≡ y → xs ≡ ys → x ∷ xs ≡ y ∷ ys
    both x y xs ys e f = rw (e, f)
lines_once IsLine once [] (x ∷ xs) ys a b = absurd a
lines_once IsLine once [] [] (y ∷ ys) a b = absurd b
lines_once IsLine once (l ∷ lines) [] ys a b = absurd a
lines_once IsLine once (l ∷ lines) (x ∷ xs) [] a b = absurd b

pub one_report : (bytes : List ℕ) (rs qs : List Report) → MeansReports bytes rs → MeansReports bytes qs → rs ≡ qs
one_report bytes = lines_once IsReportLine report_once (lines_of bytes)

pub one_certificate : (bytes : List ℕ) (cs ds : List CertLine) → MeansCertificate bytes cs → MeansCertificate bytes ds → cs ≡ ds
one_certificate bytes = lines_once IsCertLine cert_once (lines_of bytes)
