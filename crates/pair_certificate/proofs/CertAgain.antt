-- What is printed of a certificate's line is read again.
use Rattle.std.proofs.Common.{◌≡◌, ℕ, ◌-◌, ◌^◌, ◌<◌, List, ◌∷◌, ◌++◌, refl, sym, ◌∙◌, ap, arith}
use mathlib.Core.List.{append_assoc}
use Rattle.std.specs.Prelude.{Option, Some, None, decimal, codes}
use Rattle.wheel_types.specs.declared.place.Place.{Place}
use Rattle.wheel_types.specs.Texts.{place_text}
use Rattle.pair_certificate.specs.declared.line.CertKind.{CertKind}
use Rattle.pair_certificate.specs.declared.line.CertKind.TheVariants.{At, Open, Lost}
use Rattle.pair_certificate.specs.declared.line.CertLine.{CertLine}
use Rattle.pair_certificate.specs.Certificates.{kind_text, cover_text}
use Rattle.pair_certificate.specs.Readings.{IsCertLine}
use Rattle.pair_certificate.specs.Reports.{IsKindInRange}
use Rattle.pair_certificate.specs.FirstCertificates.{at_kind, open_kind, kind_at, head_at, IsOnlyCover, IsNoCover}
use Rattle.pair_certificate.proofs.CoversAgain.{some_once, none_some}
use Rattle.pair_certificate.proofs.Again.{Stops, number_again, place_again}

pub kind_again : (k : CertKind) (rest : List ℕ) → IsKindInRange k → Stops rest → kind_at (kind_text k ++ rest) ≡ Some (k, rest)
unfolding kind_at at_kind open_kind
kind_again (At a) rest h s = rw (place_again a rest h s) refl
kind_again (Open a b) rest h s =
    let after : List ℕ = 32 ∷ (place_text b ++ rest) in
    let apart : kind_text (Open a b) ++ rest ≡ codes "open " ++ (place_text a ++ after) = simp append_assoc in
    ap kind_at apart ∙ rw (place_again a after h.0 refl, place_again b rest h.1 s) refl
kind_again Lost rest h s = refl

pub head_again : (n : ℕ) (k : CertKind) (rest : List ℕ) → n < 2 ^ 64 → IsKindInRange k → head_at (decimal n ++ (codes " " ++ (kind_text k ++ (codes " :" ++ rest)))) ≡ Some (n, k, rest)
unfolding head_at
head_again n k rest few h =
    let second : List ℕ = codes " :" ++ rest in
    rw (number_again (2 ^ 64 - 1) n (32 ∷ (kind_text k ++ second)) (omega (arith, few)) (omega (arith, few)) refl, kind_again k second h refl) refl

-- what a line in the grammar has after the colon
pub line_head : (line : List ℕ) (c : CertLine) → IsCertLine line c → head_at line ≡ Some (c.index, c.kind, cover_text c.cover ++ codes "\n")
line_head line c is = ap head_at is.text ∙ head_again c.index c.kind (cover_text c.cover ++ codes "\n") is.range.index is.range.kind

pub head_once : (n m : ℕ) (k l : CertKind) (r s : List ℕ) (o : Option (ℕ × CertKind × List ℕ)) → o ≡ Some (n, k, r) → o ≡ Some (m, l, s) → (n ≡ m) × ((k ≡ l) × (r ≡ s))
head_once n m k l r s o e f =
    let h : ◌≡◌ {A = ℕ × CertKind × List ℕ} (n, k, r) (m, l, s) = some_once _ _ o e f in
    (ap (λ (x : ℕ × CertKind × List ℕ). x.0) h, (ap (λ (x : ℕ × CertKind × List ℕ). x.1) h, ap (λ (x : ℕ × CertKind × List ℕ). x.2) h))

pub no_head : (line : List ℕ) → head_at line ≡ None → (c : CertLine) → IsCertLine line c → ⊥
no_head line e c is = none_some (c.index, c.kind, cover_text c.cover ++ codes "\n") (head_at line) e (line_head line c is)

pub no_cover : (line rest : List ℕ) (n : ℕ) (k : CertKind) → head_at line ≡ Some (n, k, rest) → IsNoCover rest → (c : CertLine) → IsCertLine line c → ⊥
no_cover line rest n k e none c is = none c.cover is.range.cover (head_once n c.index k c.kind rest _ (head_at line) e (line_head line c is)).1.1

pub alike : (n m : ℕ) (k l : CertKind) (ps qs : List Place) → n ≡ m → k ≡ l → ps ≡ qs → ◌≡◌ {A = CertLine} (record { index = n; kind = k; cover = ps }) (record { index = m; kind = l; cover = qs })
alike n m k l ps qs e f g = rw (e, f, g)

pub line_value : (line rest : List ℕ) (n : ℕ) (k : CertKind) (cover : List Place) → head_at line ≡ Some (n, k, rest) → IsOnlyCover rest cover → (c : CertLine) → IsCertLine line c → record { index = n; kind = k; cover = cover } ≡ c
line_value line rest n k cover e only c is =
    let h = head_once n c.index k c.kind rest _ (head_at line) e (line_head line c is) in
    alike n c.index k c.kind cover c.cover h.0 h.1.0 (sym (only.only c.cover is.range.cover h.1.1))
