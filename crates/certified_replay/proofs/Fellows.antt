-- The lines of a report and of a certificate side by side, of some instants and of more of them.
use Rattle.std.proofs.Common.{◌≡◌, ℕ, suc, ◌+◌, List, [], ◌∷◌, ◌++◌, length, reverse, take, drop, refl, sym, ◌∙◌, ap, subst, arith, take-append-drop}
use Rattle.std.proofs.lemmas.List.{reverse-append, length-reverse}
use Rattle.std.specs.Prelude.{All, flat_map}
use Rattle.wheel_types.specs.declared.instant.Instant.{Instant}
use Rattle.wheel_types.specs.declared.verdict.Verdict.{Verdict}
use Rattle.wheel_types.specs.declared.verdict.Report.{Report}
use Rattle.wheel_types.specs.declared.parts.WheelParts.{WheelParts}
use Rattle.wheel_types.specs.Wheels.{IsWheel}
use Rattle.wheel_types.specs.Verdicts.{IsRising, AreVerdicts}
use Rattle.wheel_types.specs.Texts.{report_line_text}
use Rattle.wheel_types.proofs.RisingTimes.{RisesTo, rises_to-reverse}
use Rattle.plain_motion.proofs.Existing.{verdicts_exist}
use Rattle.pair_certificate.specs.declared.line.CertLine.{CertLine}
use Rattle.pair_certificate.specs.Certificates.{cert_line_text}
use Rattle.pair_certificate.specs.Reports.{IsReportInRange, IsCertLineInRange}
use Rattle.pair_certificate.specs.Readings.{MeansReports, MeansCertificate}
use Rattle.pair_certificate.proofs.ReadBack.{reports_back, certificates_back}
use Rattle.certificate_checker.specs.Exact.{AreExactLines}
use Rattle.certificate_checker.specs.Reports.{report_of, reports_of}
use Rattle.certificate_checker.proofs.ExactExists.{extended}
use Rattle.certificate_checker.proofs.ExactValid.{exact_is_valid}
use Rattle.tap_board.specs.Marks.{mark_of}
use Rattle.run_ends.specs.Stages.{Fellows, lines_text, beside_text}
use Rattle.certified_replay.specs.Certified.{fellows_of, AreCertified, AreBelieved}

-- each instant has one verdict and one line
pub exact_counts : (w : WheelParts) (past : List Instant) (vs : List Verdict) (cs : List CertLine) (window : List Instant) → AreExactLines w past vs cs window → (length vs ≡ length past) × (length cs ≡ length past)
exact_counts w [] [] [] window x = (refl, refl)
exact_counts w [] [] (c ∷ cs) window x = absurd x
exact_counts w [] (v ∷ vs) cs window x = absurd x
exact_counts w (i ∷ past) [] cs window x = absurd x
exact_counts w (i ∷ past) (v ∷ vs) [] window x = absurd x
exact_counts w (i ∷ past) (v ∷ vs) (c ∷ cs) window x = let n = exact_counts w past vs cs x.0 x.1.0 in (ap suc n.0, ap suc n.1)

reports_append : (index : ℕ) (is js : List Instant) (vs us : List Verdict) → length is ≡ length vs → reports_of index (is ++ js) (vs ++ us) ≡ reports_of index is vs ++ reports_of (index + length is) js us
reports_append index [] js [] us h = ap (λ k. reports_of k js us) (let e : index ≡ index + 0 = omega arith in e)
reports_append index [] js (v ∷ vs) us h = absurd (omega (arith, h))
reports_append index (i ∷ is) js [] us h = absurd (omega (arith, h))
reports_append index (i ∷ is) js (v ∷ vs) us h =
    let same : length is ≡ length vs = omega (arith, h) in
    let number : (index + 1) + length is ≡ index + suc (length is) = omega arith in
    ap (λ t. report_of index i v ∷ t) (reports_append (index + 1) is js vs us same)
    ∙ ap (λ k. report_of index i v ∷ (reports_of (index + 1) is vs ++ reports_of k js us)) number

reports_count : (index : ℕ) (is : List Instant) (vs : List Verdict) → length is ≡ length vs → length (reports_of index is vs) ≡ length is
reports_count index [] vs h = refl
reports_count index (i ∷ is) [] h = absurd (omega (arith, h))
reports_count index (i ∷ is) (v ∷ vs) h = ap suc (reports_count (index + 1) is vs (omega (arith, h)))

fellows_append : (rs qs : List Report) (cs ds : List CertLine) → length rs ≡ length cs → fellows_of (rs ++ qs) (cs ++ ds) ≡ fellows_of rs cs ++ fellows_of qs ds
fellows_append [] qs [] ds h = refl
fellows_append [] qs (c ∷ cs) ds h = absurd (omega (arith, h))
fellows_append (r ∷ rs) qs [] ds h = absurd (omega (arith, h))
fellows_append (r ∷ rs) qs (c ∷ cs) ds h = ap (λ l. record { line = report_line_text r; beside = cert_line_text c; mark = mark_of r.verdict } ∷ l) (fellows_append rs qs cs ds (omega (arith, h)))

fellows_count : (rs : List Report) (cs : List CertLine) → length rs ≡ length cs → length (fellows_of rs cs) ≡ length rs
fellows_count [] cs h = refl
fellows_count (r ∷ rs) [] h = absurd (omega (arith, h))
fellows_count (r ∷ rs) (c ∷ cs) h = ap suc (fellows_count rs cs (omega (arith, h)))

pub lines_of_report : (rs : List Report) (cs : List CertLine) → length rs ≡ length cs → lines_text (fellows_of rs cs) ≡ flat_map report_line_text rs
lines_of_report [] cs h = refl
lines_of_report (r ∷ rs) [] h = absurd (omega (arith, h))
lines_of_report (r ∷ rs) (c ∷ cs) h = ap (λ l. report_line_text r ++ l) (lines_of_report rs cs (omega (arith, h)))

lines_of_certificate : (rs : List Report) (cs : List CertLine) → length rs ≡ length cs → beside_text (fellows_of rs cs) ≡ flat_map cert_line_text cs
lines_of_certificate [] [] h = refl
lines_of_certificate [] (c ∷ cs) h = absurd (omega (arith, h))
lines_of_certificate (r ∷ rs) [] h = absurd (omega (arith, h))
lines_of_certificate (r ∷ rs) (c ∷ cs) h = ap (λ l. cert_line_text c ++ l) (lines_of_certificate rs cs (omega (arith, h)))

-- the report of instants beside their certificate, by lists that have the last one first
abbrev pub pairs_of : List Instant → List Verdict → List CertLine → List Fellows
pairs_of is vs cs = fellows_of (reports_of 1 is (reverse vs)) (reverse cs)

pub as_many : (is : List Instant) (vs : List Verdict) (cs : List CertLine) → length vs ≡ length is → length cs ≡ length is → length (reports_of 1 is (reverse vs)) ≡ length (reverse cs)
as_many is vs cs p q = reports_count 1 is (reverse vs) (sym (length-reverse vs ∙ p)) ∙ sym (length-reverse cs ∙ q)

pub reports_more : (is js : List Instant) (vs us : List Verdict) → length vs ≡ length is → reports_of 1 (is ++ js) (reverse (us ++ vs)) ≡ reports_of 1 is (reverse vs) ++ reports_of (1 + length is) js (reverse us)
reports_more is js vs us p = ap (reports_of 1 (is ++ js)) (reverse-append us vs) ∙ reports_append 1 is js (reverse vs) (reverse us) (sym (length-reverse vs ∙ p))

-- the pairs of more instants
pub pairs_more : (is js : List Instant) (vs us : List Verdict) (cs ds : List CertLine) → length vs ≡ length is → length cs ≡ length is
    → pairs_of (is ++ js) (us ++ vs) (ds ++ cs) ≡ pairs_of is vs cs ++ fellows_of (reports_of (1 + length is) js (reverse us)) (reverse ds)
pairs_more is js vs us cs ds p q =
    ap (λ l. fellows_of l (reverse (ds ++ cs))) (reports_more is js vs us p)
    ∙ ap (fellows_of (reports_of 1 is (reverse vs) ++ reports_of (1 + length is) js (reverse us))) (reverse-append ds cs)
    ∙ fellows_append (reports_of 1 is (reverse vs)) (reports_of (1 + length is) js (reverse us)) (reverse cs) (reverse ds) (as_many is vs cs p q)

-- exact lines give the report and its exact certificate
pub certified_by : (w : WheelParts) (is : List Instant) (vs : List Verdict) (cs : List CertLine) (window : List Instant) → AreExactLines w (reverse is) vs cs window → AreCertified w is (pairs_of is vs cs)
certified_by w is vs cs window x = record {
  report = reports_of 1 is (reverse vs);
  certificate = reverse cs;
  own = record { verdicts = vs; lines = cs; window = window; exact = x; records = refl; certificate = refl };
  fellows = refl;
}

-- and texts that can be read again
pub believed_by : (w : WheelParts) (is : List Instant) (vs : List Verdict) (cs : List CertLine) (window : List Instant) → IsWheel w → IsRising is → AreExactLines w (reverse is) vs cs window
    → All IsReportInRange (reports_of 1 is (reverse vs)) → All IsCertLineInRange (reverse cs) → AreBelieved w is (lines_text (pairs_of is vs cs)) (beside_text (pairs_of is vs cs))
believed_by w is vs cs window wheel rising x reports lines =
    let n = exact_counts w (reverse is) vs cs window x in
    let many = as_many is vs cs (n.0 ∙ length-reverse is) (n.1 ∙ length-reverse is) in
    record {
      report = reports_of 1 is (reverse vs);
      certificate = reverse cs;
      means_report = subst (λ t. MeansReports t (reports_of 1 is (reverse vs))) (sym (lines_of_report (reports_of 1 is (reverse vs)) (reverse cs) many)) (reports_back (reports_of 1 is (reverse vs)) reports);
      means_certificate = subst (λ t. MeansCertificate t (reverse cs)) (sym (lines_of_certificate (reports_of 1 is (reverse vs)) (reverse cs) many)) (certificates_back (reverse cs) lines);
      valid = exact_is_valid w is vs cs window wheel rising x;
    }

-- past the pairs of the first instants stand those of the rest
pub record Goes (w : WheelParts) (is : List Instant) (first : List Fellows) (left : ℕ) : Type 0 where
  pub rest : List Fellows
  pub certified : AreCertified w is (first ++ rest)
  pub many : length rest ≡ left

pub goes_on : (w : WheelParts) (is : List Instant) (k : ℕ) (vs : List Verdict) (cs : List CertLine) (window : List Instant) → IsWheel w → IsRising is → AreExactLines w (reverse (take k is)) vs cs window
    → Goes w is (pairs_of (take k is) vs cs) (length (drop k is))
goes_on w is k vs cs window wheel rising x =
    let rises : RisesTo (reverse is) = rises_to-reverse is rising in
    let all = verdicts_exist w wheel (reverse is) rises in
    let later = reverse (drop k is) in
    let past = reverse (take k is) in
    let parts : reverse is ≡ later ++ past = ap reverse (sym (take-append-drop k is)) ∙ reverse-append (take k is) (drop k is) in
    let e = extended w wheel later past all.verdicts vs cs all.window window (subst RisesTo parts rises) (subst (λ l. AreVerdicts w l all.verdicts all.window) parts all.are) x in
    let whole : AreExactLines w (reverse is) (e.verdicts ++ vs) (e.lines ++ cs) all.window
    = subst (λ us. AreExactLines w (reverse is) us (e.lines ++ cs) all.window) e.all (subst (λ l. AreExactLines w l all.verdicts (e.lines ++ cs) all.window) (sym parts) e.exact) in
    let n = exact_counts w past vs cs window x in
    let rest : List Fellows = fellows_of (reports_of (1 + length (take k is)) (drop k is) (reverse e.verdicts)) (reverse e.lines) in
    let pairs : pairs_of is (e.verdicts ++ vs) (e.lines ++ cs) ≡ pairs_of (take k is) vs cs ++ rest
    = ap (λ l. pairs_of l (e.verdicts ++ vs) (e.lines ++ cs)) (sym (take-append-drop k is))
    ∙ pairs_more (take k is) (drop k is) vs e.verdicts cs e.lines (n.0 ∙ length-reverse (take k is)) (n.1 ∙ length-reverse (take k is)) in
    let verdicts : length (drop k is) ≡ length (reverse e.verdicts) = sym (length-reverse (drop k is)) ∙ sym e.many ∙ sym (length-reverse e.verdicts) in
    let count : length (reports_of (1 + length (take k is)) (drop k is) (reverse e.verdicts)) ≡ length (drop k is) = reports_count (1 + length (take k is)) (drop k is) (reverse e.verdicts) verdicts in
    let lines : length (reverse e.lines) ≡ length (drop k is) = length-reverse e.lines ∙ e.as_many ∙ length-reverse (drop k is) in
    record {
      rest = rest;
      certified = subst (AreCertified w is) pairs (certified_by w is (e.verdicts ++ vs) (e.lines ++ cs) all.window whole);
      many = fellows_count (reports_of (1 + length (take k is)) (drop k is) (reverse e.verdicts)) (reverse e.lines) (count ∙ sym lines) ∙ count;
    }
