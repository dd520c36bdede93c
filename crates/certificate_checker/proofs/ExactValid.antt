-- The exact certificate is valid for the report of the verdicts.
use Rattle.std.proofs.Common.{◌≡◌, suc, ◌+◌, ◌<◌, ℤ, List, [], ◌∷◌, length, reverse, refl, sym, ◌∙◌, ap, subst, arith}
use Rattle.std.proofs.lemmas.List.{reverse-reverse}
use Rattle.wheel_types.specs.declared.channel.Channel.TheVariants.{Crank}
use Rattle.wheel_types.specs.declared.place.Place.{Place}
use Rattle.wheel_types.specs.declared.instant.Instant.{Instant}
use Rattle.wheel_types.specs.declared.verdict.Verdict.{Verdict}
use Rattle.wheel_types.specs.declared.verdict.Report.{Report}
use Rattle.wheel_types.specs.declared.parts.WheelParts.{WheelParts}
use Rattle.wheel_types.specs.Wheels.{IsWheel}
use Rattle.wheel_types.specs.Edges.{edge_count}
use Rattle.wheel_types.specs.Verdicts.{IsRising, AllEarlier}
use Rattle.wheel_types.proofs.RisingTimes.{RisesTo, rises_to-reverse}
use Rattle.pair_certificate.specs.declared.line.CertLine.{CertLine}
use Rattle.certificate_checker.specs.Situations.{window_after}
use Rattle.certificate_checker.specs.Valid.{KeepsRules, situation_of, IsValidFrom, IsValid}
use Rattle.certificate_checker.specs.Reports.{report_of, reports_of}
use Rattle.plain_motion.specs.EndPlaces.{AreEndsOf}
use Rattle.certificate_checker.specs.Exact.{IsExactLine, AreExactLines}
use Rattle.certificate_checker.proofs.Lists.{onto, onto-none}
use Rattle.certificate_checker.proofs.RightReports.{some_crank}
use Rattle.certificate_checker.proofs.ExactRules.{exact_keeps}
use Rattle.certificate_checker.proofs.ExactWindows.{window_told}
use Rattle.certificate_checker.proofs.NextRises.{next_rises, next_earlier}

-- the records of instants and verdicts, the last first
abbrev pub records_back : List Instant → List Verdict → List Report
records_back [] vs = []
records_back (i ∷ past) [] = []
records_back (i ∷ past) (v ∷ vs) = report_of (length past + 1) i v ∷ records_back past vs

-- the window of exact lines rises, and is within the instants so far
exact_rises : (w : WheelParts) (past : List Instant) (vs : List Verdict) (cs : List CertLine) (window : List Instant) → RisesTo past → AreExactLines w past vs cs window
    → RisesTo window × ((t : ℤ) → AllEarlier t past → AllEarlier t window)
exact_rises w [] [] [] window r e = (subst RisesTo (sym e) tt, λ t h. subst (AllEarlier t) (sym e) tt)
exact_rises w (i ∷ past) (v ∷ vs) (c ∷ cs) window r e =
    let before = exact_rises w past vs cs e.0 r.1 e.1.0 in
    let here : RisesTo (i ∷ e.0) = (before.1 i.time r.0, before.0) in
    (next_rises w i e.0 v window here e.1.1.1.0, λ t h. next_earlier w t i e.0 v window (h.0, before.1 t h.1) e.1.1.1.0)
exact_rises w [] [] (c ∷ cs) window r e = absurd e
exact_rises w [] (v ∷ vs) cs window r e = absurd e
exact_rises w (i ∷ past) [] cs window r e = absurd e
exact_rises w (i ∷ past) (v ∷ vs) [] window r e = absurd e

-- where the lines from here on are valid after any exact cover, all are
valid_onto : (w : WheelParts) (past : List Instant) (vs : List Verdict) (cs : List CertLine) (window : List Instant) → 0 < edge_count w Crank → RisesTo past → AreExactLines w past vs cs window
    → (is : List Instant) (rs : List Report) (ds : List CertLine) → ((reached : List Place) → AreEndsOf w window reached → IsValidFrom w (length past + 1) window reached is rs ds)
    → IsValidFrom w 1 [] [] (onto past is) (onto (records_back past vs) rs) (onto cs ds)
valid_onto w [] [] [] window some r e is rs ds rest = subst (λ n. IsValidFrom w n [] [] is rs ds) one (subst (λ l. (reached : List Place) → AreEndsOf w l reached → IsValidFrom w (0 + 1) l reached is rs ds) e rest [] refl)
  where
    one : 0 + 1 ≡ 1
    one = omega arith
valid_onto w (i ∷ past) (v ∷ vs) (c ∷ cs) window some r e is rs ds rest = valid_onto w past vs cs e.0 some r.1 e.1.0 (i ∷ is) (report_of (length past + 1) i v ∷ rs) (c ∷ ds) (λ reached exact. (keeps reached exact, goes_on))
  where
    before : List Instant
    before = e.0

    line : IsExactLine w (length past + 1) (i ∷ e.0) v window c
    line = e.1.1.1.1

    rises : RisesTo (i ∷ e.0)
    rises = let b = exact_rises w past vs cs e.0 r.1 e.1.0 in (b.1 i.time r.0, b.0)

    keeps : (reached : List Place) → AreEndsOf w e.0 reached → KeepsRules w (situation_of (length past + 1) e.0 reached i (report_of (length past + 1) i v) c)
    keeps reached exact = exact_keeps w (length past + 1) e.0 reached i v c window some rises exact e.1.1.0 e.1.1.1.0 line

    same : suc (length past) + 1 ≡ (length past + 1) + 1
    same = omega arith

    goes_on : IsValidFrom w ((length past + 1) + 1) (window_after i e.0 v c.cover) c.cover is rs ds
    goes_on =
        subst (λ l. IsValidFrom w ((length past + 1) + 1) l c.cover is rs ds) (window_told w i e.0 v window c.cover e.1.1.1.0 line.cover)
        (subst (λ n. IsValidFrom w n window c.cover is rs ds) same (rest c.cover line.cover))
valid_onto w [] [] (c ∷ cs) window some r e is rs ds rest = absurd e
valid_onto w [] (v ∷ vs) cs window some r e is rs ds rest = absurd e
valid_onto w (i ∷ past) [] cs window some r e is rs ds rest = absurd e
valid_onto w (i ∷ past) (v ∷ vs) [] window some r e is rs ds rest = absurd e

-- the records, taken round
records_onto : (w : WheelParts) (past : List Instant) (vs : List Verdict) (cs : List CertLine) (window : List Instant) → AreExactLines w past vs cs window → (is : List Instant) (us : List Verdict)
    → onto (records_back past vs) (reports_of (length past + 1) is us) ≡ reports_of 1 (onto past is) (onto vs us)
records_onto w [] [] [] window e is us = ap (λ n. reports_of n is us) one
  where
    one : 0 + 1 ≡ 1
    one = omega arith
records_onto w (i ∷ past) (v ∷ vs) (c ∷ cs) window e is us =
    let same : suc (length past) + 1 ≡ (length past + 1) + 1 = omega arith in
    ap (λ n. onto (records_back past vs) (report_of (length past + 1) i v ∷ reports_of n is us)) same ∙ records_onto w past vs cs e.0 e.1.0 (i ∷ is) (v ∷ us)
records_onto w [] [] (c ∷ cs) window e is us = absurd e
records_onto w [] (v ∷ vs) cs window e is us = absurd e
records_onto w (i ∷ past) [] cs window e is us = absurd e
records_onto w (i ∷ past) (v ∷ vs) [] window e is us = absurd e

pub exact_is_valid : (w : WheelParts) (is : List Instant) (vs : List Verdict) (cs : List CertLine) (window : List Instant) → IsWheel w → IsRising is → AreExactLines w (reverse is) vs cs window
    → IsValid w is (reports_of 1 is (reverse vs)) (reverse cs)
exact_is_valid w is vs cs window wheel rising exact =
    let rises : RisesTo (reverse is) = rises_to-reverse is rising in
    let all = valid_onto w (reverse is) vs cs window (some_crank w wheel) rises exact [] [] [] (λ reached e. tt) in
    let back : onto (reverse is) [] ≡ is = onto-none (reverse is) ∙ reverse-reverse is in
    let records : onto (records_back (reverse is) vs) [] ≡ reports_of 1 is (reverse vs) =
    records_onto w (reverse is) vs cs window exact [] [] ∙ ap (λ l. reports_of 1 l (onto vs [])) back ∙ ap (reports_of 1 is) (onto-none vs) in
    subst (λ l. IsValid w l (reports_of 1 is (reverse vs)) (reverse cs)) back (subst (λ l. IsValid w (onto (reverse is) []) l (reverse cs)) records (subst (λ l. IsValid w (onto (reverse is) []) (onto (records_back (reverse is) vs) []) l) (onto-none cs) all))
