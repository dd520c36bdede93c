-- A certificate is valid, or breaks a first rule, and not both.
use Rattle.std.proofs.Common.{◌≡◌, ℕ, suc, ◌+◌, inl, inr, List, [], ◌∷◌, reverse, refl, sym, ap, subst}
use Rattle.wheel_types.specs.declared.place.Place.{Place}
use Rattle.wheel_types.specs.declared.instant.Instant.{Instant}
use Rattle.wheel_types.specs.declared.verdict.Report.{Report}
use Rattle.wheel_types.specs.declared.parts.WheelParts.{WheelParts}
use Rattle.pair_certificate.specs.declared.line.CertLine.{CertLine}
use Rattle.certificate_checker.specs.declared.rule.Rule.{Rule}
use Rattle.certificate_checker.specs.declared.rule.Rule.TheVariants as rule
use Rattle.certificate_checker.specs.declared.rule.Answer.{Answer}
use Rattle.certificate_checker.specs.declared.rule.Answer.TheVariants.{Yes, No}
use Rattle.wheel_types.specs.Wheels.{IsWheel}
use Rattle.wheel_types.specs.Verdicts.{IsRising}
use Rattle.certificate_checker.specs.Reports.{reports_of}
use Rattle.certificate_checker.specs.Laws.{AreOwn}
use Rattle.certificate_checker.proofs.ExactValid.{exact_is_valid}
use Rattle.certificate_checker.specs.Situations.{Situation, window_after}
use Rattle.certificate_checker.specs.Valid.{KeepsRules, situation_of, IsValidFrom, IsValid}
use Rattle.certificate_checker.specs.Answers.{Holds, BreaksFrom, AreAsMany, IsFirstBroken, IsAnswer}

holds_of : (w : WheelParts) (t : Situation) (r : Rule) → KeepsRules w t → Holds w t r
holds_of w t rule.Counts k = tt
holds_of w t rule.ReportLine k = k.report_line
holds_of w t rule.CertLine k = k.cert_line
holds_of w t rule.Cover k = k.cover
holds_of w t rule.Steps k = k.steps
holds_of w t rule.Position k = k.position
holds_of w t rule.Starts k = k.starts
holds_of w t rule.LeastEnds k = k.least_ends
holds_of w t rule.Loss k = k.loss

not_both : (w : WheelParts) (n : ℕ) (before : List Instant) (reached : List Place) (is : List Instant) (rs : List Report) (cs : List CertLine) (at : ℕ) (b : Rule) → IsValidFrom w n before reached is rs cs → BreaksFrom w n before reached is rs cs at b → ⊥
not_both w n before reached (i ∷ is) (r ∷ rs) (c ∷ cs) at b v (inl f) = f.1.broken (holds_of w (situation_of n before reached i r c) b v.0)
not_both w n before reached (i ∷ is) (r ∷ rs) (c ∷ cs) at b v (inr f) = not_both w (n + 1) (window_after i before r.verdict c.cover) c.cover is rs cs at b v.1 f.1
not_both w n before reached [] rs cs at b v f = absurd f
not_both w n before reached (i ∷ is) [] cs at b v f = absurd f
not_both w n before reached (i ∷ is) (r ∷ rs) [] at b v f = absurd f

as_many : (w : WheelParts) (n : ℕ) (before : List Instant) (reached : List Place) (is : List Instant) (rs : List Report) (cs : List CertLine) → IsValidFrom w n before reached is rs cs → AreAsMany is rs cs
as_many w n before reached [] [] [] v = (refl, refl)
as_many w n before reached (i ∷ is) (r ∷ rs) (c ∷ cs) v = let m = as_many w (n + 1) (window_after i before r.verdict c.cover) c.cover is rs cs v.1 in (ap suc m.0, ap suc m.1)
as_many w n before reached [] [] (c ∷ cs) v = absurd v
as_many w n before reached [] (r ∷ rs) cs v = absurd v
as_many w n before reached (i ∷ is) [] cs v = absurd v
as_many w n before reached (i ∷ is) (r ∷ rs) [] v = absurd v

not_broken : (w : WheelParts) (is : List Instant) (rs : List Report) (cs : List CertLine) (at : ℕ) (b : Rule) → IsValid w is rs cs → IsFirstBroken w is rs cs at b → ⊥
not_broken w is rs cs at b v (inl f) = f.0 (as_many w 1 [] [] is rs cs v)
not_broken w is rs cs at b v (inr f) = not_both w 1 [] [] is rs cs at b v f.1

-- of a valid certificate the answer is yes
pub answer_yes : (w : WheelParts) (is : List Instant) (rs : List Report) (cs : List CertLine) (a : Answer) → IsValid w is rs cs → IsAnswer w is rs cs a → a ≡ Yes
answer_yes w is rs cs Yes v h = refl
answer_yes w is rs cs (No at number) v h = absurd (not_broken w is rs cs at h.0 v h.1.1)

-- of the verdicts' report and the exact certificate too
pub own_yes : (w : WheelParts) (is : List Instant) (rs : List Report) (cs : List CertLine) (a : Answer) → IsWheel w → IsRising is → IsAnswer w is rs cs a → AreOwn w is rs cs → a ≡ Yes
own_yes w is rs cs a wheel rising h own =
    let valid = exact_is_valid w is own.verdicts own.lines own.window wheel rising own.exact in
    answer_yes w is rs cs a (subst (λ l. IsValid w is l cs) (sym own.records) (subst (λ l. IsValid w is (reports_of 1 is (reverse own.verdicts)) l) (sym own.certificate) valid)) h
