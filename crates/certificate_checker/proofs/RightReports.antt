-- A valid certificate shows that its report is the verdicts'.
use Rattle.std.proofs.Common.{◌≡◌, ℕ, ◌+◌, ◌<◌, ◌≤◌, List, [], ◌∷◌, ℤ, reverse, refl, sym, ◌∙◌, ap, subst, arith}
use Rattle.wheel_types.specs.declared.channel.Channel.TheVariants.{Crank}
use Rattle.wheel_types.specs.declared.place.Place.{Place}
use Rattle.wheel_types.specs.declared.instant.Instant.{Instant}
use Rattle.wheel_types.specs.declared.verdict.Verdict.{Verdict}
use Rattle.wheel_types.specs.declared.verdict.Report.{Report}
use Rattle.wheel_types.specs.declared.parts.WheelParts.{WheelParts}
use Rattle.wheel_types.specs.Wheels.{IsWheel}
use Rattle.wheel_types.specs.Edges.{edge_count}
use Rattle.wheel_types.specs.Verdicts.{AreVerdicts, AllEarlier, IsRising}
use Rattle.wheel_types.proofs.RisingTimes.{RisesTo, rises_to-reverse}
use Rattle.pair_certificate.specs.declared.line.CertLine.{CertLine}
use Rattle.certificate_checker.specs.Situations.{Situation, window_after}
use Rattle.certificate_checker.specs.Rules.{HasReportLine}
use Rattle.certificate_checker.specs.Valid.{KeepsRules, situation_of, IsValidFrom, IsValid}
use Rattle.certificate_checker.specs.Reports.{report_of, reports_of, IsReportOf}
use Rattle.certificate_checker.proofs.Lists.{onto, onto-none}
use Rattle.certificate_checker.proofs.Covers.{Covers, none_covers}
use Rattle.certificate_checker.proofs.RightVerdicts.{NextCovers, verdict_right, next_covers}
use Rattle.std.proofs.lemmas.List.{reverse-reverse}

pub some_crank : (w : WheelParts) → IsWheel w → 0 < edge_count w Crank
some_crank w wheel = let some : 1 ≤ edge_count w Crank = wheel.crank_edge in omega (arith, some)

-- what rises in the end rises at the start
rises_part : (is past : List Instant) → RisesTo (onto is past) → RisesTo past
rises_part [] past r = r
rises_part (i ∷ is) past r = (rises_part is (i ∷ past) r).1

-- the verdicts of the instants so far, and a cover that has every end place of the window that the next one comes into
record HasCome (w : WheelParts) (past : List Instant) (vs : List Verdict) (before : List Instant) (reached : List Place) : Type 0 where
  pub are : AreVerdicts w past vs before
  pub covers : Covers w before reached
  pub rises : RisesTo before
  pub earlier : (t : ℤ) → AllEarlier t past → AllEarlier t before

one_more : (w : WheelParts) (past : List Instant) (vs : List Verdict) (n : ℕ) (before : List Instant) (reached : List Place) (i : Instant) (r : Report) (c : CertLine) → IsWheel w → AllEarlier i.time past
    → HasCome w past vs before reached → KeepsRules w (situation_of n before reached i r c) → HasCome w (i ∷ past) (r.verdict ∷ vs) (window_after i before r.verdict c.cover) c.cover
one_more w past vs n before reached i r c wheel early come keeps =
    let t : Situation = situation_of n before reached i r c in
    let some = some_crank w wheel in
    let rises : RisesTo (i ∷ before) = (come.earlier i.time early, come.rises) in
    let right = verdict_right w t r.verdict c.kind some come.covers rises keeps.cert_line.kind keeps.steps keeps.position keeps.starts keeps.least_ends in
    let next : NextCovers w i before r.verdict c.cover = next_covers w t r.verdict wheel some come.covers rises keeps.steps keeps.loss in
    record {
      are = (before, come.are, right, next.is_next);
      covers = next.covers;
      rises = next.rises;
      earlier = λ u h. next.earlier u (h.0, come.earlier u h.1);
    }

-- the record of a line that has its instant's number, time and shape
line_is : (n m : ℕ) (t u : ℤ) (s k : ℕ) (v : Verdict) → n ≡ m → t ≡ u → s ≡ k
    → ◌≡◌ {A = Report} (record { index = n; time = t; shape = s; verdict = v }) (record { index = m; time = u; shape = k; verdict = v })
line_is n m t u s k v e f g = rw (e, f, g)

-- the verdicts of all instants, and the report of those from here on
record IsRight (w : WheelParts) (n : ℕ) (past : List Instant) (us : List Verdict) (is : List Instant) (rs : List Report) : Type 0 where
  pub verdicts : List Verdict
  pub window : List Instant
  pub are : AreVerdicts w (onto is past) (onto verdicts us) window
  pub records : rs ≡ reports_of n is verdicts

valid_right : (w : WheelParts) (n : ℕ) (past : List Instant) (us : List Verdict) (before : List Instant) (reached : List Place) (is : List Instant) (rs : List Report) (cs : List CertLine) → IsWheel w
    → RisesTo (onto is past) → HasCome w past us before reached → IsValidFrom w n before reached is rs cs → IsRight w n past us is rs
valid_right w n past us before reached [] [] [] wheel rises come valid = record { verdicts = []; window = before; are = come.are; records = refl }
valid_right w n past us before reached (i ∷ is) (r ∷ rs) (c ∷ cs) wheel rises come valid =
    let early : AllEarlier i.time past = (rises_part is (i ∷ past) rises).0 in
    let next = one_more w past us n before reached i r c wheel early come valid.0 in
    let rest : IsRight w (n + 1) (i ∷ past) (r.verdict ∷ us) is rs = valid_right w (n + 1) (i ∷ past) (r.verdict ∷ us) _ c.cover is rs cs wheel rises next valid.1 in
    let has : HasReportLine n i r = valid.0.report_line in
    record {
      verdicts = r.verdict ∷ rest.verdicts;
      window = rest.window;
      are = rest.are;
      records = ap (λ x. x ∷ rs) (line_is _ _ _ _ _ _ r.verdict has.index has.time has.shape) ∙ ap (λ xs. report_of n i r.verdict ∷ xs) rest.records;
    }
valid_right w n past us before reached [] [] (c ∷ cs) wheel rises come valid = absurd valid
valid_right w n past us before reached [] (r ∷ rs) cs wheel rises come valid = absurd valid
valid_right w n past us before reached (i ∷ is) [] cs wheel rises come valid = absurd valid
valid_right w n past us before reached (i ∷ is) (r ∷ rs) [] wheel rises come valid = absurd valid

pub valid_is_right : (w : WheelParts) (is : List Instant) (report : List Report) (cert : List CertLine) → IsWheel w → IsRising is → IsValid w is report cert → IsReportOf w is report
valid_is_right w is report cert wheel rising valid =
    let start : HasCome w [] [] [] [] = record { are = refl; covers = none_covers w [] (some_crank w wheel); rises = tt; earlier = λ t h. tt } in
    let rises : RisesTo (onto is []) = subst RisesTo (sym (onto-none is)) (rises_to-reverse is rising) in
    let right : IsRight w 1 [] [] is report = valid_right w 1 [] [] [] [] is report cert wheel rises start valid in
    record {
      verdicts = reverse right.verdicts;
      window = right.window;
      are = subst (λ l. AreVerdicts w l (reverse right.verdicts) right.window) (onto-none is) (subst (λ l. AreVerdicts w (onto is []) l right.window) (onto-none right.verdicts) right.are);
      records = right.records ∙ ap (reports_of 1 is) (sym (reverse-reverse right.verdicts));
    }
