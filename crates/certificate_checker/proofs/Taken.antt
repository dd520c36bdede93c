-- An instant that keeps the rules is taken.
use Rattle.std.proofs.Common.{◌≡◌, ◌≢◌, ℕ, List, [], ◌∷◌, ◌<ℤ◌, refl, sym, ◌∙◌, subst}
use Rattle.std.specs.Prelude.{Contains, Option, Some, None, IfSome, MatchOption}
use Rattle.wheel_types.specs.declared.place.Place.{Place}
use Rattle.wheel_types.specs.declared.instant.Instant.{Instant}
use Rattle.wheel_types.specs.declared.verdict.Verdict.{Verdict}
use Rattle.wheel_types.specs.declared.verdict.Verdict.TheVariants.{At, Open, Lost}
use Rattle.wheel_types.specs.declared.verdict.Report.{Report}
use Rattle.wheel_types.specs.declared.parts.WheelParts.{WheelParts}
use Rattle.wheel_types.specs.Wheels.{IsWheel}
use Rattle.wheel_types.specs.Verdicts.{AreVerdicts, IsVerdict, IsNextWindow, AllEarlier}
use Rattle.wheel_types.proofs.Determined.{verdicts_determined}
use Rattle.wheel_types.proofs.RisingTimes.{RisesTo}
use Rattle.plain_motion.specs.declared.set.PlainSet.{PlainSet}
use Rattle.plain_motion.specs.Sets.{StandsFor, wheel_of, last_of}
use Rattle.pair_certificate.specs.declared.line.CertLine.{CertLine}
use Rattle.certificate_checker.specs.Situations.{window_after}
use Rattle.certificate_checker.specs.Valid.{KeepsRules, situation_of}
use Rattle.certificate_checker.specs.Checking.{ArePlacesOf, AreFrom, Tells}
use Rattle.certificate_checker.specs.Stages.{IsKept, StandsIn, HasTaken}
use Rattle.certificate_checker.specs.Answers.{BreaksFirst}
use Rattle.certificate_checker.specs.declared.rule.Rule.{Rule}
use Rattle.certificate_checker.proofs.LegalWalks.{leads_walk, walk_leads}
use Rattle.certificate_checker.proofs.RightVerdicts.{NextCovers, verdict_right, next_covers}
use Rattle.certificate_checker.proofs.RightReports.{some_crank}

-- the verdicts for which a set of the wheel stands
verdicts_of : (w : WheelParts) (set : PlainSet) (past : List Instant) (vs : List Verdict) → wheel_of set ≡ w → (s : StandsFor set past vs) → AreVerdicts w past vs s.kept.window
verdicts_of w set past vs e s = subst (λ u. AreVerdicts u past vs s.kept.window) e s.kept.windows

-- the window's instants are before the next
pub early : (w : WheelParts) (set : PlainSet) (kept : Option (List Place)) (before : List Instant) (reached : List Place) (i : Instant) → StandsIn w set kept before reached → IfSome (last_of set) (λ t. t <ℤ i.time) → AllEarlier i.time before
early w set kept before reached i s later = subst (AllEarlier i.time) s.window (s.stands.kept.earlier i.time later)

goes_on_to : (w : WheelParts) (i : Instant) (before window : List Instant) (v : Verdict) → v ≢ Lost → IsNextWindow w i before v window → window ≡ i ∷ before
goes_on_to w i before window (At j s) n h = h
goes_on_to w i before window (Open x y) n h = h
goes_on_to w i before window Lost n h = absurd (n refl)

-- what a step of the set tells of the window's instants and the last one
pub step_tells : (w : WheelParts) (set next : PlainSet) (kept : Option (List Place)) (before : List Instant) (reached : List Place) (i : Instant) (v : Verdict) → IsWheel w → (s : StandsIn w set kept before reached) → IfSome (last_of set) (λ t. t <ℤ i.time)
    → wheel_of next ≡ w → (n : StandsFor next (i ∷ s.past) (v ∷ s.verdicts)) → Tells w (i ∷ before) v n.kept.window
step_tells w set next kept before reached i v wheel s later e n =
    let some = some_crank w wheel in
    let are : AreVerdicts w (i ∷ s.past) (v ∷ s.verdicts) n.kept.window = verdicts_of w next (i ∷ s.past) (v ∷ s.verdicts) e n in
    let one = verdicts_determined w s.past s.verdicts s.verdicts are.0 s.stands.kept.window some are.1 (verdicts_of w set s.past s.verdicts s.wheel s.stands) in
    let same : are.0 ≡ before = one.1 ∙ s.window in
    let rises : AllEarlier i.time before = early w set kept before reached i s later in
    record {
      verdict = subst (λ l. IsVerdict w (i ∷ l) v) same are.2;
      goes_on = λ h. goes_on_to w i before n.kept.window v h (subst (λ l. IsNextWindow w i l v n.kept.window) same are.3);
      walks = λ a e. (walk_leads w (i ∷ before) a e some (rises, s.rises), leads_walk w (i ∷ before) a e some);
    }

-- where the rules hold the set stands in the window that the cover tells
pub taken : (w : WheelParts) (set after : PlainSet) (kept next : Option (List Place)) (n : ℕ) (before : List Instant) (reached : List Place) (i : Instant) (r : Report) (c : CertLine) (v : Verdict) → IsWheel w → (s : StandsIn w set kept before reached) → IfSome (last_of set) (λ t. t <ℤ i.time)
    → wheel_of after ≡ w → StandsFor after (i ∷ s.past) (v ∷ s.verdicts) → KeepsRules w (situation_of n before reached i r c) → IsKept next (window_after i before r.verdict c.cover) c.cover → HasTaken w after n before reached i r c next
taken w set after kept next n before reached i r c v wheel s later e stands keeps from =
    let some = some_crank w wheel in
    let t = situation_of n before reached i r c in
    let rises : RisesTo (i ∷ before) = (early w set kept before reached i s later, s.rises) in
    let right = verdict_right w t r.verdict c.kind some s.covers rises keeps.cert_line.kind keeps.steps keeps.position keeps.starts keeps.least_ends in
    let nexts : NextCovers w i before r.verdict c.cover = next_covers w t r.verdict wheel some s.covers rises keeps.steps keeps.loss in
    let was : AreVerdicts w s.past s.verdicts before = subst (AreVerdicts w s.past s.verdicts) s.window (verdicts_of w set s.past s.verdicts s.wheel s.stands) in
    let told : AreVerdicts w (i ∷ s.past) (r.verdict ∷ s.verdicts) (window_after i before r.verdict c.cover) = (before, was, right, nexts.is_next) in
    let one = verdicts_determined w (i ∷ s.past) (v ∷ s.verdicts) (r.verdict ∷ s.verdicts) stands.kept.window (window_after i before r.verdict c.cover) some (verdicts_of w after (i ∷ s.past) (v ∷ s.verdicts) e stands) told in
    record {
      rules = keeps;
      stands = record { wheel = e; past = i ∷ s.past; verdicts = v ∷ s.verdicts; stands = stands; window = one.1; covers = nexts.covers; rises = nexts.rises; from = from };
    }

-- the places from which steps are taken
pub from_none : (w : WheelParts) (before : List Instant) (reached places slice : List Place) → slice ≡ places → ArePlacesOf w places → IsKept None before reached → AreFrom w before reached slice
from_none w [] reached places slice e are k = subst (λ l. AreFrom w [] reached l) (sym e) are
from_none w (i ∷ before) reached places slice e are k = absurd (cc)

pub from_some : (w : WheelParts) (before : List Instant) (reached cover : List Place) → IsKept (Some cover) before reached → AreFrom w before reached cover
from_some w [] reached cover k = absurd (k.0 refl)
from_some w (i ∷ before) reached cover k = λ p. (λ c. subst (λ l. Contains l p) k.1 c, λ c. subst (λ l. Contains l p) (sym k.1) c)

-- what is answered after a step, with the set that it left
pub answer_taken : (w : WheelParts) (set after : PlainSet) (kept : Option (List Place)) (n : ℕ) (before : List Instant) (reached : List Place) (i : Instant) (r : Report) (c : CertLine) (v : Verdict) (o : Option Rule) → IsWheel w → (s : StandsIn w set kept before reached) → IfSome (last_of set) (λ t. t <ℤ i.time)
    → wheel_of after ≡ w → StandsFor after (i ∷ s.past) (v ∷ s.verdicts)
    → MatchOption o (KeepsRules w (situation_of n before reached i r c)) (λ b. BreaksFirst w (situation_of n before reached i r c) b)
    → MatchOption o ((next : Option (List Place)) → IsKept next (window_after i before r.verdict c.cover) c.cover → HasTaken w after n before reached i r c next) (λ b. BreaksFirst w (situation_of n before reached i r c) b)
answer_taken w set after kept n before reached i r c v None wheel s later e stands h = λ next from. taken w set after kept next n before reached i r c v wheel s later e stands h from
answer_taken w set after kept n before reached i r c v (Some b) wheel s later e stands h = h
