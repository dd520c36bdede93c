-- The instants that were checked, and what is left to be answered.
use Rattle.std.proofs.Common.{◌≡◌, ◌↔◌, false, Bool, IsTrue, ℕ, zero, suc, ◌+◌, ◌<◌, ◌≤◌, List, [], ◌∷◌, ℤ, ◌<ℤ◌, length, drop, get_or, inl, inr, refl, sym, ◌∙◌, ap, subst, arith, add-one}
use Rattle.std.proofs.Math.Seq.{drop-cons}
use Rattle.std.proofs.lemmas.List.{get_or_default}
use Rattle.std.specs.Prelude.{All, Option, Some, None, IfSome, MatchOption}
use Rattle.wheel_types.specs.declared.place.Place.{Place}
use Rattle.wheel_types.specs.declared.instant.Instant.{Instant}
use Rattle.wheel_types.specs.declared.verdict.Report.{Report}
use Rattle.wheel_types.specs.declared.parts.WheelParts.{WheelParts}
use Rattle.wheel_types.specs.Verdicts.{IsRising}
use Rattle.cam_ranges.specs.Places.{IsPlace}
use Rattle.plain_motion.specs.declared.set.PlainSet.{PlainSet}
use Rattle.plain_motion.specs.Sets.{StandsFor, wheel_of, last_of}
use Rattle.pair_certificate.specs.declared.line.CertLine.{CertLine}
use Rattle.certificate_checker.specs.declared.rule.Rule.{Rule}
use Rattle.certificate_checker.specs.declared.rule.Answer.{Answer}
use Rattle.certificate_checker.specs.declared.rule.Answer.TheVariants.{Yes, No}
use Rattle.certificate_checker.specs.Numbers.{number_of}
use Rattle.certificate_checker.specs.Situations.{Situation, window_after}
use Rattle.certificate_checker.specs.Valid.{KeepsRules, situation_of}
use Rattle.certificate_checker.specs.Answers.{BreaksFirst, AreAsMany, IsLeastCount, IsAnswer}
use Rattle.certificate_checker.specs.declared.rule.Rule.TheVariants.{Counts}
use Rattle.wheel_types.specs.Wheels.{IsWheel}
use Rattle.std.proofs.lemmas.Bool.{false≢true}
use Rattle.certificate_checker.proofs.Covers.{none_covers}
use Rattle.certificate_checker.proofs.RightReports.{some_crank}
use Rattle.certificate_checker.specs.Stages.{IsKept, StandsIn, IsAnswerFrom, HasTaken}

-- the last of the first k instants was at this time
abbrev pub IsLastOf : Option ℤ → List Instant → ℕ → Type 0
IsLastOf last is zero = last ≡ None
IsLastOf last is (suc k) = (d : Instant) → last ≡ Some (get_or is k d).time

pub later_by : (last : Option ℤ) (is : List Instant) (k : ℕ) (i : Instant) → IsRising is → k < length is → i ≡ get_or is k i → IsLastOf last is k → IfSome last (λ t. t <ℤ i.time)
later_by last is zero i r h here l = subst (λ o. IfSome o (λ t. t <ℤ i.time)) (sym l) tt
later_by last is (suc k) i r h here l =
    let before : k + 1 < length is = omega arith in
    let rises : (get_or is k i).time <ℤ (get_or is (suc k) i).time = rw add-one at (r k i before) in
    subst (λ o. IfSome o (λ t. t <ℤ i.time)) (sym (l i)) (subst (λ (j : Instant). (get_or is k i).time <ℤ j.time) (sym here) rises)

-- the first k instants keep the rules, and what is answered for the others is answered for all
pub record HasChecked (w : WheelParts) (set : PlainSet) (kept : Option (List Place)) (k : ℕ) (is : List Instant) (rs : List Report) (cs : List CertLine) : Type 0 where
  pub before : List Instant
  pub reached : List Place
  pub stands : StandsIn w set kept before reached
  pub places : IfSome kept (All (IsPlace w))
  pub last : IsLastOf (last_of set) is k
  pub rest : (a : Answer) → IsAnswerFrom w (k + 1) before reached (drop k is) (drop k rs) (drop k cs) a → IsAnswerFrom w 1 [] [] is rs cs a

pub checked_none : (w : WheelParts) (set : PlainSet) (is : List Instant) (rs : List Report) (cs : List CertLine) → StandsIn w set None [] [] → last_of set ≡ None → HasChecked w set None 0 is rs cs
checked_none w set is rs cs s l = record { before = []; reached = []; stands = s; places = tt; last = l; rest = λ a h. subst (λ n. IsAnswerFrom w n [] [] is rs cs a) one h }
  where
    one : 0 + 1 ≡ 1
    one = omega arith

-- the lists from here on
front : (w : WheelParts) (n k : ℕ) (before : List Instant) (reached : List Place) (is : List Instant) (rs : List Report) (cs : List CertLine) (i : Instant) (r : Report) (c : CertLine) (a : Answer) → k < length is → k < length rs → k < length cs
    → i ≡ get_or is k i → r ≡ get_or rs k r → c ≡ get_or cs k c
    → IsAnswerFrom w n before reached (i ∷ drop (suc k) is) (r ∷ drop (suc k) rs) (c ∷ drop (suc k) cs) a → IsAnswerFrom w n before reached (drop k is) (drop k rs) (drop k cs) a
front w n k before reached is rs cs i r c a h g f x y z t =
    let e1 : i ∷ drop (suc k) is ≡ drop k is = ap (λ j. j ∷ drop (suc k) is) x ∙ sym (drop-cons is k i h) in
    let e2 : r ∷ drop (suc k) rs ≡ drop k rs = ap (λ j. j ∷ drop (suc k) rs) y ∙ sym (drop-cons rs k r g) in
    let e3 : c ∷ drop (suc k) cs ≡ drop k cs = ap (λ j. j ∷ drop (suc k) cs) z ∙ sym (drop-cons cs k c f) in
    subst (λ l. IsAnswerFrom w n before reached l (drop k rs) (drop k cs) a) e1 (subst (λ l. IsAnswerFrom w n before reached (i ∷ drop (suc k) is) l (drop k cs) a) e2 (subst (λ l. IsAnswerFrom w n before reached (i ∷ drop (suc k) is) (r ∷ drop (suc k) rs) l a) e3 t))

onward : (w : WheelParts) (n : ℕ) (before : List Instant) (reached : List Place) (i : Instant) (r : Report) (c : CertLine) (is : List Instant) (rs : List Report) (cs : List CertLine) (a : Answer) → KeepsRules w (situation_of n before reached i r c)
    → IsAnswerFrom w (n + 1) (window_after i before r.verdict c.cover) c.cover is rs cs a → IsAnswerFrom w n before reached (i ∷ is) (r ∷ rs) (c ∷ cs) a
onward w n before reached i r c is rs cs Yes keeps h = (keeps, h)
onward w n before reached i r c is rs cs (No at number) keeps h = (h.0, (h.1.0, inr (keeps, h.1.1)))

pub checked_more : (w : WheelParts) (set after : PlainSet) (kept next : Option (List Place)) (k : ℕ) (is : List Instant) (rs : List Report) (cs : List CertLine) (i : Instant) (r : Report) (c : CertLine) → k < length is → k < length rs → k < length cs
    → i ≡ get_or is k i → r ≡ get_or rs k r → c ≡ get_or cs k c → (h : HasChecked w set kept k is rs cs) → HasTaken w after (k + 1) h.before h.reached i r c next → last_of after ≡ Some i.time → HasChecked w after next (k + 1) is rs cs
checked_more w set after kept next k is rs cs i r c a b d x y z h t l = rw add-one (record {
  before = window_after i h.before r.verdict c.cover;
  reached = c.cover;
  stands = t.stands;
  places = by_kept next t.stands.from;
  last = λ e. l ∙ ap (λ (j : Instant). Some j.time) (x ∙ same_there e);
  rest = λ o m. h.rest o (front w (k + 1) k h.before h.reached is rs cs i r c o a b d x y z (onward w (k + 1) h.before h.reached i r c (drop (suc k) is) (drop (suc k) rs) (drop (suc k) cs) o t.rules (subst (λ n. IsAnswerFrom w n (window_after i h.before r.verdict c.cover) c.cover (drop (suc k) is) (drop (suc k) rs) (drop (suc k) cs) o) number m)));
})
  where
    number : suc k + 1 ≡ (k + 1) + 1
    number = omega arith

    same_there : (e : Instant) → get_or is k i ≡ get_or is k e
    same_there e = get_or_default is k i e a

    by_kept : (o : Option (List Place)) → IsKept o (window_after i h.before r.verdict c.cover) c.cover → IfSome o (All (IsPlace w))
    by_kept None f = tt
    by_kept (Some cover) f = subst (All (IsPlace w)) (sym f.1) t.rules.cover.stand

pub checked_no : (w : WheelParts) (set : PlainSet) (kept : Option (List Place)) (k : ℕ) (is : List Instant) (rs : List Report) (cs : List CertLine) (i : Instant) (r : Report) (c : CertLine) (b : Rule) → k < length is → k < length rs → k < length cs
    → i ≡ get_or is k i → r ≡ get_or rs k r → c ≡ get_or cs k c → (h : HasChecked w set kept k is rs cs) → BreaksFirst w (situation_of (k + 1) h.before h.reached i r c) b → IsAnswerFrom w 1 [] [] is rs cs (No (k + 1) (number_of b))
checked_no w set kept k is rs cs i r c b a d e x y z h t =
    h.rest (No (k + 1) (number_of b)) (front w (k + 1) k h.before h.reached is rs cs i r c (No (k + 1) (number_of b)) a d e x y z (b, (refl, inl (refl, t))))

drop_all : {X : Type 0} (xs : List X) (k : ℕ) → length xs ≤ k → drop k xs ≡ []
drop_all [] zero h = refl
drop_all [] (suc k) h = refl
drop_all (x ∷ xs) zero h = absurd (omega (arith, h))
drop_all (x ∷ xs) (suc k) h = drop_all xs k (omega (arith, h))

pub checked_all : (w : WheelParts) (set : PlainSet) (kept : Option (List Place)) (k : ℕ) (is : List Instant) (rs : List Report) (cs : List CertLine) → length is ≤ k → length rs ≡ length is → length cs ≡ length is → HasChecked w set kept k is rs cs → IsAnswerFrom w 1 [] [] is rs cs Yes
checked_all w set kept k is rs cs a b d h =
    h.rest Yes (subst (λ l. IsAnswerFrom w (k + 1) h.before h.reached l (drop k rs) (drop k cs) Yes) (sym (drop_all is k a)) (subst (λ l. IsAnswerFrom w (k + 1) h.before h.reached [] l (drop k cs) Yes) (sym (drop_all rs k (omega (arith, a, b)))) (subst (λ l. IsAnswerFrom w (k + 1) h.before h.reached [] [] l Yes) (sym (drop_all cs k (omega (arith, a, d)))) tt)))

pub answered_some : (w : WheelParts) (t : Situation) (P : Type 0) (o : Option Rule) (b : Rule) → o ≡ Some b → MatchOption o P (λ r. BreaksFirst w t r) → BreaksFirst w t b
answered_some w t P o b e h = subst (λ p. MatchOption p P (λ r. BreaksFirst w t r)) e h

pub answered_none : (w : WheelParts) (t : Situation) (P : Type 0) (o : Option Rule) → o ≡ None → MatchOption o P (λ r. BreaksFirst w t r) → P
answered_none w t P o e h = subst (λ p. MatchOption p P (λ r. BreaksFirst w t r)) e h

-- what is answered from the first instant on is the answer, where there are equally many entries
pub as_answer : (w : WheelParts) (slice is : List Instant) (rs : List Report) (cs : List CertLine) (a : Answer) → slice ≡ is → AreAsMany slice rs cs → IsAnswerFrom w 1 [] [] slice rs cs a → IsAnswer w is rs cs a
as_answer w slice is rs cs Yes e many h = subst (λ l. IsAnswer w l rs cs Yes) e h
as_answer w slice is rs cs (No at number) e many h = subst (λ l. IsAnswer w l rs cs (No at number)) e (h.0, (h.1.0, inr (many, h.1.1)))

-- where there are not, the first rule is broken
pub as_counts : (w : WheelParts) (slice is : List Instant) (rs : List Report) (cs : List CertLine) (b : Bool) (n number : ℕ) → slice ≡ is → b ≡ false → IsTrue b ↔ AreAsMany slice rs cs → IsLeastCount slice rs cs n → number ≡ number_of Counts → IsAnswer w is rs cs (No (n + 1) number)
as_counts w slice is rs cs b n number e refused test least f = subst (λ l. IsAnswer w l rs cs (No (n + 1) number)) e (Counts, (f, inl ((λ m. false≢true (sym refused ∙ test.1 m)), (refl, (n, (least, refl))))))

-- a fresh set of the wheel
pub stands_fresh : (w : WheelParts) (set : PlainSet) → IsWheel w → wheel_of set ≡ w → StandsFor set [] [] → StandsIn w set None [] []
stands_fresh w set wheel e s = record { wheel = e; past = []; verdicts = []; stands = s; window = s.kept.windows; covers = none_covers w [] (some_crank w wheel); rises = tt; from = refl }
