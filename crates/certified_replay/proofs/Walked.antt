-- Sessions that walk a sound image, and the verdicts of the instants that they stand for.
use Rattle.std.proofs.Common.{◌≡◌, ℕ, suc, ◌+◌, ◌<◌, List, [], ◌∷◌, ◌++◌, length, reverse, take, get_or, refl, sym, ap, ◌∙◌, subst, arith, min, inl, inr, true, ℤ}
use Rattle.std.specs.Prelude.{Option, Some, None, IfSome, IsTrue, int_lt, ◌<ℤ◌}
use Rattle.std.proofs.lemmas.Bool.{cases_Bool}
use Rattle.std.proofs.lemmas.Int.{ints}
use Rattle.sync_machine.specs.Times.{is_before}
use Rattle.std.proofs.lemmas.List.{length-take, reverse-append, reverse-reverse, get_or-take}
use Rattle.std.proofs.Math.Seq.{take-suc}
use Rattle.wheel_types.specs.declared.instant.Instant.{Instant}
use Rattle.wheel_types.specs.declared.verdict.Verdict.{Verdict}
use Rattle.wheel_types.specs.declared.verdict.Report.{Report}
use Rattle.wheel_types.specs.Verdicts.{AreVerdicts, IsRising}
use Rattle.wheel_types.proofs.RisingTimes.{RisesTo, rises_to-reverse}
use Rattle.image_layout.specs.Fields.{wheel_parts_of}
use Rattle.image_format.proofs.Wheels.{is_wheel}
use Rattle.sound_walk.specs.Laws.{IsKnownSound}
use Rattle.sound_walk.specs.Windows.{window_after, verdict_at, verdicts_of}
use Rattle.sound_walk.proofs.Known.{known_verdicts}
use Rattle.replay_core.specs.declared.session.Session.{Session}
use Rattle.replay_core.specs.Sessions.{StandsFor, image_of}
use Rattle.replay_core.specs.Lines.{line_at}
use Rattle.replay_core.proofs.Whole.{sound_lines_are_whole}
use Rattle.certified_replay.specs.Walked.{wheel_of, HasWalked}

-- the verdicts are those of the instants, and the walk's window is theirs
pub verdicts_walked : (s : Session) (past : List Instant) (vs : List Verdict) → HasWalked s past vs → AreVerdicts (wheel_of s) past vs (window_after (image_of s) past)
verdicts_walked s past vs h =
    let b = image_of s in
    let rises : RisesTo past = subst RisesTo (reverse-reverse past) (rises_to-reverse (reverse past) h.rising) in
    subst (λ l. AreVerdicts (wheel_parts_of b) past l (window_after b past)) (sym h.are) (known_verdicts b (is_wheel b h.known.0) h.known.1 past rises)

-- a session that has begun
pub fresh_walked : (s : Session) (b : List ℕ) → image_of s ≡ b → IsKnownSound b → StandsFor s [] → HasWalked s [] []
fresh_walked s b same known stands = record {
  known = subst IsKnownSound (sym same) known;
  stands = stands;
  rising = λ k d lt. absurd (omega (arith, lt));
  are = refl;
}

-- what the session says of an instant: its verdict, and its number
pub said_verdict : (before : Session) (past : List Instant) (verdicts : List Verdict) (i : Instant) (report : Report) → HasWalked before past verdicts → IsRising (reverse (i ∷ past)) → report ≡ line_at (image_of before) past i
    → report.verdict ≡ verdict_at (image_of before) past i
said_verdict before past verdicts i report h rising is = ap (λ (r : Report). r.verdict) is ∙ (sound_lines_are_whole (image_of before) past i h.known rising).whole

-- the session stands for one instant more, whose verdict is that of its line
pub walked_next : (before after : Session) (past : List Instant) (verdicts : List Verdict) (i : Instant) (report : Report) → HasWalked before past verdicts → IsRising (reverse (i ∷ past)) → report ≡ line_at (image_of before) past i
    → StandsFor after (i ∷ past) → image_of after ≡ image_of before → HasWalked after (i ∷ past) (report.verdict ∷ verdicts)
walked_next before after past verdicts i report h rising is stands same = record {
  known = subst IsKnownSound (sym same) h.known;
  stands = stands;
  rising = rising;
  are =
      ap (λ v. v ∷ verdicts) (said_verdict before past verdicts i report h rising is)
      ∙ ap (λ l. verdict_at (image_of before) past i ∷ l) h.are
      ∙ ap (λ b. verdicts_of b (i ∷ past)) (sym same);
}

pub said_number : (s : Session) (past : List Instant) (verdicts : List Verdict) (i : Instant) (report : Report) → HasWalked s past verdicts → report ≡ line_at (image_of s) past i → report.index ≡ length past + 1
said_number s past verdicts i report h is = ap (λ (r : Report). r.index) is ∙ (let n : length (i ∷ past) ≡ length past + 1 = omega arith in n)

-- ---- the first of instants whose times rise

rising_take : (is : List Instant) (k : ℕ) → IsRising is → IsRising (take k is)
rising_take is k r j d lt =
    let within : j + 1 < min k (length is) = rw length-take at lt in
    rw (get_or-take k is j d (omega (arith, within)), get_or-take k is (j + 1) d (omega (arith, within))) (r j d (omega (arith, within)))

-- and one more
pub rising_next : (is : List Instant) (k : ℕ) (i : Instant) → k < length is → i ≡ get_or is k i → IsRising is → IsRising (reverse (i ∷ reverse (take k is)))
rising_next is k i h here r =
    let more : reverse (take (suc k) is) ≡ i ∷ reverse (take k is) = ap reverse (take-suc is k i h ∙ ap (λ j. take k is ++ j ∷ []) (sym here)) ∙ reverse-append (take k is) (i ∷ []) in
    subst IsRising (sym (reverse-reverse (take (suc k) is)) ∙ ap reverse more) (rising_take is (suc k) r)

-- ---- times

int_below : (t u : ℤ) → t <ℤ u → int_lt t u ≡ true
int_below t u h = elim (cases_Bool (int_lt t u)) [ inl e ↦ e | inr e ↦ absurd (omega (arith, ints)) ]

pub before_next : (last : Option ℤ) (u : ℤ) → IfSome last (λ t. t <ℤ u) → IsTrue (is_before last (Some u))
before_next None u h = refl
before_next (Some t) u h = int_below t u h
