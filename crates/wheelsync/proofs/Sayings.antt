-- The verdicts of instants say what is proved, at each of them.
use Rattle.std.proofs.Common.{◌≡◌, ℕ, ◌+◌, ◌↔◌, List, [], ◌∷◌, ◌++◌, reverse, refl, sym, ◌∙◌, ap, subst}
use Rattle.wheel_types.specs.declared.parts.WheelParts.{WheelParts}
use Rattle.wheel_types.specs.declared.instant.Instant.{Instant}
use Rattle.wheel_types.specs.declared.verdict.Verdict.{Verdict}
use Rattle.wheel_types.specs.declared.verdict.Verdict.TheVariants.{At, Open, Lost}
use Rattle.wheel_types.specs.Verdicts.{AreGiven, AreVerdicts, IsVerdict}
use Rattle.wheel_types.specs.Texts.{report_text, line_text}
use Rattle.wheelsync.specs.Sayings.{SaysAt, SaysOpen, SaysLost, AllEndAt, TwoEndApart, Each, SinceReset}
use Rattle.run_ends.specs.Lines.{text_of}
use Rattle.wheelsync.specs.Headline.{IsReport}
use Rattle.wheelsync.specs.Reported.{lines_of, AreReported}

says_at : (w : WheelParts) (is : List Instant) (v : Verdict) → IsVerdict w is v → (p : ℕ) → SaysAt p v ↔ (AreGiven w is × AllEndAt w is p)
says_at w is (At j slot) h p = (λ e. (h.0, λ q ends. h.1 q ends ∙ e), λ s. sym (h.1 s.0.0 s.0.1) ∙ s.1 s.0.0 s.0.1)
says_at w is (Open a b) h p = (λ e. absurd e, λ s. h.3.holds.1 (s.1 h.1 h.3.holds.0 ∙ sym (s.1 h.0 h.2.holds)))
says_at w is Lost h p = (λ e. absurd e, λ s. h s.0.0 s.0.1)

says_open : (w : WheelParts) (is : List Instant) (v : Verdict) → IsVerdict w is v → SaysOpen v ↔ TwoEndApart w is
says_open w is (At j slot) h = (λ e. absurd e, λ s. s.1.1.1.1 (h.1 s.0 s.1.1.0 ∙ sym (h.1 s.1.0 s.1.1.1.0)))
says_open w is (Open a b) h = (λ e. (h.0, (h.1, (h.2.holds, (h.3.holds.0, λ same. h.3.holds.1 (sym same))))), λ s. tt)
says_open w is Lost h = (λ e. absurd e, λ s. h s.0 s.1.1.0)

says_lost : (w : WheelParts) (is : List Instant) (v : Verdict) → IsVerdict w is v → SaysLost v ↔ (¬ AreGiven w is)
says_lost w is (At j slot) h = (λ e. absurd e, λ none. none h.0)
says_lost w is (Open a b) h = (λ e. absurd e, λ none. none (h.0, h.2.holds))
says_lost w is Lost h = (λ e given. h given.0 given.1, λ none. tt)

-- the windows of instants with these verdicts
abbrev pub windows_of : (w : WheelParts) (past : List Instant) (vs : List Verdict) (next : List Instant) → AreVerdicts w past vs next → List (List Instant)
windows_of w [] [] next h = []
windows_of w [] (v ∷ vs) next h = absurd h
windows_of w (i ∷ past) [] next h = absurd h
windows_of w (i ∷ past) (v ∷ vs) next h = (i ∷ h.0) ∷ windows_of w past vs h.0 h.1

resets : (w : WheelParts) (past : List Instant) (vs : List Verdict) (next : List Instant) → (h : AreVerdicts w past vs next) → SinceReset w past vs (windows_of w past vs next h) next
resets w [] [] next h = h
resets w [] (v ∷ vs) next h = absurd h
resets w (i ∷ past) [] next h = absurd h
resets w (i ∷ past) (v ∷ vs) next h = (h.0, (refl, (resets w past vs h.0 h.1, h.3)))

each : (w : WheelParts) (P : List Instant → Verdict → Type 0) → ((is : List Instant) (v : Verdict) → IsVerdict w is v → P is v)
    → (past : List Instant) (vs : List Verdict) (next : List Instant) → (h : AreVerdicts w past vs next) → Each P (windows_of w past vs next h) vs
each w P f [] [] next h = tt
each w P f [] (v ∷ vs) next h = absurd h
each w P f (i ∷ past) [] next h = absurd h
each w P f (i ∷ past) (v ∷ vs) next h = (f (i ∷ h.0) v h.2, each w P f past vs h.0 h.1)

-- the report of instants whose verdicts these are
pub report_of : (w : WheelParts) (instants : List Instant) (text : List ℕ) (vs : List Verdict) (next : List Instant) → AreVerdicts w (reverse instants) vs next
    → text ≡ report_text 1 instants (reverse vs) → IsReport w instants text
report_of w instants text vs next h e = record {
  verdicts = vs;
  windows = windows_of w (reverse instants) vs next h;
  next = next;
  resets = resets w (reverse instants) vs next h;
  at = each w (λ since v. (p : ℕ) → SaysAt p v ↔ (AreGiven w since × AllEndAt w since p)) (says_at w) (reverse instants) vs next h;
  «open» = each w (λ since v. SaysOpen v ↔ TwoEndApart w since) (says_open w) (reverse instants) vs next h;
  lost = each w (λ since v. SaysLost v ↔ (¬ AreGiven w since)) (says_lost w) (reverse instants) vs next h;
  printed = each w (λ since v. IsVerdict w since v) (λ is v k. k) (reverse instants) vs next h;
  nothing_else = e;
}

-- the verdicts that a report prints are those of the instants
pub are_verdicts : (w : WheelParts) (past : List Instant) (vs : List Verdict) (windows : List (List Instant)) (next : List Instant)
    → SinceReset w past vs windows next → Each (λ since v. IsVerdict w since v) windows vs → AreVerdicts w past vs next
are_verdicts w [] [] [] next r p = r
are_verdicts w [] [] (since ∷ more) next r p = absurd r
are_verdicts w [] (v ∷ vs) more next r p = absurd r
are_verdicts w (i ∷ past) [] more next r p = absurd r
are_verdicts w (i ∷ past) (v ∷ vs) [] next r p = absurd r
are_verdicts w (i ∷ past) (v ∷ vs) (since ∷ more) next r p = (r.0, are_verdicts w past vs more r.0 r.1.1.0 p.1, subst (λ is. IsVerdict w is v) r.1.0 p.0, r.1.1.1)

-- the text of the lines of instants
pub lines_text : (index : ℕ) (is : List Instant) (vs : List Verdict) → text_of (lines_of index is vs) ≡ report_text index is vs
lines_text index [] vs = refl
lines_text index (i ∷ is) [] = refl
lines_text index (i ∷ is) (v ∷ vs) = ap (λ t. line_text index i v ++ t) (lines_text (index + 1) is vs)

-- the lines of instants whose verdicts these are
pub reported_by : (w : WheelParts) (instants : List Instant) (vs : List Verdict) (next : List Instant) → AreVerdicts w (reverse instants) vs next → AreReported w instants (lines_of 1 instants (reverse vs))
unfolding report_of
reported_by w instants vs next h = record { report = report_of w instants (text_of (lines_of 1 instants (reverse vs))) vs next h (lines_text 1 instants (reverse vs)); lines = refl }
