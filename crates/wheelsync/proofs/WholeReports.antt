-- Past the lines of the first instants stand those of the rest.
use Rattle.std.proofs.Common.{◌≡◌, ℕ, ◌+◌, List, [], ◌∷◌, ◌++◌, length, reverse, take, drop, refl, sym, ◌∙◌, ap, subst, take-append-drop, suc}
use Rattle.std.proofs.lemmas.List.{reverse-append, length-reverse}
use Rattle.wheel_types.specs.declared.parts.WheelParts.{WheelParts}
use Rattle.wheel_types.specs.declared.instant.Instant.{Instant}
use Rattle.wheel_types.specs.declared.verdict.Verdict.{Verdict}
use Rattle.wheel_types.specs.Verdicts.{AreVerdicts, IsRising}
use Rattle.wheel_types.specs.Wheels.{IsWheel}
use Rattle.wheel_types.proofs.Determined.{verdicts_determined}
use Rattle.wheel_types.proofs.RisingTimes.{rises_to-reverse}
use Rattle.plain_motion.proofs.Existing.{verdicts_exist}
use Rattle.run_ends.specs.Lines.{MarkedLine}
use Rattle.wheelsync.specs.Reported.{lines_of, AreReported}
use Rattle.wheelsync.proofs.Reports.{one_each, lines_append, lines_count}
use Rattle.wheelsync.proofs.Sayings.{reported_by}

-- the verdicts of later instants, and those of earlier ones
record SplitVerdicts (w : WheelParts) (later past : List Instant) (vs : List Verdict) : Type 0 where
  pub front : List Verdict
  pub rest : List Verdict
  pub window : List Instant
  pub all : vs ≡ front ++ rest
  pub count : length later ≡ length front
  pub verdicts : AreVerdicts w past rest window

split_verdicts : (w : WheelParts) (later past : List Instant) (vs : List Verdict) (g : List Instant) → AreVerdicts w (later ++ past) vs g → SplitVerdicts w later past vs
split_verdicts w [] past vs g h = record { front = []; rest = vs; window = g; all = refl; count = refl; verdicts = h }
split_verdicts w (i ∷ later) past [] g h = absurd h
split_verdicts w (i ∷ later) past (v ∷ vs) g h =
    let s = split_verdicts w later past vs h.0 h.1 in
    record { front = v ∷ s.front; rest = s.rest; window = s.window; all = ap (λ l. v ∷ l) s.all; count = ap suc s.count; verdicts = s.verdicts }

-- the lines of the rest
pub record Goes (w : WheelParts) (is : List Instant) (first : List MarkedLine) (left : ℕ) : Type 0 where
  pub rest : List MarkedLine
  pub reported : AreReported w is (first ++ rest)
  pub many : length rest ≡ left

pub goes_on : (w : WheelParts) (is : List Instant) (k : ℕ) (vs : List Verdict) (window : List Instant) → IsWheel w → IsRising is → AreVerdicts w (reverse (take k is)) vs window
    → Goes w is (lines_of 1 (take k is) (reverse vs)) (length (drop k is))
goes_on w is k vs window wheel rising here =
    let whole = verdicts_exist w wheel (reverse is) (rises_to-reverse is rising) in
    let parts : reverse is ≡ reverse (drop k is) ++ reverse (take k is) = ap reverse (sym (take-append-drop k is)) ∙ reverse-append (take k is) (drop k is) in
    let s = split_verdicts w (reverse (drop k is)) (reverse (take k is)) whole.verdicts whole.window (subst (λ l. AreVerdicts w l whole.verdicts whole.window) parts whole.are) in
    let same : s.rest ≡ vs = (verdicts_determined w (reverse (take k is)) s.rest vs s.window window wheel.crank_edge s.verdicts here).0 in
    let count : length (take k is) ≡ length (reverse vs) = sym (length-reverse (take k is)) ∙ one_each w (reverse (take k is)) vs window here ∙ sym (length-reverse vs) in
    let rest : List MarkedLine = lines_of (1 + length (take k is)) (drop k is) (reverse s.front) in
    let verdicts : reverse whole.verdicts ≡ reverse vs ++ reverse s.front = ap reverse (s.all ∙ ap (λ l. s.front ++ l) same) ∙ reverse-append s.front vs in
    let all : lines_of 1 is (reverse whole.verdicts) ≡ lines_of 1 (take k is) (reverse vs) ++ rest
    = ap (lines_of 1 is) verdicts ∙ ap (λ l. lines_of 1 l (reverse vs ++ reverse s.front)) (sym (take-append-drop k is)) ∙ lines_append 1 (take k is) (drop k is) (reverse vs) (reverse s.front) count in
    let later : length (drop k is) ≡ length (reverse s.front) = sym (length-reverse (drop k is)) ∙ s.count ∙ sym (length-reverse s.front) in
    record {
      rest = rest;
      reported = subst (AreReported w is) all (reported_by w is whole.verdicts whole.window whole.are);
      many = lines_count (1 + length (take k is)) (drop k is) (reverse s.front) later;
    }
