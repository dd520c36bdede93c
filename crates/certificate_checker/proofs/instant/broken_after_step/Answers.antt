use Rattle.std.proofs.Common.{◌↔◌, IsTrue, List, ◌∷◌, sym, subst}
use Rattle.wheel_types.specs.declared.place.Place.{Place}
use Rattle.wheel_types.specs.declared.parts.WheelParts.{WheelParts}
use Rattle.cam_ranges.specs.Places.{IsAscending}
use Rattle.plain_motion.specs.Sets.{wheel_of}
use Rattle.certificate_checker.specs.declared.rule.Rule.TheVariants as rule
use Rattle.certificate_checker.specs.Rules.{HoldsStarts, HoldsLeastEnds, HoldsLoss}
use Rattle.certificate_checker.specs.Checking.{Tells}
use Rattle.certificate_checker.specs.Valid.{situation_of}
use Rattle.certificate_checker.proofs.RulesBelow.{below_eight, below_nine, below_ten, keeps_all, breaks}
use Rattle.certificate_checker.proofs.instant.broken_after_step.Goals as goal

pub holds_least_ends-requires-clause-ascend : goal.holds_least_ends-requires-clause-ascend
holds_least_ends-requires-clause-ascend c = subst IsAscending (sym c.as_slice-cover.ensures) c.requires.ascend

pub holds_loss-requires-clause-ascend : goal.holds_loss-requires-clause-ascend
holds_loss-requires-clause-ascend c = subst IsAscending (sym c.as_slice-cover.ensures) c.requires.ascend

pub returns-then-not-holds_starts : goal.returns-then-not-holds_starts
returns-then-not-holds_starts c = λ past verdicts s n before reached t first seven.
    let w = c.args.wheel.now.parts in
    let i = c.args.instant.now in
    let line = c.args.line.now in
    let situation = situation_of n before reached i c.args.report.now line in
    let tells : Tells (wheel_of c.args.set.now) (i ∷ before) c.args.verdict s.kept.window = subst (λ (u : WheelParts). Tells u (i ∷ before) c.args.verdict s.kept.window) (sym c.requires.wheel) t in
    let starts = subst (λ (u : WheelParts). IsTrue c.holds_starts.result ↔ HoldsStarts u (i ∷ before) line.kind) c.requires.wheel (c.holds_starts.ensures past verdicts s i before tells) in
    breaks w situation rule.Starts c.holds_starts.result c.if-not-holds_starts.true starts seven

pub returns-then-not-holds_least_ends : goal.returns-then-not-holds_least_ends
returns-then-not-holds_least_ends c = λ past verdicts s n before reached t first seven.
    let w = c.args.wheel.now.parts in
    let i = c.args.instant.now in
    let line = c.args.line.now in
    let situation = situation_of n before reached i c.args.report.now line in
    let tells : Tells (wheel_of c.args.set.now) (i ∷ before) c.args.verdict s.kept.window = subst (λ (u : WheelParts). Tells u (i ∷ before) c.args.verdict s.kept.window) (sym c.requires.wheel) t in
    let starts = subst (λ (u : WheelParts). IsTrue c.holds_starts.result ↔ HoldsStarts u (i ∷ before) line.kind) c.requires.wheel (c.holds_starts.ensures past verdicts s i before tells) in
    let eight = below_eight w situation seven (starts.0 c.if-not-holds_starts.false) in
    let least = subst (λ (u : WheelParts). IsTrue c.holds_least_ends.result ↔ HoldsLeastEnds u (i ∷ before) c.args.report.now.verdict line.kind line.cover) c.requires.wheel
    (subst (λ (l : List Place). IsTrue c.holds_least_ends.result ↔ HoldsLeastEnds (wheel_of c.args.set.now) (i ∷ before) c.args.report.now.verdict line.kind l) c.as_slice-cover.ensures (c.holds_least_ends.ensures past verdicts s i before tells)) in
    breaks w situation rule.LeastEnds c.holds_least_ends.result c.if-not-holds_least_ends.true least eight

pub returns-then-not-holds_loss : goal.returns-then-not-holds_loss
returns-then-not-holds_loss c = λ past verdicts s n before reached t first seven.
    let w = c.args.wheel.now.parts in
    let i = c.args.instant.now in
    let line = c.args.line.now in
    let situation = situation_of n before reached i c.args.report.now line in
    let tells : Tells (wheel_of c.args.set.now) (i ∷ before) c.args.verdict s.kept.window = subst (λ (u : WheelParts). Tells u (i ∷ before) c.args.verdict s.kept.window) (sym c.requires.wheel) t in
    let starts = subst (λ (u : WheelParts). IsTrue c.holds_starts.result ↔ HoldsStarts u (i ∷ before) line.kind) c.requires.wheel (c.holds_starts.ensures past verdicts s i before tells) in
    let eight = below_eight w situation seven (starts.0 c.if-not-holds_starts.false) in
    let least = subst (λ (u : WheelParts). IsTrue c.holds_least_ends.result ↔ HoldsLeastEnds u (i ∷ before) c.args.report.now.verdict line.kind line.cover) c.requires.wheel
    (subst (λ (l : List Place). IsTrue c.holds_least_ends.result ↔ HoldsLeastEnds (wheel_of c.args.set.now) (i ∷ before) c.args.report.now.verdict line.kind l) c.as_slice-cover.ensures (c.holds_least_ends.ensures past verdicts s i before tells)) in
    let nine = below_nine w situation eight (least.0 c.if-not-holds_least_ends.false) in
    let loss = subst (λ (l : List Place). IsTrue c.holds_loss.result ↔ HoldsLoss w i before c.args.report.now.verdict l) c.as_slice-cover.ensures (c.holds_loss.ensures before first) in
    breaks w situation rule.Loss c.holds_loss.result c.if-not-holds_loss.true loss nine

pub returns : goal.returns
returns c = λ past verdicts s n before reached t first seven.
    let w = c.args.wheel.now.parts in
    let i = c.args.instant.now in
    let line = c.args.line.now in
    let situation = situation_of n before reached i c.args.report.now line in
    let tells : Tells (wheel_of c.args.set.now) (i ∷ before) c.args.verdict s.kept.window = subst (λ (u : WheelParts). Tells u (i ∷ before) c.args.verdict s.kept.window) (sym c.requires.wheel) t in
    let starts = subst (λ (u : WheelParts). IsTrue c.holds_starts.result ↔ HoldsStarts u (i ∷ before) line.kind) c.requires.wheel (c.holds_starts.ensures past verdicts s i before tells) in
    let eight = below_eight w situation seven (starts.0 c.if-not-holds_starts.false) in
    let least = subst (λ (u : WheelParts). IsTrue c.holds_least_ends.result ↔ HoldsLeastEnds u (i ∷ before) c.args.report.now.verdict line.kind line.cover) c.requires.wheel
    (subst (λ (l : List Place). IsTrue c.holds_least_ends.result ↔ HoldsLeastEnds (wheel_of c.args.set.now) (i ∷ before) c.args.report.now.verdict line.kind l) c.as_slice-cover.ensures (c.holds_least_ends.ensures past verdicts s i before tells)) in
    let nine = below_nine w situation eight (least.0 c.if-not-holds_least_ends.false) in
    let loss = subst (λ (l : List Place). IsTrue c.holds_loss.result ↔ HoldsLoss w i before c.args.report.now.verdict l) c.as_slice-cover.ensures (c.holds_loss.ensures before first) in
    keeps_all w situation (below_ten w situation nine (loss.0 c.if-not-holds_loss.false))
