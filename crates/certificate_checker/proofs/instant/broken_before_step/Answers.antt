use Rattle.std.proofs.Common.{◌↔◌, IsTrue, List, sym, subst}
use Rattle.wheel_types.specs.declared.place.Place.{Place}
use Rattle.wheel_types.specs.declared.parts.WheelParts.{WheelParts}
use Rattle.cam_ranges.specs.Places.{IsPlace, IsAscending}
use Rattle.plain_motion.specs.Sets.{wheel_of}
use Rattle.std.specs.Prelude.{All}
use Rattle.certificate_checker.specs.declared.rule.Rule.TheVariants as rule
use Rattle.certificate_checker.specs.Rules.{HasCover, HoldsSteps, HoldsPosition}
use Rattle.certificate_checker.specs.Checking.{AreFrom, ArePlacesOf}
use Rattle.certificate_checker.specs.Valid.{situation_of}
use Rattle.certificate_checker.proofs.RulesBelow.{below_two, below_three, below_four, below_five, below_six, below_seven, breaks}
use Rattle.certificate_checker.proofs.instant.broken_before_step.Goals as goal

pub has_cover-requires-clause-places : goal.has_cover-requires-clause-places
has_cover-requires-clause-places c = subst (λ (l : List Place). ArePlacesOf c.args.wheel.now.parts l) (sym c.as_slice.ensures) c.requires.basis.places

pub has_cover-requires-clause-ascend : goal.has_cover-requires-clause-ascend
has_cover-requires-clause-ascend c = subst IsAscending (sym c.as_slice.ensures) c.requires.basis.ascend

pub holds_steps-requires-clause-ascend : goal.holds_steps-requires-clause-ascend
holds_steps-requires-clause-ascend c = (c.has_cover.ensures.0 c.if-not-has_cover.false).ascend

pub holds_steps-requires-clause-places : goal.holds_steps-requires-clause-places
holds_steps-requires-clause-places c = subst (λ (w : WheelParts). All (IsPlace w) c.args.from.now) (sym c.requires.wheel) c.requires.places

pub returns-then-not-holds_steps-clause-rules : goal.returns-then-not-holds_steps-clause-rules
returns-then-not-holds_steps-clause-rules c = λ past verdicts s reached a.
    let w = c.args.wheel.now.parts in
    let t = situation_of c.args.index s.kept.window reached c.args.instant.now c.args.report.now c.args.line.now in
    let line = c.args.line.now in
    let cover = subst (λ (l : List Place). HasCover w l) c.as_slice-cover.ensures (c.has_cover.ensures.0 c.if-not-has_cover.false) in
    let steps = subst (λ (u : WheelParts). IsTrue c.holds_steps.result ↔ HoldsSteps u s.kept.window reached c.args.instant.now c.args.report.now.verdict line.cover) c.requires.wheel
    (subst (λ (l : List Place). IsTrue c.holds_steps.result ↔ HoldsSteps (wheel_of c.args.set.now) s.kept.window reached c.args.instant.now c.args.report.now.verdict l) c.as_slice-cover.ensures
    (c.holds_steps.ensures past verdicts s reached (subst (λ (u : WheelParts). AreFrom u s.kept.window reached c.args.from.now) (sym c.requires.wheel) a))) in
    let five = below_five w t (below_four w t (below_three w t (below_two w t) (c.has_report_line.ensures.0 c.if-not-has_report_line.false)) (c.has_cert_line.ensures.0 c.if-not-has_cert_line.false)) cover in
    breaks w t rule.Steps c.holds_steps.result c.if-not-holds_steps.true steps five

pub returns-then-not-holds_position-clause-rules : goal.returns-then-not-holds_position-clause-rules
returns-then-not-holds_position-clause-rules c = λ past verdicts s reached a.
    let w = c.args.wheel.now.parts in
    let t = situation_of c.args.index s.kept.window reached c.args.instant.now c.args.report.now c.args.line.now in
    let line = c.args.line.now in
    let cover = subst (λ (l : List Place). HasCover w l) c.as_slice-cover.ensures (c.has_cover.ensures.0 c.if-not-has_cover.false) in
    let steps = subst (λ (u : WheelParts). IsTrue c.holds_steps.result ↔ HoldsSteps u s.kept.window reached c.args.instant.now c.args.report.now.verdict line.cover) c.requires.wheel
    (subst (λ (l : List Place). IsTrue c.holds_steps.result ↔ HoldsSteps (wheel_of c.args.set.now) s.kept.window reached c.args.instant.now c.args.report.now.verdict l) c.as_slice-cover.ensures
    (c.holds_steps.ensures past verdicts s reached (subst (λ (u : WheelParts). AreFrom u s.kept.window reached c.args.from.now) (sym c.requires.wheel) a))) in
    let five = below_five w t (below_four w t (below_three w t (below_two w t) (c.has_report_line.ensures.0 c.if-not-has_report_line.false)) (c.has_cert_line.ensures.0 c.if-not-has_cert_line.false)) cover in
    let position = subst (λ (l : List Place). IsTrue c.holds_position.result ↔ HoldsPosition w c.args.report.now.verdict l) c.as_slice-cover.ensures c.holds_position.ensures in
    let six = below_six w t five (steps.0 c.if-not-holds_steps.false) in
    breaks w t rule.Position c.holds_position.result c.if-not-holds_position.true position six

pub returns-clause-ascend : goal.returns-clause-ascend
returns-clause-ascend c = λ e. subst IsAscending c.as_slice-cover.ensures (c.has_cover.ensures.0 c.if-not-has_cover.false).ascend

pub returns-clause-rules : goal.returns-clause-rules
returns-clause-rules c = λ past verdicts s reached a.
    let w = c.args.wheel.now.parts in
    let t = situation_of c.args.index s.kept.window reached c.args.instant.now c.args.report.now c.args.line.now in
    let line = c.args.line.now in
    let cover = subst (λ (l : List Place). HasCover w l) c.as_slice-cover.ensures (c.has_cover.ensures.0 c.if-not-has_cover.false) in
    let steps = subst (λ (u : WheelParts). IsTrue c.holds_steps.result ↔ HoldsSteps u s.kept.window reached c.args.instant.now c.args.report.now.verdict line.cover) c.requires.wheel
    (subst (λ (l : List Place). IsTrue c.holds_steps.result ↔ HoldsSteps (wheel_of c.args.set.now) s.kept.window reached c.args.instant.now c.args.report.now.verdict l) c.as_slice-cover.ensures
    (c.holds_steps.ensures past verdicts s reached (subst (λ (u : WheelParts). AreFrom u s.kept.window reached c.args.from.now) (sym c.requires.wheel) a))) in
    let five = below_five w t (below_four w t (below_three w t (below_two w t) (c.has_report_line.ensures.0 c.if-not-has_report_line.false)) (c.has_cert_line.ensures.0 c.if-not-has_cert_line.false)) cover in
    let position = subst (λ (l : List Place). IsTrue c.holds_position.result ↔ HoldsPosition w c.args.report.now.verdict l) c.as_slice-cover.ensures c.holds_position.ensures in
    let six = below_six w t five (steps.0 c.if-not-holds_steps.false) in
    below_seven w t six (position.0 c.if-not-holds_position.false)
