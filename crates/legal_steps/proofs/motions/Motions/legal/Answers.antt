use Rattle.std.proofs.Common.{◌+◌, pos, sym, ◌∙◌, subst}
use Rattle.std.proofs.lemmas.Bool.{false≢true}
use Rattle.wheel_types.specs.Steps.{KeepsGaps}
use Rattle.legal_steps.specs.Times.{times_of}
use Rattle.legal_steps.proofs.KeptGaps.{small_same}
use Rattle.legal_steps.proofs.TimedSteps.{no_step, step_by, gaps_seen, no_gaps}
use Rattle.legal_steps.proofs.motions.Motions.legal.Goals as goal
use Rattle.legal_steps.proofs.motions.Motions.legal.Goals.{in_default-via-in-Some+else-not-keeps_gaps, in_default-via-in_default}

pub returns-in-Some-clause-step : goal.returns-in-Some-clause-step
returns-in-Some-clause-step c =
    let w = c.args.self.now.wheel.parts in
    let i = c.args.instant.now in
    let m = pos (c.args.from.j + 1) in
    let time = sym (small_same i.time c.requires.time) in
    no_step w (times_of c.args.times) c.args.from i c.in-Some.field-0 c.in-Some.is (λ g. false≢true (sym c.if-not-keeps_gaps.true ∙ c.keeps_gaps.ensures.1 (subst (λ t. KeepsGaps w m t (times_of c.args.times)) time g)))

pub returns-in_default-clause-step : goal.returns-in_default-clause-step
returns-in_default-clause-step c =
    let w = c.args.self.now.wheel.parts in
    let i = c.args.instant.now in
    let ts = times_of c.args.times in
    let m = pos (c.args.from.j + 1) in
    elim c.in_default.branch [
      | in_default-via-in-Some+else-not-keeps_gaps v ↦
          let gaps = subst (λ t. KeepsGaps w m t ts) (small_same i.time c.requires.time) (v.keeps_gaps.ensures.0 v.if-not-keeps_gaps.false) in
          step_by w ts c.args.from i c.pass_instant.result (gaps_seen w i.crank v.in-Some.field-0 m i.time ts v.in-Some.is gaps) c.pass_instant.ensures.pass
      | in_default-via-in_default v ↦ step_by w ts c.args.from i c.pass_instant.result (no_gaps w i.crank m i.time ts v.in_default.is) c.pass_instant.ensures.pass
    ]
