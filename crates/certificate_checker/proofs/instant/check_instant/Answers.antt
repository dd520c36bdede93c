use Rattle.std.proofs.Common.{◌≡◌, ◌∷◌, List, sym, ◌∙◌, subst}
use Rattle.wheel_types.specs.declared.instant.Instant.{Instant}
use Rattle.plain_motion.specs.Sets.{wheel_of}
use Rattle.certificate_checker.specs.Valid.{situation_of}
use Rattle.certificate_checker.specs.Answers.{BreaksFirst}
use Rattle.certificate_checker.specs.Checking.{KeepsBelow, AreFrom}
use Rattle.certificate_checker.proofs.Taken.{step_tells, answer_taken}
use Rattle.certificate_checker.proofs.instant.check_instant.Goals as goal

pub returns-in-Some-clause-answer : goal.returns-in-Some-clause-answer
returns-in-Some-clause-answer c = λ before reached s.
    let w = c.args.wheel.now.parts in
    let from = subst (λ (l : List Instant). AreFrom w l reached c.places_from-from.result.now) (sym s.window) (c.places_from-from.ensures.from before reached s.from) in
    subst (λ (l : List Instant). BreaksFirst w (situation_of c.args.index l reached c.args.instant.now c.args.report.now c.args.line.now) c.in-Some.rule) s.window (c.in-Some.ensures.rules s.past s.verdicts s.stands reached from)

pub returns-clause-answer : goal.returns-clause-answer
returns-clause-answer c = λ before reached s.
    let w = c.args.wheel.now.parts in
    let i = c.args.instant.now in
    let v = c.in_ok-verdict.verdict in
    let from = subst (λ (l : List Instant). AreFrom w l reached c.places_from-from.result.now) (sym s.window) (c.places_from-from.ensures.from before reached s.from) in
    let seven = subst (λ (l : List Instant). KeepsBelow w (situation_of c.args.index l reached i c.args.report.now c.args.line.now) 7) s.window (c.in_default.ensures.rules s.past s.verdicts s.stands reached from) in
    let wheel : wheel_of c.step.new.self ≡ w = c.step.ensures.wheel ∙ s.wheel in
    let stands = c.in_ok-verdict.ensures.stands s.past s.verdicts s.stands in
    let tells = step_tells w c.args.set.now c.step.new.self _ before reached i v c.args.wheel.now.valid s c.requires.later wheel stands in
    answer_taken w c.args.set.now c.step.new.self _ c.args.index before reached i c.args.report.now c.args.line.now v c.broken_after_step.result c.args.wheel.now.valid s c.requires.later wheel stands
    (c.broken_after_step.ensures (i ∷ s.past) (v ∷ s.verdicts) stands c.args.index before reached tells (c.is_first.ensures before reached s.from) seven)
