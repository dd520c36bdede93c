use Rattle.std.proofs.Common.{◌+◌, ◌∙◌, arith}
use Rattle.certificate_checker.specs.Valid.{situation_of}
use Rattle.certificate_checker.proofs.Checked.{later_by, checked_more, checked_no, checked_all, answered_some, answered_none}
use Rattle.certificate_checker.proofs.whole.check_all.Goals as goal

pub check_instant-requires-clause-later : goal.check_instant-requires-clause-later
check_instant-requires-clause-later c = later_by _ c.args.instants.now c.loop-k.k c.index-instants-k.result c.requires.rising c.loop-k-test.true c.index-instants-k.is c.loop-k.invariant.last

pub returns-in-Some : goal.returns-in-Some
returns-in-Some c =
    let h = c.loop-k.invariant in
    let w = c.args.wheel.now.parts in
    let b = answered_some w (situation_of (c.loop-k.k + 1) h.before h.reached c.index-instants-k.result c.index-reports-k.result c.index-lines-k.result) _ c.in_ok-rule.field-0 c.in-Some.rule c.in-Some.is (c.in_ok-rule.ensures.answer h.before h.reached h.stands) in
    let a = checked_no w c.loop-k.set _ c.loop-k.k c.args.instants.now c.args.reports.now c.args.lines.now c.index-instants-k.result c.index-reports-k.result c.index-lines-k.result c.in-Some.rule c.loop-k-test.true
    (omega (arith, c.requires.many.0)) (omega (arith, c.requires.many.1)) c.index-instants-k.is c.index-reports-k.is c.index-lines-k.is h b in
    (a.0, (c.number.ensures ∙ a.1.0, a.1.1))

pub loop-k-preserved : goal.loop-k-preserved
loop-k-preserved c =
    let h = c.loop-k.invariant in
    let w = c.args.wheel.now.parts in
    let i = c.index-instants-k.result in
    let from = c.kept_cover-kept.ensures i h.before (c.is_first.ensures h.before h.reached h.stands.from) in
    let t = answered_none w (situation_of (c.loop-k.k + 1) h.before h.reached i c.index-reports-k.result c.index-lines-k.result) _ c.in_ok-rule.field-0 c.in-None.is (c.in_ok-rule.ensures.answer h.before h.reached h.stands) _ from in
    checked_more w c.loop-k.set c.check_instant.new.set _ _ c.loop-k.k c.args.instants.now c.args.reports.now c.args.lines.now i c.index-reports-k.result c.index-lines-k.result c.loop-k-test.true
    (omega (arith, c.requires.many.0)) (omega (arith, c.requires.many.1)) c.index-instants-k.is c.index-reports-k.is c.index-lines-k.is h t (c.in_ok-rule.ensures.last c.in-None.is)

pub returns : goal.returns
returns c = checked_all c.args.wheel.now.parts c.loop-k.set _ c.loop-k.k c.args.instants.now c.args.reports.now c.args.lines.now c.loop-k-test.false c.requires.many.0 c.requires.many.1 c.loop-k.invariant
