use Rattle.std.proofs.Common.{◌+◌}
use Rattle.certificate_checker.specs.declared.rule.Answer.TheVariants.{No}
use Rattle.certificate_checker.proofs.OneAnswer.{own_yes}
use Rattle.certificate_checker.proofs.Checked.{as_answer, as_counts, stands_fresh}
use Rattle.certificate_checker.proofs.whole.check.Goals as goal

pub returns-then-not-are_as_many-clause-answer : goal.returns-then-not-are_as_many-clause-answer
returns-then-not-are_as_many-clause-answer c = as_counts c.args.wheel.now.parts c.as_slice-instants.result.now c.args.capture.now.instants c.args.report.now c.args.cert.now c.are_as_many.result c.least_count-least.result c.number.result c.as_slice-instants.ensures c.if-not-are_as_many.true c.are_as_many.ensures c.least_count-least.ensures c.number.ensures

pub check_all-requires-clause-stands : goal.check_all-requires-clause-stands
check_all-requires-clause-stands c = stands_fresh c.args.wheel.now.parts c.in-Ok.set c.args.wheel.now.valid c.in-Ok.ensures.wheel c.in-Ok.ensures.stands

pub returns-clause-answer : goal.returns-clause-answer
returns-clause-answer c = as_answer c.args.wheel.now.parts c.as_slice-instants.result.now c.args.capture.now.instants c.args.report.now c.args.cert.now c.in_ok-answer.answer c.as_slice-instants.ensures (c.are_as_many.ensures.0 c.if-not-are_as_many.false) c.in_ok-answer.ensures

pub returns-then-not-are_as_many-clause-own : goal.returns-then-not-are_as_many-clause-own
returns-then-not-are_as_many-clause-own c = own_yes c.args.wheel.now.parts c.args.capture.now.instants c.args.report.now c.args.cert.now (No (c.least_count-least.result + 1) c.number.result) c.args.wheel.now.valid c.requires.rising (as_counts c.args.wheel.now.parts c.as_slice-instants.result.now c.args.capture.now.instants c.args.report.now c.args.cert.now c.are_as_many.result c.least_count-least.result c.number.result c.as_slice-instants.ensures c.if-not-are_as_many.true c.are_as_many.ensures c.least_count-least.ensures c.number.ensures)

pub returns-clause-own : goal.returns-clause-own
returns-clause-own c = own_yes c.args.wheel.now.parts c.args.capture.now.instants c.args.report.now c.args.cert.now c.in_ok-answer.answer c.args.wheel.now.valid c.requires.rising (as_answer c.args.wheel.now.parts c.as_slice-instants.result.now c.args.capture.now.instants c.args.report.now c.args.cert.now c.in_ok-answer.answer c.as_slice-instants.ensures (c.are_as_many.ensures.0 c.if-not-are_as_many.false) c.in_ok-answer.ensures)
