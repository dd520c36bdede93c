use Rattle.std.proofs.Common.{◌∙◌, ◌∷◌, inr, subst}
use Rattle.std.specs.Io.KnownBytes.{Appends}
use Rattle.std.proofs.lemmas.Result.{err_from_is_err_and}
use Rattle.certified_replay.proofs.Walked.{before_next}
use Rattle.wheelsync.proofs.Putting.{verdicts_over, stands_next, line_of, part_of, all_of}
use Rattle.wheelsync.proofs.put.put_instant.Goals as goal

pub step-report-requires-clause-later : goal.step-report-requires-clause-later
step-report-requires-clause-later g c = before_next _ c.args.instant.now.time c.requires.later

pub returns-in-Ok-tell-clause-ok : goal.returns-in-Ok-tell-clause-ok
returns-in-Ok-tell-clause-ok g c = λ w past verdicts s rising.
    let is = c.step-report.ensures.line past s.walked.stands in
    record {
      verdict = c.step-report.result.verdict;
      stands = stands_next w c.args.session.now c.step-report.new.self past verdicts c.args.instant.now c.step-report.result s rising is (c.step-report.ensures.stands past s.walked.stands) c.step-report.ensures.image;
      out = subst (Appends (g.O.Sink.taken c.args.out.now) (g.O.Sink.taken c.put_line.new.out))
          (line_of w c.args.session.now past verdicts c.args.instant.now c.step-report.result c.deref.result.now s is (c.deref.ensures.value ∙ c.in-Ok.ensures)) c.in_ok-put_line.ensures.ok;
      heard = c.in-Ok-tell.ensures.told;
    }

pub returns-clause-err : goal.returns-clause-err
returns-clause-err g c = λ w past verdicts s rising.
    let is = c.step-report.ensures.line past s.walked.stands in
    let next = stands_next w c.args.session.now c.step-report.new.self past verdicts c.args.instant.now c.step-report.result s rising is (c.step-report.ensures.stands past s.walked.stands) c.step-report.ensures.image in
    inr (all_of _ _ w _ c.args.instant.now past verdicts c.step-report.result.verdict _ _
    (line_of w c.args.session.now past verdicts c.args.instant.now c.step-report.result c.deref.result.now s is (c.deref.ensures.value ∙ c.in-Ok.ensures))
    (verdicts_over w c.step-report.new.self (c.args.instant.now ∷ past) _ next) c.in_ok-put_line.ensures.ok)

pub returns-in_err-put_line-clause-err : goal.returns-in_err-put_line-clause-err
returns-in_err-put_line-clause-err g c =
    let p = err_from_is_err_and c.from_residual.result c.from_residual.ensures.1 in
    rw (p.1)
    (λ w past verdicts s rising.
    let is = c.step-report.ensures.line past s.walked.stands in
    let next = stands_next w c.args.session.now c.step-report.new.self past verdicts c.args.instant.now c.step-report.result s rising is (c.step-report.ensures.stands past s.walked.stands) c.step-report.ensures.image in
    inr (part_of _ _ _ w _ c.args.instant.now past verdicts c.step-report.result.verdict _ _
    (line_of w c.args.session.now past verdicts c.args.instant.now c.step-report.result c.deref.result.now s is (c.deref.ensures.value ∙ c.in-Ok.ensures))
    (verdicts_over w c.step-report.new.self (c.args.instant.now ∷ past) _ next) c.in_err-put_line.ensures.err))
