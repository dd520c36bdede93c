use Rattle.std.proofs.Common.{◌≡◌, ◌∙◌, [], ap, refl, subst, Err}
use Rattle.std.proofs.lemmas.Result.{err_from_is_err_and}
use Rattle.image_format.specs.declared.view.View.{View}
use Rattle.image_format.proofs.Wheels.{is_wheel}
use Rattle.wheel_types.specs.Wheels.{IsWheel}
use Rattle.run_ends.proofs.Serving.{rises}
use Rattle.replay_core.specs.Sessions.{image_of}
use Rattle.wheelsync.specs.Stepping.{StandsOver}
use Rattle.wheelsync.proofs.Endings.{report_front, report_whole, front_as, whole_as}
use Rattle.image_layout.specs.Fields.{wheel_parts_of}
use Rattle.certified_replay.proofs.Walked.{fresh_walked}
use Rattle.wheelsync.proofs.Replaying.{not_taken, taken}
use Rattle.wheelsync.proofs.replay.replay_past.Goals as goal

pub returns-in_err-capture : goal.returns-in_err-capture
returns-in_err-capture g c =
    let p = err_from_is_err_and c.from_residual.result c.from_residual.ensures.1 in
    rw (p.1, p.2) (λ v name h. not_taken v _ _ _ name _ _ _ c.args.source _ h c.take_capture.ensures.keeps c.take_capture.ensures.place c.in_err-capture.ensures.err c.in_err-capture.ensures.stops refl)

pub returns-in_err-put_report : goal.returns-in_err-put_report
returns-in_err-put_report g c =
    let p = err_from_is_err_and c.from_residual-in_err-put_report.result c.from_residual-in_err-put_report.ensures.1 in
    let b = c.args.sound.now.view.bytes.now in
    let image : image_of c.new-session.result ≡ b = c.new-session.ensures.image ∙ c.again.ensures ∙ ap (λ (v : View). v.bytes.now) c.view.ensures.view in
    let over : StandsOver c.args.watched.wheel.parts c.new-session.result [] [] =
    record { wheel = ap wheel_parts_of image ∙ c.requires.wheel; walked = fresh_walked c.new-session.result b image (c.args.sound.now.view.keeps, c.args.sound.now.sound) c.new-session.ensures.stands } in
    let wheel = subst IsWheel c.requires.wheel (is_wheel b c.args.sound.now.view.keeps) in
    rw (p.1, p.2)
    (λ v name h.
    taken v _ _ _ name _ c.in_ok-capture.capture _ _ _ c.args.source _ h c.take_capture.ensures.keeps c.take_capture.ensures.place c.in_ok-capture.ensures.taken c.in_ok-capture.ensures.ok
    (report_front _ _ _ _ _ _ c.in_ok-capture.capture _
    (front_as _ _ _ _ _ _ _ _ c.as_slice.ensures (c.in_err-put_report.ensures.err c.args.watched.wheel.parts wheel over))
    c.in_err-put_report.ensures.kinds (rises _ _ c.in_err-put_report.field-0.0 _ c.in_err-put_report.ensures.later c.in_err-put_report.ensures.write c.in_err-put_report.ensures.quiet) (λ is still. c.in_err-put_report.ensures.calm still (ap Err is)) c.in_err-put_report.ensures.steady))

pub returns : goal.returns
returns g c =
    let b = c.args.sound.now.view.bytes.now in
    let image : image_of c.new-session.result ≡ b = c.new-session.ensures.image ∙ c.again.ensures ∙ ap (λ (v : View). v.bytes.now) c.view.ensures.view in
    let over : StandsOver c.args.watched.wheel.parts c.new-session.result [] [] =
    record { wheel = ap wheel_parts_of image ∙ c.requires.wheel; walked = fresh_walked c.new-session.result b image (c.args.sound.now.view.keeps, c.args.sound.now.sound) c.new-session.ensures.stands } in
    rw (c.ended.ensures)
    (λ v name h.
    taken v _ _ _ name _ c.in_ok-capture.capture _ _ _ c.args.source _ h c.take_capture.ensures.keeps c.take_capture.ensures.place c.in_ok-capture.ensures.taken c.in_ok-capture.ensures.ok
    (report_whole _ _ _ _ _ _ c.in_ok-capture.capture
    (whole_as _ _ _ _ _ _ _ c.as_slice.ensures (c.in_ok-put_report.ensures.ok c.args.watched.wheel.parts over))
    (c.in_ok-put_report.ensures.quiet (λ is. cc)) c.in_ok-put_report.ensures.steady))
