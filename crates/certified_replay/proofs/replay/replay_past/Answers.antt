use Rattle.std.proofs.Common.{◌≡◌, ◌∙◌, ◌∷◌, [], List, Some, slice_get, refl, subst, sym, ap}
use Rattle.std.proofs.lemmas.Result.{err_from_is_err_and}
use Rattle.shelf_traits.specs.declared.shelf.Way.{Way}
use Rattle.shelf_traits.specs.declared.shelf.Way.TheVariants as way
use Rattle.wheel_types.specs.Wheels.{IsWheel}
use Rattle.image_layout.specs.Fields.{wheel_parts_of}
use Rattle.image_format.specs.declared.view.View.{View}
use Rattle.image_format.proofs.Wheels.{is_wheel}
use Rattle.replay_core.specs.Sessions.{image_of}
use Rattle.certified_replay.specs.Walked.{wheel_of}
use Rattle.certified_replay.proofs.Walked.{fresh_walked}
use Rattle.certified_replay.proofs.Certifying.{not_created, not_taken, cut_short, whole, front_as, both_as, begun, slot_stays}
use Rattle.certified_replay.proofs.replay.replay_past.Goals as goal

pub take_capture-requires-clause-reader : goal.take_capture-requires-clause-reader
take_capture-requires-clause-reader g c =
    subst (λ (ways : List Way). slice_get ways c.args.source ≡ Some way.Reads) (sym c.in_ok-slot.ensures.created.touches.ways) (slot_stays (g.S.Shelf.view c.args.shelf.now).ways (way.Writes ∷ []) c.args.source way.Reads c.requires.reader)

pub put_both-requires-clause-writer : goal.put_both-requires-clause-writer
put_both-requires-clause-writer g c =
    subst (λ (ways : List Way). slice_get ways c.in_ok-slot.slot ≡ Some way.Writes) (sym c.take_capture.ensures.keeps.ways) c.in_ok-slot.ensures.created.writer

pub put_both-requires-clause-wheel : goal.put_both-requires-clause-wheel
put_both-requires-clause-wheel g c =
    let image : image_of c.new-session.result ≡ c.args.sound.now.view.bytes.now = c.new-session.ensures.image ∙ c.again.ensures ∙ ap (λ (v : View). v.bytes.now) c.view.ensures.view in
    subst (λ b. IsWheel (wheel_parts_of b)) (sym image) (is_wheel c.args.sound.now.view.bytes.now c.args.sound.now.view.keeps)

pub put_both-requires-clause-walked : goal.put_both-requires-clause-walked
put_both-requires-clause-walked g c =
    let image : image_of c.new-session.result ≡ c.args.sound.now.view.bytes.now = c.new-session.ensures.image ∙ c.again.ensures ∙ ap (λ (v : View). v.bytes.now) c.view.ensures.view in
    fresh_walked c.new-session.result c.args.sound.now.view.bytes.now image (c.args.sound.now.view.keeps, c.args.sound.now.sound) c.new-session.ensures.stands

pub put_both-requires-clause-model : goal.put_both-requires-clause-model
put_both-requires-clause-model g c = sym (c.new-session.ensures.image ∙ c.again.ensures ∙ ap (λ (v : View). v.bytes.now) c.view.ensures.view)

pub returns-in_err-slot : goal.returns-in_err-slot
returns-in_err-slot g c =
    let p = err_from_is_err_and c.from_residual.result c.from_residual.ensures.1 in
    rw (p.1, p.2) (λ v name h apart. not_created v _ _ _ name _ _ _ _ _ _ h c.in_err-slot.ensures.not_created refl)

pub returns-in_err-capture : goal.returns-in_err-capture
returns-in_err-capture g c =
    let p = err_from_is_err_and c.from_residual-in_err-capture.result c.from_residual-in_err-capture.ensures.1 in
    rw (p.1, p.2)
    (λ v name h apart.
    not_taken v _ _ _ name _ _ _ _ c.args.source c.in_ok-slot.slot _ (record {
      begun = begun v _ _ name c.args.cert.now _ _ h c.in_ok-slot.ensures.created;
      keeps = c.take_capture.ensures.keeps;
      same = c.take_capture.ensures.place;
    }) apart c.in_err-capture.ensures.err c.in_err-capture.ensures.stops refl)

pub returns-in_err-put_both : goal.returns-in_err-put_both
returns-in_err-put_both g c =
    let p = err_from_is_err_and c.from_residual-in_err-put_both.result c.from_residual-in_err-put_both.ensures.1 in
    let image : image_of c.new-session.result ≡ c.args.sound.now.view.bytes.now = c.new-session.ensures.image ∙ c.again.ensures ∙ ap (λ (v : View). v.bytes.now) c.view.ensures.view in
    let wheel : wheel_of c.new-session.result ≡ c.args.watched.wheel.parts = ap wheel_parts_of image ∙ c.requires.wheel in
    rw (p.1, p.2)
    (λ v name h apart.
    cut_short v _ _ _ _ name _ _ c.in_ok-capture.capture _ _ _ _ c.args.source c.in_ok-slot.slot _ (record {
      begun = begun v _ _ name c.args.cert.now _ _ h c.in_ok-slot.ensures.created;
      keeps = c.take_capture.ensures.keeps;
      same = c.take_capture.ensures.place;
    }) apart c.in_ok-capture.ensures.taken c.in_ok-capture.ensures.ok c.put_both.ensures.keeps
    (front_as _ _ _ _ _ _ _ _ _ _ _ _ wheel c.as_slice.ensures c.in_err-put_both.ensures.err)
    c.in_err-put_both.ensures.stopped c.put_both.ensures.later c.put_both.ensures.steady)

pub returns : goal.returns
returns g c =
    let image : image_of c.new-session.result ≡ c.args.sound.now.view.bytes.now = c.new-session.ensures.image ∙ c.again.ensures ∙ ap (λ (v : View). v.bytes.now) c.view.ensures.view in
    let wheel : wheel_of c.new-session.result ≡ c.args.watched.wheel.parts = ap wheel_parts_of image ∙ c.requires.wheel in
    rw (c.ended.ensures)
    (λ v name h apart.
    whole v _ _ _ _ name _ _ c.in_ok-capture.capture _ _ _ _ c.args.source c.in_ok-slot.slot (record {
      begun = begun v _ _ name c.args.cert.now _ _ h c.in_ok-slot.ensures.created;
      keeps = c.take_capture.ensures.keeps;
      same = c.take_capture.ensures.place;
    }) apart c.in_ok-capture.ensures.taken c.in_ok-capture.ensures.ok c.put_both.ensures.keeps
    (both_as _ _ _ _ _ _ _ _ _ _ _ wheel c.as_slice.ensures c.in_ok-put_both.ensures.ok)
    c.in_ok-put_both.ensures.quiet c.put_both.ensures.steady)
