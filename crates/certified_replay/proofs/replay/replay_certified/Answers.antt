use Rattle.std.proofs.Common.{◌≡◌, ◌∙◌, ap, sym, subst}
use Rattle.image_format.specs.declared.view.View.{View}
use Rattle.run_ends.specs.declared.cause.Cause.TheVariants as cause
use Rattle.table_images.specs.Images.{IsSoundImage}
use Rattle.image_layout.specs.Fields.{wheel_parts_of}
use Rattle.run_ends.specs.Works.{StopsJudge}
use Rattle.run_ends.proofs.Serving.{stops, goes_on, judged_out, passed}
use Rattle.run_ends.proofs.Tapping.{served_as}
use Rattle.certified_replay.proofs.Shutting.{told_work, untold, not_opened}
use Rattle.table_models.specs.Models.{NotSoundGives}
use Rattle.certified_replay.proofs.Certifying.{over_before}
use Rattle.certified_replay.proofs.replay.replay_certified.Goals as goal

pub returns-in-Err : goal.returns-in-Err
returns-in-Err g c = untold _ _ _ _ _ _ _ _ _ c.without_tails.ensures.end c.without_tails.ensures.tails (stops _ _ _ _ _ _ _ _ _ _ c.in-Err.ensures)

pub returns-in-Err-sound_image : goal.returns-in-Err-sound_image
returns-in-Err-sound_image g c =
    let first = c.in-Ok.ensures in
    untold _ _ _ _ _ _ _ _ _ c.without_tails-in-Err-sound_image.ensures.end c.without_tails-in-Err-sound_image.ensures.tails
    (goes_on _ _ _ _ _ _ _ _ c.in-Ok.image.items _ _ _ _ _ first.0 first.1
    (judged_out _ _ _ _ _ _ c.in-Err-sound_image.cause (subst (λ b. StopsJudge (NotSoundGives b) c.in-Err-sound_image.cause) c.deref.ensures.value c.in-Err-sound_image.ensures.gives)))

pub returns-in-Err-watched_wheel : goal.returns-in-Err-watched_wheel
returns-in-Err-watched_wheel g c =
    let first = c.in-Ok.ensures in
    untold _ _ _ _ _ _ _ _ _ c.without_tails-in-Err-watched_wheel.ensures.end c.without_tails-in-Err-watched_wheel.ensures.tails
    (goes_on _ _ _ _ _ _ _ _ c.in-Ok.image.items _ _ _ _ _ first.0 first.1 (judged_out _ _ _ _ _ _ cause.Memory tt))

pub returns-in-Err-open_file : goal.returns-in-Err-open_file
returns-in-Err-open_file g c =
    let image = c.in-Ok.image.items in
    let first = c.in-Ok.ensures in
    untold _ _ _ _ _ _ _ _ _ c.without_tails-in-Err-open_file.ensures.end c.without_tails-in-Err-open_file.ensures.tails
    (goes_on _ _ _ _ _ _ _ _ image _ _ _ _ _ first.0 first.1
    (passed _ _ _ _ _ _ _ _ _ _ (subst IsSoundImage c.deref.ensures.value c.in-Ok-sound_image.ensures.sound)
    (served_as _ _ _ _ _ _ _ _ _ (λ work r. over_before _ _ _ _ (wheel_parts_of image) c.args.capture.now c.args.cert.now _ work first.0.touches r) (not_opened _ _ _ _ _ _ _ c.in-Err-open_file.ensures.not_opened))))

pub returns : goal.returns
returns g c =
    let image = c.in-Ok.image.items in
    let w = c.in-Ok-watched_wheel.watched.wheel.parts in
    let first = c.in-Ok.ensures in
    let bytes : c.in-Ok-sound_image.sound.view.bytes.now ≡ image = c.in-Ok-sound_image.ensures.bytes ∙ c.deref.ensures.value in
    let shown : c.view.result.now.bytes.now ≡ image = ap (λ (v : View). v.bytes.now) c.view.ensures.view ∙ bytes in
    let same : wheel_parts_of image ≡ w = sym (c.in-Ok-watched_wheel.ensures.wheel ∙ ap wheel_parts_of shown) in
    goes_on _ _ _ _ _ _ _ _ image _ _ _ _ _ first.0 first.1
    (passed _ _ _ _ _ _ _ _ _ _ (subst IsSoundImage c.deref.ensures.value c.in-Ok-sound_image.ensures.sound)
    (rw same
    (served_as _ _ _ _ _ _ _ _ _ (λ work r. over_before _ _ _ _ w c.args.capture.now c.args.cert.now _ work first.0.touches r)
    (told_work _ _ c.args.capture.now _ _ _ _ _ _ _ _ _ _ c.new-board.ensures (c.replay_past-end.ensures _ c.args.capture.now c.in-Ok-open_file.ensures.opened c.requires.apart) c.close.ensures))))
