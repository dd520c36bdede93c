use Rattle.sound_walk.proofs.Walks.{compiled_are_sound, compiled_report_is_right}
use Rattle.sound_walk.proofs.laws.compiled_images_are_sound.Goals as goal

pub returns-clause-sound : goal.returns-clause-sound
returns-clause-sound c = compiled_are_sound

pub returns-clause-report : goal.returns-clause-report
returns-clause-report c = compiled_report_is_right
