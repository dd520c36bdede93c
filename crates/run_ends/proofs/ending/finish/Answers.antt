use Rattle.std.proofs.Common.{subst, ◌∙◌}
use Rattle.std.specs.Io.KnownBytes.{Appends}
use Rattle.std.specs.Prelude.{IsTrue}
use Rattle.run_ends.specs.Notes.{note_of}
use Rattle.run_ends.specs.Finishing.{HasNoted, FailedNote, notes_text}
use Rattle.run_ends.proofs.Noting.{noted_after}
use Rattle.run_ends.proofs.ending.finish.Goals as goal

pub returns-in-Ok-clause-finished : goal.returns-in-Ok-clause-finished
returns-in-Ok-clause-finished g c =
    let line = c.as_bytes.ensures.value ∙ c.as_str.ensures.value ∙ c.note-line.ensures in
    subst (λ due. HasNoted (FailedNote (g.N.Sink.faults c.args.notes.now) (g.N.Sink.faults c.note_down-in-Ok.new.notes) (IsTrue (g.N.Sink.steady c.args.notes.now))) (g.N.Sink.taken c.args.notes.now) (g.N.Sink.taken c.note_down-in-Ok.new.notes) (notes_text c.args.end c.args.tails.now) due c.note_down-in-Ok.result) c.status-due.ensures
    (rw (c.in-Err.is) (noted_after _ _ _ _ _ (g.N.Sink.taken c.args.notes.now) (g.N.Sink.taken c.write_all.new.sink) (g.N.Sink.taken c.note_down-in-Ok.new.notes) (note_of c.in-Err.cause) c.args.tails.now _ _
    c.in-Ok.ensures.later c.in-Ok.ensures.steady (subst (Appends _ _) line c.in-Ok.ensures.ok) c.note_down-in-Ok.ensures.noted))

pub returns-in-Ok-clause-quiet : goal.returns-in-Ok-clause-quiet
returns-in-Ok-clause-quiet g c = λ n. c.note_down-in-Ok.ensures.quiet n ∙ c.in-Ok.ensures.quiet
