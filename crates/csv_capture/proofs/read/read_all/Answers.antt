use Rattle.std.proofs.Common.{◌∙◌, [], ◌∷◌, sym, ap}
use Rattle.capture_core.specs.Captures.{capture_of}
use Rattle.csv_capture.specs.Header.{columns_of}
use Rattle.csv_capture.specs.RecordsOf.{row_of}
use Rattle.csv_capture.proofs.Keeping.{if_ok, told_none, told_refused, told_rows}
use Rattle.csv_capture.proofs.Reading.{stands_front}
use Rattle.csv_capture.proofs.read.read_all.Goals as goal

pub returns-then-not-more : goal.returns-then-not-more
returns-then-not-more c = λ k.
    let all = rw c.if-not-more.true at (c.in_ok-more.ensures c.args.bytes.now [] c.requires) in
    c.refused.ensures c.args.watch [] k ∙ ap (capture_of c.args.watch) (sym (told_none c.args.names.now c.args.watch _ all))

pub returns-in-Ok : goal.returns-in-Ok
returns-in-Ok c = if_ok _ _ c.read_rows.result c.read_rows.ensures (λ x f. λ k.
    let on = rw c.if-not-more.false at (c.in_ok-more.ensures c.args.bytes.now [] c.requires) in
    let header = row_of c.advance.new.self in
    let (more, all) = stands_front c.args.bytes.now (header ∷ []) _ on in
    let good = ap (columns_of c.args.names.now c.args.watch) (sym c.row.ensures) ∙ sym c.find.ensures ∙ c.in-Ok.is in
    f header c.args.watch on k ∙ ap (capture_of c.args.watch) (sym (told_rows c.args.names.now c.args.watch header _ more c.in-Ok.columns all good)))

pub returns-in-Err : goal.returns-in-Err
returns-in-Err c = λ k.
    let on = rw c.if-not-more.false at (c.in_ok-more.ensures c.args.bytes.now [] c.requires) in
    let header = row_of c.advance.new.self in
    let (more, all) = stands_front c.args.bytes.now (header ∷ []) _ on in
    let bad = ap (columns_of c.args.names.now c.args.watch) (sym c.row.ensures) ∙ sym c.find.ensures ∙ c.in-Err.is in
    c.refused-in-Err.ensures c.args.watch [] k ∙ ap (capture_of c.args.watch) (sym (told_refused c.args.names.now c.args.watch header _ more c.in-Err.fault all bad))

pub read_rows-requires : goal.read_rows-requires
read_rows-requires c = (row_of c.advance.new.self, rw c.if-not-more.false at (c.in_ok-more.ensures c.args.bytes.now [] c.requires))
