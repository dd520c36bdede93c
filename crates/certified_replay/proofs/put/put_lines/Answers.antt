use Rattle.std.proofs.lemmas.Result.{err_from_is_err_and}
use Rattle.tap_board.specs.Marks.{mark_of}
use Rattle.certified_replay.proofs.Putting.{cut_line, besides_cut}
use Rattle.certified_replay.proofs.put.put_lines.Goals as goal

pub returns-in_err-put_line-clause-err : goal.returns-in_err-put_line-clause-err
returns-in_err-put_line-clause-err g c =
    let p = err_from_is_err_and c.from_residual.result c.from_residual.ensures.1 in
    rw (p.1) (cut_line _ (g.S.Shelf.view c.args.shelf.now) c.args.slot _ _ c.args.lines.now.report.items c.args.lines.now.certificate.items (mark_of c.args.lines.now.said.verdict) _ c.deref.ensures.value c.in_err-put_line.ensures.err)

pub returns-clause-err : goal.returns-clause-err
returns-clause-err g c =
    besides_cut (g.S.Shelf.view c.args.shelf.now) (g.S.Shelf.view c.put_beside.new.shelf) c.args.slot _ _ c.args.lines.now.report.items c.args.lines.now.certificate.items (mark_of c.args.lines.now.said.verdict) _ _ c.put_beside.result
    c.deref.ensures.value c.deref-2.ensures.value c.in_ok-put_line.ensures.ok c.put_beside.ensures.part
