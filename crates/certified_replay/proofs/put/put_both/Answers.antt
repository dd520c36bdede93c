use Rattle.std.proofs.Common.{refl, ap, Err, ◌≡◌, ◌∙◌, List, Some, slice_get, sym, subst, arith, length}
use Rattle.std.proofs.lemmas.Result.{err_from_is_err_and}
use Rattle.std.proofs.KnownBytes.{Appends-nil}
use Rattle.shelf_traits.specs.declared.shelf.Way.{Way}
use Rattle.shelf_traits.specs.declared.shelf.Way.TheVariants as way
use Rattle.shelf_io.proofs.Front.{writes_on}
use Rattle.certified_replay.proofs.Putting.{HasPut, unwritten, none_put, later_than_last, next_put, stopped, stopped_past, all_put}
use Rattle.certified_replay.proofs.put.put_both.Goals as goal

pub loop-instant-init : goal.loop-instant-init
loop-instant-init g c = record {
  put = none_put c.args.session.now _ c.args.slot _ _ c.args.instants.now c.requires.walked c.requires.fresh c.requires.none (Appends-nil _);
  keeps = unwritten _ c.args.slot;
  steady = λ h. h;
  same = refl;
  files = refl;
}

pub put_instant-requires-clause-writer : goal.put_instant-requires-clause-writer
put_instant-requires-clause-writer g c = subst (λ (ways : List Way). slice_get ways c.args.slot ≡ Some way.Writes) (sym c.loop-instant.invariant.keeps.ways) c.requires.writer

pub put_instant-requires-clause-later : goal.put_instant-requires-clause-later
put_instant-requires-clause-later g c = later_than_last c.args.instants.now c.loop-instant.instant-index _ _ c.requires.rising c.loop-instant-test.true c.instant-item.is c.loop-instant.invariant.put.last

pub returns-in_err-put_instant-clause-err : goal.returns-in_err-put_instant-clause-err
returns-in_err-put_instant-clause-err g c =
    let p = err_from_is_err_and c.from_residual.result c.from_residual.ensures.1 in
    rw (p.1, p.2)
    (stopped _ c.args.session.now c.loop-instant.session c.put_instant.new.session _ _ _ c.args.slot _ _ _ _ _ _ c.args.instants.now c.loop-instant.instant-index _ c.requires.wheel c.requires.rising c.loop-instant-test.true c.instant-item.is c.loop-instant.invariant.keeps
    c.loop-instant.invariant.put (λ is. c.in_err-put_instant.ensures.untold (ap Err is)) c.in_err-put_instant.ensures.err)

pub returns-in_err-put_instant-clause-stopped : goal.returns-in_err-put_instant-clause-stopped
returns-in_err-put_instant-clause-stopped g c =
    let p = err_from_is_err_and c.from_residual.result c.from_residual.ensures.1 in
    rw (p.1, p.2) (stopped_past _ _ _ _ _ _ c.args.slot _ c.loop-instant.invariant.keeps c.loop-instant.invariant.same c.loop-instant.invariant.files c.loop-instant.invariant.steady c.in_err-put_instant.ensures.stopped)

pub loop-instant-preserved : goal.loop-instant-preserved
loop-instant-preserved g c = record {
  put = next_put c.args.session.now c.loop-instant.session c.put_instant.new.session _ _ _ c.args.slot _ _ _ _ _ _ c.args.instants.now c.loop-instant.instant-index _ c.requires.rising c.loop-instant-test.true c.instant-item.is c.loop-instant.invariant.keeps
      c.loop-instant.invariant.put c.put_instant.ensures.image c.in_ok-put_instant.ensures.last c.in_ok-put_instant.ensures.stepped c.in_ok-put_instant.ensures.ok;
  keeps = writes_on _ _ _ _ c.loop-instant.invariant.keeps c.put_instant.ensures.keeps;
  steady = λ h. c.in_ok-put_instant.ensures.steady (c.loop-instant.invariant.steady h);
  same = c.in_ok-put_instant.ensures.quiet.0 ∙ c.loop-instant.invariant.same;
  files = c.in_ok-put_instant.ensures.quiet.1 ∙ c.loop-instant.invariant.files;
}

pub returns-clause-ok : goal.returns-clause-ok
returns-clause-ok g c =
    all_put c.args.session.now c.loop-instant.session _ _ c.args.slot _ _ _ _ c.args.instants.now c.requires.wheel c.requires.rising
    (let e : c.loop-instant.instant-index ≡ length c.args.instants.now = omega arith in subst (HasPut c.args.session.now c.loop-instant.session _ _ c.args.slot _ _ _ _ c.args.instants.now) e c.loop-instant.invariant.put)

pub put_instant-requires-clause-few : goal.put_instant-requires-clause-few
put_instant-requires-clause-few g c = omega (arith, c.loop-instant.invariant.put.stepped, c.loop-instant-test.true)

pub put_instant-requires-clause-model : goal.put_instant-requires-clause-model
put_instant-requires-clause-model g c = c.requires.model ∙ sym c.loop-instant.invariant.put.image
