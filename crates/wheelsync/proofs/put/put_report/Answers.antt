use Rattle.std.proofs.Common.{◌≡◌, ◌∙◌, ap, refl, Err, subst, arith, length}
use Rattle.std.proofs.lemmas.Result.{err_from_is_err_and}
use Rattle.std.proofs.KnownBytes.{Appends-nil}
use Rattle.wheelsync.proofs.Putting.{HasPut, none_put, later_than_last, next_put, stopped, all_put}
use Rattle.wheelsync.proofs.put.put_report.Goals as goal

pub loop-instant-init : goal.loop-instant-init
loop-instant-init g c = record {
  put = none_put c.args.session.now _ _ c.args.instants.now c.requires.fresh c.requires.none (Appends-nil _);
  steady = λ h. h;
  same = refl;
}

pub put_instant-requires-clause-later : goal.put_instant-requires-clause-later
put_instant-requires-clause-later g c = later_than_last c.args.instants.now c.loop-instant.instant-index _ _ c.requires.rising c.loop-instant-test.true c.instant-item.is c.loop-instant.invariant.put.last

pub returns-in_err-put_instant-clause-err : goal.returns-in_err-put_instant-clause-err
returns-in_err-put_instant-clause-err g c =
    let p = err_from_is_err_and c.from_residual.result c.from_residual.ensures.1 in
    rw (p.1, p.2)
    (λ w wheel s.
    stopped _ w c.args.session.now c.loop-instant.session _ _ _ _ _ _ c.args.instants.now c.loop-instant.instant-index _ wheel c.requires.rising c.loop-instant-test.true c.instant-item.is c.loop-instant.invariant.put s
    (λ is. c.in_err-put_instant.ensures.untold (ap Err is)) (c.in_err-put_instant.ensures.err w))

pub loop-instant-preserved : goal.loop-instant-preserved
loop-instant-preserved g c = record {
  put = next_put c.args.session.now c.loop-instant.session c.put_instant.new.session _ _ _ _ _ _ c.args.instants.now c.loop-instant.instant-index _ c.requires.rising c.loop-instant-test.true c.instant-item.is c.loop-instant.invariant.put c.in_ok-put_instant.ensures.last c.in_ok-put_instant.ensures.stepped c.in_ok-put_instant.ensures.ok;
  steady = λ h. c.in_ok-put_instant.ensures.steady (c.loop-instant.invariant.steady h);
  same = c.in_ok-put_instant.ensures.quiet (λ is. cc) ∙ c.loop-instant.invariant.same;
}

pub returns-clause-ok : goal.returns-clause-ok
returns-clause-ok g c = λ w s.
    all_put w c.args.session.now c.loop-instant.session _ _ _ _ c.args.instants.now (let e : c.loop-instant.instant-index ≡ length c.args.instants.now = omega arith in subst (HasPut c.args.session.now c.loop-instant.session _ _ _ _ c.args.instants.now) e c.loop-instant.invariant.put) s
