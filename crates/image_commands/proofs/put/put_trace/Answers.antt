use Rattle.std.proofs.Common.{◌∙◌, ap, refl, arith}
use Rattle.std.proofs.lemmas.Result.{err_from_is_err_and}
use Rattle.image_format.specs.Walk.{Stand}
use Rattle.image_commands.proofs.Tracing.{none_traced, next_traced, cut_traced, all_traced}
use Rattle.image_commands.proofs.put.put_trace.Goals as goal

pub loop-number-init : goal.loop-number-init
loop-number-init g c = record {
  traced = none_traced _ _ _ _ c.new-machine.ensures.view c.new-machine.ensures.stands (ap (λ (s : Stand). s.time) c.new-machine.ensures.stand);
  steady = λ h. h;
  same = refl;
}

pub put_instant-requires : goal.put_instant-requires
put_instant-requires g c = record { later = c.loop-number.invariant.traced.later _ c.loop-number-test.true c.index-instants-number.is }

pub returns-in_err-put_instant-clause-err : goal.returns-in_err-put_instant-clause-err
returns-in_err-put_instant-clause-err g c =
    let p = err_from_is_err_and c.from_residual.result c.from_residual.ensures.1 in
    rw (p.1)
    (cut_traced _ _ _ _ _ c.args.instants.now c.loop-number.number _ c.loop-number-test.true c.index-instants-number.is c.loop-number.invariant.traced c.in_err-put_instant.ensures.err)

pub loop-number-preserved : goal.loop-number-preserved
loop-number-preserved g c = record {
  traced = next_traced _ _ _ _ _ _ c.args.instants.now c.loop-number.number _ c.requires.rising c.loop-number-test.true c.index-instants-number.is c.loop-number.invariant.traced
      c.in_ok-put_instant.ensures.stands c.in_ok-put_instant.ensures.view c.in_ok-put_instant.ensures.ok;
  steady = λ h. c.in_ok-put_instant.ensures.steady (c.loop-number.invariant.steady h);
  same = c.in_ok-put_instant.ensures.quiet (λ is. cc) ∙ c.loop-number.invariant.same;
}

pub returns-clause-ok : goal.returns-clause-ok
returns-clause-ok g c = all_traced _ _ _ _ c.args.instants.now c.loop-number.number (omega arith) c.loop-number.invariant.traced
