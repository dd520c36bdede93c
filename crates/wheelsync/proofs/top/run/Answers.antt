use Rattle.run_ends.specs.Serving.{stream}
use Rattle.wheelsync.proofs.Completing.{ran_by, usage_alone, completes, end_went_out}
use Rattle.wheelsync.proofs.top.run.Goals as goal

pub returns-clause-ran : goal.returns-clause-ran
returns-clause-ran g c =
    ran_by _ _ _ _
    (stream (g.O.Sink.faults c.args.out.now) (g.O.Sink.taken c.args.out.now) (g.O.Sink.steady c.args.out.now)) (stream (g.O.Sink.faults c.serve-end.new.out) (g.O.Sink.taken c.serve-end.new.out) (g.O.Sink.steady c.serve-end.new.out))
    (stream (g.N.Sink.faults c.args.notes.now) (g.N.Sink.taken c.args.notes.now) (g.N.Sink.steady c.args.notes.now)) (stream (g.N.Sink.faults c.finish.new.notes) (g.N.Sink.taken c.finish.new.notes) (g.N.Sink.steady c.finish.new.notes))
    c.serve-end.result.end c.serve-end.result.tails.items c.deref.result.now c.finish.result c.deref.ensures.value c.serve-end.ensures.served c.finish.ensures.finished c.finish.ensures.quiet c.finish.ensures.calm c.finish.ensures.later

pub returns-clause-usage : goal.returns-clause-usage
returns-clause-usage g c =
    usage_alone _ _ _ _
    (stream (g.O.Sink.faults c.args.out.now) (g.O.Sink.taken c.args.out.now) (g.O.Sink.steady c.args.out.now)) (stream (g.O.Sink.faults c.serve-end.new.out) (g.O.Sink.taken c.serve-end.new.out) (g.O.Sink.steady c.serve-end.new.out))
    (stream (g.N.Sink.faults c.args.notes.now) (g.N.Sink.taken c.args.notes.now) (g.N.Sink.steady c.args.notes.now)) (stream (g.N.Sink.faults c.finish.new.notes) (g.N.Sink.taken c.finish.new.notes) (g.N.Sink.steady c.finish.new.notes))
    c.finish.result
    (ran_by _ _ _ _
    (stream (g.O.Sink.faults c.args.out.now) (g.O.Sink.taken c.args.out.now) (g.O.Sink.steady c.args.out.now)) (stream (g.O.Sink.faults c.serve-end.new.out) (g.O.Sink.taken c.serve-end.new.out) (g.O.Sink.steady c.serve-end.new.out))
    (stream (g.N.Sink.faults c.args.notes.now) (g.N.Sink.taken c.args.notes.now) (g.N.Sink.steady c.args.notes.now)) (stream (g.N.Sink.faults c.finish.new.notes) (g.N.Sink.taken c.finish.new.notes) (g.N.Sink.steady c.finish.new.notes))
    c.serve-end.result.end c.serve-end.result.tails.items c.deref.result.now c.finish.result c.deref.ensures.value c.serve-end.ensures.served c.finish.ensures.finished c.finish.ensures.quiet c.finish.ensures.calm c.finish.ensures.later)

pub returns-clause-settled : goal.returns-clause-settled
returns-clause-settled g c = λ out. ((c.serve-end.ensures.served.write_settled (end_went_out _ _ _ _ c.serve-end.result.end _ c.finish.ensures.finished out)).0, c.finish.ensures.quiet out.0)

pub returns-clause-handed : goal.returns-clause-handed
returns-clause-handed g c = λ out none. c.serve-end.ensures.handed (end_went_out _ _ _ _ c.serve-end.result.end _ c.finish.ensures.finished out) none

pub returns-clause-complete : goal.returns-clause-complete
returns-clause-complete g c =
    completes _ _ _ _
    (stream (g.O.Sink.faults c.args.out.now) (g.O.Sink.taken c.args.out.now) (g.O.Sink.steady c.args.out.now)) (stream (g.O.Sink.faults c.serve-end.new.out) (g.O.Sink.taken c.serve-end.new.out) (g.O.Sink.steady c.serve-end.new.out))
    (stream (g.N.Sink.faults c.args.notes.now) (g.N.Sink.taken c.args.notes.now) (g.N.Sink.steady c.args.notes.now)) (stream (g.N.Sink.faults c.finish.new.notes) (g.N.Sink.taken c.finish.new.notes) (g.N.Sink.steady c.finish.new.notes))
    c.finish.result
    (ran_by _ _ _ _
    (stream (g.O.Sink.faults c.args.out.now) (g.O.Sink.taken c.args.out.now) (g.O.Sink.steady c.args.out.now)) (stream (g.O.Sink.faults c.serve-end.new.out) (g.O.Sink.taken c.serve-end.new.out) (g.O.Sink.steady c.serve-end.new.out))
    (stream (g.N.Sink.faults c.args.notes.now) (g.N.Sink.taken c.args.notes.now) (g.N.Sink.steady c.args.notes.now)) (stream (g.N.Sink.faults c.finish.new.notes) (g.N.Sink.taken c.finish.new.notes) (g.N.Sink.steady c.finish.new.notes))
    c.serve-end.result.end c.serve-end.result.tails.items c.deref.result.now c.finish.result c.deref.ensures.value c.serve-end.ensures.served c.finish.ensures.finished c.finish.ensures.quiet c.finish.ensures.calm c.finish.ensures.later)
