use Rattle.gap_thresholds.proofs.GapSizes.{gap_sizes}
use Rattle.gap_thresholds.proofs.TimesKept.{time_kept}
use Rattle.gap_thresholds.proofs.cuts.Cuts.time_keeps.Goals as goal

pub least_time-requires-clause-some_slots : goal.least_time-requires-clause-some_slots
least_time-requires-clause-some_slots c = (gap_sizes c.args.self.now.wheel.parts c.args.slots c.args.self.now.wheel.valid.crank_edge c.requires.gap).0

pub least_time-requires-clause-slots_of_wheel : goal.least_time-requires-clause-slots_of_wheel
least_time-requires-clause-slots_of_wheel c = (gap_sizes c.args.self.now.wheel.parts c.args.slots c.args.self.now.wheel.valid.crank_edge c.requires.gap).1

pub greatest_time-requires-clause-some_slots : goal.greatest_time-requires-clause-some_slots
greatest_time-requires-clause-some_slots c = (gap_sizes c.args.self.now.wheel.parts c.args.slots c.args.self.now.wheel.valid.crank_edge c.requires.gap).0

pub greatest_time-requires-clause-slots_of_wheel : goal.greatest_time-requires-clause-slots_of_wheel
greatest_time-requires-clause-slots_of_wheel c = (gap_sizes c.args.self.now.wheel.parts c.args.slots c.args.self.now.wheel.valid.crank_edge c.requires.gap).1

pub returns : goal.returns
returns c are t one e =
    let kept = time_kept c.args.self.now c.args.slots c.args.class t c.time_class-first.result c.time_class-last.result c.least_time.result c.greatest_time.result c.args.self.now.wheel.valid c.args.self.now.times.lowest are c.requires.gap
    c.least_time.ensures c.time_class-first.ensures c.greatest_time.ensures c.time_class-last.ensures e in
    (λ r. kept.0 (c.is_from.ensures.0 r), λ k. c.is_from.ensures.1 (kept.1 k))
