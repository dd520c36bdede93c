use Rattle.stimulus.proofs.SmallIsFact.{stimulus_within, stimulus_small}
use Rattle.stimulus.proofs.made.make.Goals as goal

pub invariant_of-result-clause-within : goal.invariant_of-result-clause-within
invariant_of-result-clause-within c =
    stimulus_within c.args.wheel.now.parts c.args.seed c.args.gaps c.in-Ok.instants.items c.args.wheel.now.valid c.requires.few_gaps
    c.in-Ok.ensures.timed c.in-Ok.ensures.stimulus

pub invariant_of-result-clause-small : goal.invariant_of-result-clause-small
invariant_of-result-clause-small c =
    stimulus_small c.args.wheel.now.parts c.args.seed c.args.gaps c.watch.result c.in-Ok.instants.items c.args.wheel.now.valid c.requires.few_gaps
    c.in-Ok.ensures.timed c.in-Ok.ensures.stimulus c.watch.ensures
