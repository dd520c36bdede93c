use Rattle.stimulus_commands.proofs.Stepped.{HasStepped}
use Rattle.stimulus_commands.proofs.counts.count_verdicts.Given as goal

abbrev pub invariant-loop-instant : goal.invariant-loop-instant
invariant-loop-instant l = HasStepped l.fn.set l.set l.instants l.instant-index l.counts
