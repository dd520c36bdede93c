use Rattle.std.proofs.Common.{arith}
use Rattle.place_words.proofs.WordLaws.{both_words}
use Rattle.place_words.proofs.keep.Goals as goal

pub returns-clause-both : goal.returns-clause-both
returns-clause-both c = both_words c.args.set.now c.args.mask.now c.loop-k.set (λ j lt. c.loop-k.invariant.done j (omega arith)) c.requires c.loop-k.auto.set
