use Rattle.std.proofs.Common.{◌≡◌, length}
use Rattle.subset_build.proofs.family.empty_words.Given as goal

abbrev pub invariant-loop : goal.invariant-loop
invariant-loop l = length l.out.items ≡ l.counter
