use Rattle.std.proofs.Common.{◌≡◌, length}
use Rattle.image_audit.proofs.start.empty_words.Given as goal

abbrev pub invariant-loop : goal.invariant-loop
invariant-loop l = length l.words.items ≡ l.counter
