use Rattle.std.proofs.Common.{◌≡◌, ℕ, ◌<◌, ◌≤◌, get_or}
use Rattle.std.specs.Prelude.{bit_and}
use Rattle.place_words.proofs.keep.Given as goal

abbrev pub invariant-loop-k : goal.invariant-loop-k
invariant-loop-k l = record {
  done : (j : ℕ) → j < l.k → get_or l.set j 0 ≡ bit_and (get_or l.fn.set j 0) (get_or l.mask j 0);
  left : (j : ℕ) → l.k ≤ j → get_or l.set j 0 ≡ get_or l.fn.set j 0;
}
