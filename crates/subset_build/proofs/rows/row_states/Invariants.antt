use Rattle.std.proofs.Common.{◌≡◌, ◌≤◌, ◌-◌, ◌*◌, length}
use Rattle.place_words.specs.Words.{words_for}
use Rattle.position_nfa.specs.Alphabets.{count, width}
use Rattle.position_nfa.specs.Families.{explored}
use Rattle.position_nfa.specs.Sound.{AreDue}
use Rattle.position_nfa.specs.Views.{alphabet}
use Rattle.subset_build.proofs.rows.row_states.Given as goal

abbrev pub invariant-loop-q : goal.invariant-loop-q
invariant-loop-q l = record {
  numbers : l.states.keys ≡ explored (alphabet l.nfa) l.q;
  small : length l.states.keys ≤ l.limit;
  before : l.q ≤ length l.states.keys;
  room : length l.room.items ≡ words_for (count (alphabet l.nfa));
  due : AreDue (alphabet l.nfa) l.states.keys l.rows.items;
  long : length l.rows.items ≡ l.q * width (alphabet l.nfa);
}

abbrev pub decreases-loop-q : goal.decreases-loop-q
decreases-loop-q l = l.limit - l.q
