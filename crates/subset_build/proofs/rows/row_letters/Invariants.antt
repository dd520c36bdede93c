use Rattle.std.proofs.Common.{◌≡◌, ◌≤◌, ◌+◌, ◌*◌, length}
use Rattle.place_words.specs.Words.{words_for}
use Rattle.position_nfa.specs.Alphabets.{count, width}
use Rattle.position_nfa.specs.Families.{taken}
use Rattle.position_nfa.specs.Sound.{AreDue}
use Rattle.position_nfa.specs.Views.{alphabet}
use Rattle.subset_build.proofs.rows.row_letters.Given as goal

abbrev pub invariant-loop-column : goal.invariant-loop-column
invariant-loop-column l = record {
  numbers : l.states.keys ≡ taken (alphabet l.nfa) l.fn.states.keys l.q l.column;
  small : length l.states.keys ≤ l.limit;
  room : length l.room.items ≡ words_for (count (alphabet l.nfa));
  due : AreDue (alphabet l.nfa) l.states.keys l.rows.items;
  long : length l.rows.items ≡ l.number * width (alphabet l.nfa) + l.column;
}
