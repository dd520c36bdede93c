use Rattle.std.proofs.Common.{◌≡◌, length}
use Rattle.place_words.specs.Words.{words_for}
use Rattle.position_nfa.specs.Alphabets.{count}
use Rattle.position_nfa.specs.Views.{alphabet}
use Rattle.image_audit.specs.Agreements.{EntriesTo}
use Rattle.image_audit.proofs.rows.check_row.Given as goal

abbrev pub invariant-loop-column : goal.invariant-loop-column
invariant-loop-column l = record {
  due : EntriesTo (alphabet l.nfa) l.view.bytes.now l.q l.column;
  room : length l.room.items ≡ words_for (count (alphabet l.nfa));
}
