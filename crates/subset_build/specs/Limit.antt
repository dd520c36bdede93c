-- The limit on the states of an automaton.
use Rattle.std.specs.Prelude.{ℕ, ◌/◌, ◌^◌, min}
use Rattle.place_words.specs.Words.{words_for}
use Rattle.position_nfa.specs.Alphabets.{Alphabet, width, count}

-- no automaton has more states, so that two bytes hold a number
abbrev pub most_states : ℕ
most_states = 65535

-- the sets of all states have no more words together, nor have their rows more entries
abbrev pub most_cells : ℕ
most_cells = 2 ^ 23

-- the limit that holds where one is given: the least of it, of the most states, and of the most cells by the words of a set and by the
-- columns of a row, both rounded down
abbrev pub effective_limit : Alphabet → ℕ → ℕ
effective_limit a limit = min (min limit most_states) (min (most_cells / words_for (count a)) (most_cells / width a))
