-- What an automaton stands for.
use Rattle.std.specs.Prelude.{ℕ, List}
use Rattle.position_nfa.specs.declared.pair.Pair.{Pair}
use Rattle.subset_build.specs.declared.automaton.Automaton.{Automaton}
use Rattle.subset_build.specs.declared.table.Table.{Table}

-- its states, in the order of their numbers
abbrev pub states_of : Automaton → List Pair
states_of a = a.states.keys

-- the states of a table, in the order of their numbers
abbrev pub table_states : Table → List Pair
table_states t = t.states.keys

-- the entries of its rows, state after state
abbrev pub table_rows : Table → List ℕ
table_rows t = t.rows.items
