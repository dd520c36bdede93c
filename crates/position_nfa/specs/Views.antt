-- What an automaton's tables speak of.
use Rattle.position_nfa.specs.declared.nfa.Nfa.{Nfa}
use Rattle.position_nfa.specs.Alphabets.{Alphabet}

-- the places and the cuts that they are of
abbrev pub alphabet : Nfa → Alphabet
alphabet nfa = record { places = nfa.places; cuts = nfa.cuts }
