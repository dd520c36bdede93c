use Rattle.std.proofs.Common.{◌≡◌, take}
use Rattle.position_nfa.specs.Views.{alphabet}
use Rattle.table_images.proofs.parts.places.Given as goal

abbrev pub invariant-loop-i : goal.invariant-loop-i
invariant-loop-i l = l.places.items ≡ take l.i (alphabet l.nfa).places
