use Rattle.std.proofs.Common.{◌≡◌, ℕ, ◌<◌, get_or}
use Rattle.image_layout.specs.Fields.{member_at}
use Rattle.position_nfa.specs.Sets.{all_places}
use Rattle.position_nfa.specs.Views.{alphabet}
use Rattle.image_audit.proofs.start.check_set.Given as goal

abbrev pub invariant-loop-word : goal.invariant-loop-word
invariant-loop-word l = (k : ℕ) → k < l.word → member_at l.view.bytes.now 1 k ≡ get_or (all_places (alphabet l.nfa)) k 0
