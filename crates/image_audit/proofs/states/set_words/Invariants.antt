use Rattle.std.proofs.Common.{◌≡◌}
use Rattle.std.specs.Prelude.{map}
use Rattle.wheel_types.specs.Edges.{below}
use Rattle.image_layout.specs.Fields.{member_at}
use Rattle.image_audit.proofs.states.set_words.Given as goal

abbrev pub invariant-loop-word : goal.invariant-loop-word
invariant-loop-word l = l.words.items ≡ map (member_at l.view.bytes.now l.q) (below l.word)
