use Rattle.std.proofs.Common.{◌≡◌, ◌++◌}
use Rattle.std.specs.Prelude.{flat_map}
use Rattle.wheel_types.specs.Edges.{below}
use Rattle.image_layout.specs.Parts.{words, state_words}
use Rattle.image_layout.proofs.write.push_states.Given as goal

abbrev pub invariant-loop-q : goal.invariant-loop-q
invariant-loop-q l = l.out.items ≡ l.initial.out.items ++ flat_map (λ q. words (state_words l.parts q)) (below l.q)
