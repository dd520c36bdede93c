use Rattle.std.proofs.Common.{◌≡◌}
use Rattle.std.specs.Prelude.{map}
use Rattle.wheel_types.specs.Edges.{below}
use Rattle.position_nfa.specs.Views.{alphabet}
use Rattle.table_images.specs.Kinds.{AreSets}
use Rattle.image_audit.specs.Agreements.{named, OnceTo}
use Rattle.image_audit.proofs.states.number_states.Given as goal

abbrev pub invariant-loop-q : goal.invariant-loop-q
invariant-loop-q l = record {
  keys : l.states.keys ≡ map (named l.view.bytes.now) (below l.q);
  once : OnceTo l.view.bytes.now l.q;
  sets : AreSets (alphabet l.nfa) l.states.keys;
}
