use Rattle.std.proofs.Common.{◌≡◌, ◌<◌, ◌≤◌, ◌∙◌, length, sym, ap, subst, arith}
use Rattle.std.specs.Prelude.{All}
use Rattle.std.proofs.lemmas.Grind.{common_steps}
use Rattle.edge_angles.specs.declared.edges.Edge.{Edge}
use Rattle.edge_angles.specs.EdgeTables.{edges_of}
use Rattle.edge_angles.proofs.Tables.{edges_below, some_more, none_more, few_edges, edges_within}
use Rattle.edge_angles.proofs.edges.find.edges_on.Goals as goal
use Rattle.edge_angles.proofs.edges.find.edges_on.Goals.{in-Some+in_ok-push, in_default}

pub loop-slot-preserved : goal.loop-slot-preserved
loop-slot-preserved c =
    elim c.match-edge_before.branch [
      | in-Some+in_ok-push w ↦
          let e = some_more c.args.wheel.now.parts c.args.channel c.loop-slot.slot w.in-Some.pol (sym w.in-Some.ensures) in
          grind (arith, common_steps)
      | in_default w ↦
          let e = none_more c.args.wheel.now.parts c.args.channel c.loop-slot.slot (sym w.in_default.ensures) in
          cc
    ]

found : (c : goal.After-from_vec) → c.from_vec.result ≡ edges_of c.args.wheel.now.parts c.args.channel
found c =
    let all : c.loop-slot.slot ≡ length c.args.wheel.now.parts.slots = grind arith in
    c.from_vec.ensures ∙ c.loop-slot.invariant ∙ ap (edges_below c.args.wheel.now.parts c.args.channel) all

pub returns-clause-few : goal.returns-clause-few
returns-clause-few c = subst (λ es. length es ≤ 4096) (sym (found c)) (few_edges c.args.wheel.now.parts c.args.channel c.args.wheel.now.valid)

pub returns-clause-within : goal.returns-clause-within
returns-clause-within c = subst (All (λ (e : Edge). e.slot < 4096)) (sym (found c)) (edges_within c.args.wheel.now.parts c.args.channel c.args.wheel.now.valid)
