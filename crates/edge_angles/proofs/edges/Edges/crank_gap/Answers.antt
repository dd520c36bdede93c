use Rattle.std.proofs.Common.{◌≡◌, ◌+◌, ◌<◌, ◌≤◌, sym, ◌∙◌, ap, subst, arith}
use Rattle.std.specs.Prelude.{pos, slice_index}
use Rattle.std.specs.Int.{abs_diff}
use Rattle.wheel_types.specs.declared.channel.Channel.TheVariants.{Crank}
use Rattle.wheel_types.specs.Edges.{edge_count, edge_slots, slot_count, slot_of}
use Rattle.edge_angles.proofs.Tables.{gap_as, gap_some, gap_most, slot_in, slot_after}
use Rattle.edge_angles.proofs.edges.Edges.crank_gap.Goals as goal
use Rattle.edge_angles.proofs.edges.Edges.crank_gap.Goals.{then-j-crank_count, else-j-crank_count}

pub returns-clause-of_wheel : goal.returns-clause-of_wheel
returns-clause-of_wheel c = λ w t.
    let many : c.crank_count.result ≡ edge_count w Crank = c.crank_count.ensures.of_wheel w t in
    let at : c.args.j < edge_count w Crank = omega (arith, c.crank_count.ensures.count) in
    let here : slot_of w Crank (pos c.args.j) ≡ pos c.crank_slot-2.result = slot_in w Crank c.args.j at ∙ ap pos (sym (c.crank_slot-2.ensures.of_wheel w t)) in
    elim c.if-j-crank_count.branch [
      | then-j-crank_count v ↦
          let next : c.args.j + 1 < edge_count w Crank = omega (arith, v.if-j-crank_count) in
          let there = slot_in w Crank (c.args.j + 1) next ∙ ap pos (sym (v.crank_slot-next.ensures.of_wheel w t)) in
          c.abs_diff.ensures ∙ ap (λ n. abs_diff n c.crank_slot-2.result) v.next-is ∙ gap_as w (pos c.args.j) (pos (c.args.j + 1)) _ _ here there
      | else-j-crank_count v ↦
          let over : c.args.j + 1 ≡ edge_count w Crank = omega (arith, v.if-j-crank_count) in
          let first = v.crank_slot.ensures.of_wheel w t in
          let sum : slot_count w + slice_index (edge_slots w Crank) 0 ≡ c.args.self.now.slots + v.crank_slot.result = omega (arith, t.slots, first) in
          let there = slot_after w Crank (c.args.j + 1) (omega arith) over ∙ ap pos sum in
          c.abs_diff.ensures ∙ ap (λ n. abs_diff n c.crank_slot-2.result) v.next-is ∙ gap_as w (pos c.args.j) (pos (c.args.j + 1)) _ _ here there
    ]

pub returns-clause-some : goal.returns-clause-some
returns-clause-some c = λ w t.
    let many : c.crank_count.result ≡ edge_count w Crank = c.crank_count.ensures.of_wheel w t in
    subst (λ n. 1 ≤ n) (sym (returns-clause-of_wheel c w t)) (gap_some w c.args.j (omega (arith, c.crank_count.ensures.count)))

pub returns-clause-most : goal.returns-clause-most
returns-clause-most c = λ w t.
    let many : c.crank_count.result ≡ edge_count w Crank = c.crank_count.ensures.of_wheel w t in
    subst (λ n. n ≤ slot_count w) (sym (returns-clause-of_wheel c w t)) (gap_most w c.args.j (omega (arith, c.crank_count.ensures.count)))
