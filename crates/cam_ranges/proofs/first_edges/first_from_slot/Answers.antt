use Rattle.std.proofs.Common.{◌≡◌, ℕ, ◌<◌, ◌≤◌, ◌↔◌, ℤ, pos, negsuc, ◌+ℤ◌, ◌*ℤ◌, ◌≤ℤ◌, w32, w64, to_z, of_z, sym, ◌∙◌, ap, subst, arith}
use Rattle.std.proofs.lemmas.Int.{ints}
use Rattle.std.specs.Prelude.{unsigned_abs}
use Rattle.std.specs.Int.{int_div_euclid, int_rem_euclid}
use Rattle.wheel_types.specs.Edges.{edge_count, slot_count, slot_of, number_of, cycle_of}
use Rattle.wheel_types.proofs.Unrolled.{carried, number_below}
use Rattle.cam_ranges.specs.Searches.{IsCountBefore}
use Rattle.cam_ranges.proofs.FirstEdges.{found_from, edge_small}
use Rattle.cam_ranges.proofs.first_edges.first_from_slot.Goals as goal

-- a quotient is no larger than the number
quotient_small : (n k : ℕ) (z : ℤ) → 0 < n → unsigned_abs z ≤ k → unsigned_abs (cycle_of n z) ≤ k
quotient_small n k (pos a) h small = omega arith
quotient_small n k (negsuc a) h small = omega arith

-- the edge is found from the slot on
edge : (c : goal.After-unrolled) → (n : ℤ) → c.args.slot ≤ℤ slot_of c.args.wheel.now.parts c.args.channel n ↔ c.unrolled.result ≤ℤ n
edge c =
    let w = c.args.wheel.now.parts in
    let s = c.args.slot in
    let count : c.cam_count.result ≡ edge_count w c.args.channel = c.cam_count.ensures.of_wheel w c.requires.table in
    let here : to_z w64 (of_z w64 s) ≡ s = omega (arith, ints) in
    let slots : to_z w64 (of_z w64 c.from-slots.result) ≡ pos (slot_count w) = omega (arith, ints) in
    let some : 0 < slot_count w = omega arith in
    let quotient : c.div_euclid-cycle.result ≡ cycle_of (slot_count w) s = c.div_euclid-cycle.ensures ∙ ap (λ z. int_div_euclid z (to_z w64 (of_z w64 c.from-slots.result))) here ∙ ap (int_div_euclid s) slots in
    let rest : c.rem_euclid-within.result ≡ int_rem_euclid s (pos (slot_count w)) = c.rem_euclid-within.ensures.value ∙ ap (λ z. int_rem_euclid z (to_z w64 (of_z w64 c.from-slots.result))) here ∙ ap (int_rem_euclid s) slots in
    let small : unsigned_abs c.div_euclid-cycle.result ≤ 32768 = subst (λ z. unsigned_abs z ≤ 32768) (sym quotient) (quotient_small (slot_count w) 32768 s some c.requires.small) in
    let turns : to_z w32 (of_z w32 (to_z w64 (of_z w64 c.div_euclid-cycle.result))) ≡ c.div_euclid-cycle.result = omega (arith, ints) in
    let part : to_z w64 (of_z w64 c.rem_euclid-within.result) ≡ c.rem_euclid-within.result = omega (arith, ints) in
    let found : IsCountBefore w c.args.channel (number_of (slot_count w) s) c.edges_before.result = subst (λ z. IsCountBefore w c.args.channel (unsigned_abs z) c.edges_before.result) (part ∙ rest) (c.edges_before.ensures.count w c.requires.table) in
    let result : c.unrolled.result ≡ cycle_of (slot_count w) s *ℤ pos (edge_count w c.args.channel) +ℤ pos c.edges_before.result = c.unrolled.ensures ∙ ap (λ z. z *ℤ pos c.cam_count.result +ℤ pos c.edges_before.result) (turns ∙ quotient) ∙ ap (λ k. cycle_of (slot_count w) s *ℤ pos k +ℤ pos c.edges_before.result) count in
    subst (λ r. (n : ℤ) → s ≤ℤ slot_of w c.args.channel n ↔ r ≤ℤ n) (sym result) (found_from w c.args.channel s (cycle_of (slot_count w) s) (number_of (slot_count w) s) c.edges_before.result c.requires.present (carried (slot_count w) s some) (number_below (slot_count w) s some) found)

-- the result is what its bits say
back : (c : goal.After-unrolled) → to_z w32 (of_z w32 c.unrolled.result) ≡ c.unrolled.result
back c = omega (arith, ints)

pub returns-clause-edge : goal.returns-clause-edge
returns-clause-edge c = subst (λ r. (n : ℤ) → c.args.slot ≤ℤ slot_of c.args.wheel.now.parts c.args.channel n ↔ r ≤ℤ n) (sym (back c)) (edge c)

pub returns-clause-small : goal.returns-clause-small
returns-clause-small c =
    let few : slot_count c.args.wheel.now.parts ≤ 4096 = omega arith in
    subst (λ r. unsigned_abs r ≤ 65536) (sym (back c)) (edge_small c.args.wheel.now.parts c.args.channel c.args.slot c.unrolled.result c.requires.present few c.requires.small (edge c))
