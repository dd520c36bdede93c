use Rattle.std.proofs.Common.{◌≡◌, ◌<◌, ◌↔◌, ℤ, pos, ◌+ℤ◌, ◌-ℤ◌, ◌*ℤ◌, ◌≤ℤ◌, w64, to_z, of_z, sym, ◌∙◌, ap, subst, refl, arith}
use Rattle.std.proofs.lemmas.Int.{ints}
use Rattle.std.specs.Int.{int_div_euclid}
use Rattle.wheel_types.specs.Edges.{cycle_of}
use Rattle.cam_ranges.proofs.Ceilings.{ceiling}
use Rattle.cam_ranges.proofs.first_edges.slot_from.Goals as goal

pub returns-clause-slot : goal.returns-clause-slot
returns-clause-slot c =
    let u = c.args.units in
    let b = (c.args.angle +ℤ pos u) -ℤ pos 1 in
    let units : to_z w64 (of_z w64 c.from-units.result) ≡ pos u = omega (arith, ints) in
    let sum : to_z w64 (of_z w64 (to_z w64 (of_z w64 (to_z w64 (of_z w64 c.args.angle) +ℤ to_z w64 (of_z w64 c.from-units.result))) -ℤ pos 1)) ≡ b = omega (arith, ints) in
    let back : to_z w64 (of_z w64 c.div_euclid.result) ≡ c.div_euclid.result = omega (arith, ints) in
    let quotient : c.div_euclid.result ≡ cycle_of u b = c.div_euclid.ensures ∙ ap (λ z. int_div_euclid z (to_z w64 (of_z w64 c.from-units.result))) sum ∙ ap (int_div_euclid b) units in
    let some : 0 < u = omega arith in
    subst (λ q. (s : ℤ) → c.args.angle ≤ℤ (pos u *ℤ s) ↔ q ≤ℤ s) (sym (back ∙ quotient)) (ceiling u c.args.angle b some refl)
