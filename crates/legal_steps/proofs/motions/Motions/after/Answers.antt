use Rattle.std.proofs.Common.{◌≡◌, pos, ◌+ℤ◌, w32, to_z, of_z, refl, sym, ◌∙◌, ap, arith}
use Rattle.std.proofs.lemmas.Int.{ints}
use Rattle.wheel_types.specs.Motions.{passed}
use Rattle.wheel_types.specs.Verdicts.{place_of}
use Rattle.wheel_types.specs.Steps.{indices_of}
use Rattle.legal_steps.proofs.NextPlaces.{first_passed, second_passed}
use Rattle.legal_steps.proofs.motions.Motions.after.Goals as goal

pub returns-in-Cam1-clause-next : goal.returns-in-Cam1-clause-next
returns-in-Cam1-clause-next c =
    let w = c.args.self.now.wheel.parts in
    let from = c.args.from in
    let first : to_z w32 (of_z w32 (to_z w32 (of_z w32 from.n1) +ℤ pos 1)) ≡ from.n1 +ℤ pos 1 = omega (arith, ints) in
    let second : to_z w32 (of_z w32 from.n2) ≡ from.n2 = omega (arith, ints) in
    first_passed w from _ c.requires.edge refl first second ∙ ap (λ ch. place_of w (passed ch (indices_of from))) (sym c.in-Cam1.is)

pub returns-in-Cam2-clause-next : goal.returns-in-Cam2-clause-next
returns-in-Cam2-clause-next c =
    let w = c.args.self.now.wheel.parts in
    let from = c.args.from in
    let first : to_z w32 (of_z w32 from.n1) ≡ from.n1 = omega (arith, ints) in
    let second : to_z w32 (of_z w32 (to_z w32 (of_z w32 from.n2) +ℤ pos 1)) ≡ from.n2 +ℤ pos 1 = omega (arith, ints) in
    second_passed w from _ c.requires.edge refl first second ∙ ap (λ ch. place_of w (passed ch (indices_of from))) (sym c.in-Cam2.is)
