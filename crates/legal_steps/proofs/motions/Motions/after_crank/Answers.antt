use Rattle.std.proofs.Common.{◌≡◌, ◌+◌, ◌<◌, pos, ◌-ℤ◌, w32, to_z, of_z, refl, ◌∙◌, ap, arith}
use Rattle.std.proofs.lemmas.Int.{ints}
use Rattle.wheel_types.specs.declared.channel.Channel.TheVariants.{Crank, Cam1, Cam2}
use Rattle.wheel_types.specs.Edges.{edge_count}
use Rattle.legal_steps.proofs.NextPlaces.{crank_within, crank_carried}
use Rattle.legal_steps.proofs.motions.Motions.after_crank.Goals as goal

pub returns-then-j-crank_count-clause-next : goal.returns-then-j-crank_count-clause-next
returns-then-j-crank_count-clause-next c =
    let w = c.args.self.now.wheel.parts in
    let many : c.crank_count.result ≡ edge_count w Crank = c.crank_count.ensures.of_wheel w c.args.self.now.table in
    let first : to_z w32 (of_z w32 c.args.from.n1) ≡ c.args.from.n1 = omega (arith, ints) in
    let second : to_z w32 (of_z w32 c.args.from.n2) ≡ c.args.from.n2 = omega (arith, ints) in
    let within : c.args.from.j + 1 < edge_count w Crank = omega (arith, many) in
    crank_within w c.args.from _ within refl first second

pub returns-clause-next : goal.returns-clause-next
returns-clause-next c =
    let w = c.args.self.now.wheel.parts in
    let table = c.args.self.now.table in
    let many : c.crank_count.result ≡ edge_count w Crank = c.crank_count.ensures.of_wheel w table in
    let many1 : c.cam_count.result ≡ edge_count w Cam1 = c.cam_count.ensures.of_wheel w table in
    let many2 : c.cam_count-2.result ≡ edge_count w Cam2 = c.cam_count-2.ensures.of_wheel w table in
    let first : to_z w32 (of_z w32 (to_z w32 (of_z w32 c.args.from.n1) -ℤ to_z w32 c.cam_count.result)) ≡ c.args.from.n1 -ℤ pos c.cam_count.result = omega (arith, ints) in
    let second : to_z w32 (of_z w32 (to_z w32 (of_z w32 c.args.from.n2) -ℤ to_z w32 c.cam_count-2.result)) ≡ c.args.from.n2 -ℤ pos c.cam_count-2.result = omega (arith, ints) in
    let last : c.args.from.j + 1 ≡ edge_count w Crank = omega (arith, many) in
    crank_carried w c.args.from _ c.requires.edge last refl (first ∙ ap (λ n. c.args.from.n1 -ℤ pos n) many1) (second ∙ ap (λ n. c.args.from.n2 -ℤ pos n) many2)
