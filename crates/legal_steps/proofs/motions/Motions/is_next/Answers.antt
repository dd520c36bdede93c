use Rattle.std.proofs.Common.{◌≡◌, ◌<◌, ◌↔◌, pos, w32, to_z, of_z, ◌∙◌, ap, arith, rules}
use Rattle.std.proofs.lemmas.Int.{ints}
use Rattle.std.specs.Prelude.{IsTrue}
use Rattle.wheel_types.specs.Edges.{edge_count}
use Rattle.legal_steps.proofs.NextEdges.{next_by}
use Rattle.legal_steps.proofs.motions.Motions.is_next.Goals as goal

pub returns : goal.returns
returns c =
    let w = c.args.self.now.wheel.parts in
    let table = c.args.self.now.table in
    let many : c.cam_count-count.result ≡ edge_count w c.args.channel = c.cam_count-count.ensures.of_wheel w table in
    let some : 0 < edge_count w c.args.channel = omega (arith, many) in
    let count : to_z w32 c.cam_count-count.result ≡ pos c.cam_count-count.result = omega (arith, ints) in
    let index : to_z w32 (of_z w32 c.next_edge.result) ≡ c.next_edge.result = omega (arith, ints) in
    let part : to_z w32 (of_z w32 c.rem_euclid-number.result) ≡ c.rem_euclid-number.result = omega (arith, ints) in
    let same : IsTrue c.eq.result ↔ (c.cam_pol.result ≡ c.args.pol) = search rules in
    next_by w c.args.from c.args.channel c.args.pol c.cam_pol.result c.eq.result _ _ _ _ some (index ∙ c.next_edge.ensures) (count ∙ ap pos many) c.rem_euclid-number.ensures.value part (c.cam_pol.ensures w table) same
