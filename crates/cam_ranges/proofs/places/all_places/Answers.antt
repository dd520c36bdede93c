use Rattle.std.proofs.Common.{◌≡◌, ◌<◌, sym, subst, arith}
use Rattle.wheel_types.specs.declared.channel.Channel.TheVariants.{Crank}
use Rattle.wheel_types.specs.Edges.{edge_count}
use Rattle.cam_ranges.proofs.FewPlaces.{not_too_many}
use Rattle.cam_ranges.proofs.places.all_places.Goals as goal

pub returns-clause-all : goal.returns-clause-all
returns-clause-all c = λ p.
    let w = c.args.wheel.now.parts in
    let count : c.crank_count-j-end.result ≡ edge_count w Crank = c.crank_count-j-end.ensures.of_wheel w c.requires in
    let end : c.loop-j.j ≡ edge_count w Crank = omega arith in (
      λ k. ((c.loop-j.invariant.gathered.exact p).0 k).0,
      λ is. (c.loop-j.invariant.gathered.exact p).1 (is, subst (λ n. p.j < n) (sym end) is.edge),
    )

pub returns-clause-not_more : goal.returns-clause-not_more
returns-clause-not_more c = λ many. not_too_many c.args.wheel.now.parts c.loop-j.places.items c.loop-j.invariant.gathered.ascend (λ p is. (returns-clause-all c p).1 is) c.loop-j.invariant.few many
