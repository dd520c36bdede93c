use Rattle.std.proofs.Common.{◌<◌, sym, ◌∙◌, arith}
use Rattle.std.proofs.lemmas.Bool.{false≢true}
use Rattle.wheel_types.specs.declared.channel.Channel.TheVariants.{Crank}
use Rattle.wheel_types.specs.Edges.{edge_count}
use Rattle.cam_ranges.proofs.SmallPlaces.{place_near}
use Rattle.legal_steps.proofs.Passing.{pass_place, pass_found, pass_lost}
use Rattle.legal_steps.proofs.motions.Motions.pass.Goals as goal

pub after-to-requires-clause-first : goal.after-to-requires-clause-first
after-to-requires-clause-first c = (place_near c.args.self.now.wheel.parts c.args.from c.args.self.now.wheel.valid c.requires).first

pub after-to-requires-clause-second : goal.after-to-requires-clause-second
after-to-requires-clause-second c = (place_near c.args.self.now.wheel.parts c.args.from c.args.self.now.wheel.valid c.requires).second

pub returns-then-stands-clause-pass : goal.returns-then-stands-clause-pass
returns-then-stands-clause-pass c =
    let w = c.args.self.now.wheel.parts in
    let some : 0 < edge_count w Crank = omega arith in
    pass_found w c.args.from c.args.seen c.in-Some.pol c.after-to.result some c.in-Some.is (c.is_next.ensures.0 c.if-not-is_next.false) c.after-to.ensures.next (c.stands.ensures.0 c.if-stands.true)

pub returns-then-stands-clause-place : goal.returns-then-stands-clause-place
returns-then-stands-clause-place c =
    let w = c.args.self.now.wheel.parts in
    let some : 0 < edge_count w Crank = omega arith in
    pass_place w c.args.from c.args.seen.channel c.args.seen.edge c.after-to.result some c.requires (pass_found w c.args.from c.args.seen c.in-Some.pol c.after-to.result some c.in-Some.is (c.is_next.ensures.0 c.if-not-is_next.false) c.after-to.ensures.next (c.stands.ensures.0 c.if-stands.true))

pub returns-else-stands-clause-pass : goal.returns-else-stands-clause-pass
returns-else-stands-clause-pass c =
    let w = c.args.self.now.wheel.parts in
    let some : 0 < edge_count w Crank = omega arith in
    pass_lost w c.args.from c.args.seen c.in-Some.pol c.after-to.result some c.in-Some.is c.after-to.ensures.next (λ s. false≢true (sym c.if-stands.false ∙ c.stands.ensures.1 s))
