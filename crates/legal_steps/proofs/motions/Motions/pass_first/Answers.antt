use Rattle.std.proofs.Common.{◌⊎◌}
use Rattle.legal_steps.specs.Passes.{Passes, PassesBoth}
use Rattle.legal_steps.proofs.Passing.{passes_once}
use Rattle.legal_steps.proofs.FoundPlaces.{found_then, found_or}
use Rattle.legal_steps.proofs.motions.Motions.pass_first.Goals as goal

pub returns-in-None-clause-pass : goal.returns-in-None-clause-pass
returns-in-None-clause-pass c =
    let w = c.args.self.now.wheel.parts in
    let a = c.args.first in
    let b = c.args.second in
    let d = c.args.third in
    let m = c.in_ok-between.between in
    let on = found_or (PassesBoth w m b d) (PassesBoth w m d b) c.pass_both-in-None.result c.in-None.ensures.pass c.pass_both-in-None.ensures.pass in
    let here = c.in_ok-between.ensures.pass in
    found_then (Passes w c.args.from a) (λ n q. PassesBoth w n b d q ⊎ PassesBoth w n d b q) m c.pass_both-in-None.result here (λ n h. passes_once w c.args.from a.channel a.edge n m h here) on
