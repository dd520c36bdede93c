use Rattle.std.proofs.Common.{◌⊎◌}
use Rattle.legal_steps.specs.Passes.{PassesFirst}
use Rattle.legal_steps.proofs.FoundPlaces.{found_or}
use Rattle.legal_steps.proofs.motions.Motions.pass_all.Goals as goal

pub returns-in-None-pass_first-clause-pass : goal.returns-in-None-pass_first-clause-pass
returns-in-None-pass_first-clause-pass c =
    let w = c.args.self.now.wheel.parts in
    let from = c.args.from in
    let a = c.args.first in
    let b = c.args.second in
    let d = c.args.third in
    let r = c.pass_first-in-None-pass_first.result in
    let last = found_or (PassesFirst w from b a d) (PassesFirst w from d a b) r c.in-None-pass_first.ensures.pass c.pass_first-in-None-pass_first.ensures.pass in
    found_or (PassesFirst w from a b d) (λ q. PassesFirst w from b a d q ⊎ PassesFirst w from d a b q) r c.in-None.ensures.pass last
