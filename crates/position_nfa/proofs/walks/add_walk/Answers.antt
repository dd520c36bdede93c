use Rattle.std.proofs.Common.{◌≡◌, pos, sym, ap, ◌∙◌, length}
use Rattle.std.specs.Prelude.{Some, None}
use Rattle.std.proofs.lemmas.List.Elements.{Contains-get_or}
use Rattle.cam_ranges.specs.Places.{IsPlace}
use Rattle.position_nfa.specs.Alphabets.{nth}
use Rattle.position_nfa.specs.Walking.{instant_end}
use Rattle.legal_steps.proofs.Walked.{found_end}
use Rattle.position_nfa.proofs.WalkTables.{more_some, more_none}
use Rattle.position_nfa.proofs.walks.add_walk.Goals as goal

pub pass_instant-requires : goal.pass_instant-requires
pass_instant-requires c = (c.requires.all (nth c.args.places.now c.args.i)).0 (Contains-get_or c.args.places.now c.args.i (record { j = 0; n1 = pos 0; n2 = pos 0 }) c.requires.place)

pub number_of-requires-clause-there : goal.number_of-requires-clause-there
number_of-requires-clause-there c = (c.requires.all c.in-Some.to).1 c.in-Some.ensures.place

pub returns-in_ok-push-in-Some : goal.returns-in_ok-push-in-Some
returns-in_ok-push-in-Some c =
    let w = c.args.motions.now.wheel.parts in
    let ps = c.args.places.now in
    let is : IsPlace w (nth ps c.args.i) = (c.requires.all (nth ps c.args.i)).0 (Contains-get_or ps c.args.i (record { j = 0; n1 = pos 0; n2 = pos 0 }) c.requires.place) in
    let found : instant_end w ps c.args.instant.now c.args.i ≡ Some c.in-Some.to = found_end w (nth ps c.args.i) c.args.instant.now (Some c.in-Some.to) is c.in-Some.ensures.pass in
    let numbered : instant_end w ps c.args.instant.now c.args.i ≡ Some (nth ps c.number_of.result) = found ∙ ap Some (sym (c.number_of.ensures.at (record { j = 0; n1 = pos 0; n2 = pos 0 }))) in
    record { after = more_some (length ps) (instant_end w ps c.args.instant.now) (nth ps) c.args.i c.number_of.result c.args.sources.now c.insert.new.set c.args.targets.now.items c.push.new.self.items c.requires.before c.insert.ensures.with c.in_ok-push-in-Some.ensures.items c.number_of.ensures.within numbered c.insert.ensures.len }

pub returns-in_ok-push-in-None : goal.returns-in_ok-push-in-None
returns-in_ok-push-in-None c =
    let w = c.args.motions.now.wheel.parts in
    let ps = c.args.places.now in
    let is : IsPlace w (nth ps c.args.i) = (c.requires.all (nth ps c.args.i)).0 (Contains-get_or ps c.args.i (record { j = 0; n1 = pos 0; n2 = pos 0 }) c.requires.place) in
    let found : instant_end w ps c.args.instant.now c.args.i ≡ None = found_end w (nth ps c.args.i) c.args.instant.now None is c.in-None.ensures.pass in
    record { after = more_none (length ps) (instant_end w ps c.args.instant.now) (nth ps) c.args.i c.args.sources.now c.args.targets.now.items c.push-in-None.new.self.items c.requires.before c.in_ok-push-in-None.ensures.items found }
