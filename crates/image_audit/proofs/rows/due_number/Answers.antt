use Rattle.std.proofs.Common.{◌≡◌, ◌∙◌, sym, true}
use Rattle.std.specs.Prelude.{Some}
use Rattle.place_words.specs.Words.{has_none}
use Rattle.position_nfa.specs.Alphabets.{time_classes, ratio_classes}
use Rattle.position_nfa.specs.Letters.{leads}
use Rattle.position_nfa.specs.Sets.{effect}
use Rattle.position_nfa.specs.Views.{alphabet}
use Rattle.subset_build.proofs.RowLaws.{due_dead}
use Rattle.image_audit.proofs.rows.due_number.Goals as goal

pub returns-then-write_next-clause-due : goal.returns-then-write_next-clause-due
returns-then-write_next-clause-due c =
    let a = alphabet c.args.nfa.now in
    let l : leads (time_classes a) (ratio_classes a) c.args.state.now.phase c.args.column ≡ Some c.in-Some.to = sym c.phase_after.ensures ∙ c.in-Some.is in
    let none : has_none (effect a c.args.column c.args.state.now.set) ≡ true = sym c.write_next.ensures.empty ∙ c.if-write_next.true in
    due_dead a c.args.states.now.keys c.args.state.now c.args.column c.in-Some.to c.requires.dead l none
