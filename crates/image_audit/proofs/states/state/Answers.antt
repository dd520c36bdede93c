use Rattle.std.proofs.Common.{◌≡◌, ◌<◌, ◌^◌, sym, subst, ◌∙◌}
use Rattle.std.specs.Prelude.{All}
use Rattle.place_words.specs.Words.{IsSet}
use Rattle.position_nfa.specs.Alphabets.{count}
use Rattle.position_nfa.specs.Views.{alphabet}
use Rattle.table_images.specs.Images.{set_at}
use Rattle.image_audit.proofs.SetLaws.{set_is}
use Rattle.image_audit.proofs.Sizes.{count_same}
use Rattle.image_audit.proofs.states.state.Goals as goal

pub returns-clause-set : goal.returns-clause-set
returns-clause-set c =
    let a = alphabet c.args.nfa.now in
    let b = c.args.view.now.bytes.now in
    let fits : All (λ w. w < 2 ^ 64) c.as_slice.result.now = c.state_phase-phase.ensures.fits in
    let e : c.as_slice.result.now ≡ set_at b c.args.q = c.as_slice.ensures.value ∙ c.in_ok-words.ensures in
    subst (IsSet (count a)) (sym (c.from_vec.ensures ∙ c.in_ok-words.ensures))
    (set_is b c.requires.layout (count a) c.args.q c.requires.there (count_same a b c.requires.started.lists) (subst (All (λ w. w < 2 ^ 64)) e fits))
