use Rattle.std.proofs.Common.{◌≡◌, ◌*◌, ◌∙◌, [], sym, subst, ap, arith, All}
use Rattle.cam_ranges.specs.Gathered.{AreExactly}
use Rattle.image_layout.specs.Layout.{set_words}
use Rattle.image_layout.proofs.Images.{no_fault}
use Rattle.image_format.proofs.Tables.{layout_tells}
use Rattle.pair_certificate.specs.Reports.{IsPlaceInRange}
use Rattle.sound_walk.specs.Holding.{HasMember}
use Rattle.replay_core.specs.Covers.{members_below}
use Rattle.replay_core.proofs.Members.{none_below, exactly_members}
use Rattle.replay_core.proofs.cover.members.Goals as goal

pub loop-word-init : goal.loop-word-init
loop-word-init c =
    let none : c.in_ok-places.places.items ≡ [] = c.in_ok-places.ensures.items in
    record {
      places = none ∙ none_below c.args.view.now.bytes.now c.args.state;
      range = subst (All IsPlaceInRange) (sym none) (λ k d lt. absurd (omega (arith, lt)));
    }

pub returns-clause-exact : goal.returns-clause-exact
returns-clause-exact c =
    let b = c.args.view.now.bytes.now in
    let all : c.loop-word.word ≡ set_words b = omega (arith, c.words-word-end.ensures) in
    let places : c.from_vec.result ≡ members_below b c.args.state (64 * set_words b) =
    c.from_vec.ensures ∙ (c.loop-word.invariant.places ∙ ap (λ n. members_below b c.args.state (64 * n)) all) in
    subst (AreExactly (HasMember b c.args.state)) (sym places)
    (exactly_members b c.args.state (layout_tells b (no_fault _ c.args.view.now.keeps)) c.requires)
