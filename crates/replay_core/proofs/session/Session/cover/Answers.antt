use Rattle.std.proofs.Common.{◌≡◌, ℕ, Bool, List, ◌∙◌, ap, subst}
use Rattle.wheel_types.specs.declared.place.Place.{Place}
use Rattle.image_layout.specs.Fields.{wheel_parts_of}
use Rattle.image_format.specs.declared.view.View.{View}
use Rattle.sync_machine.specs.Machine.{stand_of}
use Rattle.table_images.specs.Images.{IsSoundImage}
use Rattle.replay_core.specs.Covers.{AreMembersBy, kind_for}
use Rattle.replay_core.proofs.Exact.{known_line}
use Rattle.replay_core.proofs.session.Session.cover.Goals as goal

moved : (a b : List ℕ) (u v : Bool) (p q : ℕ) (ps : List Place) → a ≡ b → u ≡ v → p ≡ q → AreMembersBy u a p ps → AreMembersBy v b q ps
moved a b u v p q ps image started state are =
    subst (λ x. AreMembersBy x b q ps) started (subst (λ x. AreMembersBy u x q ps) image (subst (λ x. AreMembersBy u a x ps) state are))

pub returns-clause-exact : goal.returns-clause-exact
returns-clause-exact c = λ past i stands rising.
    let self = c.args.self.now in
    let b = self.machine.view.bytes.now in
    let known : ∥ IsSoundImage b ∥₁ = subst (λ x. ∥ IsSoundImage x ∥₁) c.requires.model c.args.model.now.sound in
    let image : c.view.result.now.bytes.now ≡ b = ap (λ (v : View). v.bytes.now) c.view.ensures.view ∙ c.requires.model in
    let kind : c.kind_of.result ≡ kind_for (wheel_parts_of b) self.passed self.said c.in_ok-cover.cover =
    c.kind_of.ensures.kind (wheel_parts_of b) self.edges
    ∙ ap (λ ps. kind_for (wheel_parts_of b) self.passed self.said ps) c.as_slice.ensures in
    known_line b (self.machine.view.keeps, known) past i rising (stand_of self.machine) self.passed self.said _ stands.machine stands.passed
    stands.said (c.stepped.ensures ∙ stands.number) kind
    (moved c.view.result.now.bytes.now b c.started-started.result self.machine.started c.state.result self.machine.state c.in_ok-cover.cover
    image c.started-started.ensures c.state.ensures.state c.in_ok-cover.ensures.members)
