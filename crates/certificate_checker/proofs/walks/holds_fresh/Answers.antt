use Rattle.std.proofs.Common.{List, [], ◌∙◌, sym, subst}
use Rattle.std.proofs.lemmas.Bool.{false≢true}
use Rattle.std.specs.Prelude.{All, Contains}
use Rattle.wheel_types.specs.declared.place.Place.{Place}
use Rattle.wheel_types.specs.declared.parts.WheelParts.{WheelParts}
use Rattle.cam_ranges.specs.Places.{IsPlace}
use Rattle.plain_motion.proofs.Images.{all_from_contains}
use Rattle.plain_motion.specs.Sets.{wheel_of}
use Rattle.certificate_checker.proofs.Fresh.{begun_all, begun_some, fresh_held}
use Rattle.certificate_checker.proofs.walks.holds_fresh.Goals as goal

pub holds_all-is_held-requires-clause-places : goal.holds_all-is_held-requires-clause-places
holds_all-is_held-requires-clause-places c =
    let g = c.requires.basis in
    subst (λ (u : WheelParts). All (IsPlace u) c.as_slice-places.result.now) (sym g.wheel)
    (all_from_contains (IsPlace c.args.wheel.now.parts) c.as_slice-places.result.now (λ p h. (g.places p).0 (subst (λ (l : List Place). Contains l p) c.as_slice-places.ensures h)))

pub has_step-is_some-requires-clause-places : goal.has_step-is_some-requires-clause-places
has_step-is_some-requires-clause-places c =
    let g = c.requires.basis in
    subst (λ (u : WheelParts). All (IsPlace u) c.as_slice-places.result.now) (sym g.wheel)
    (all_from_contains (IsPlace c.args.wheel.now.parts) c.as_slice-places.result.now (λ p h. (g.places p).0 (subst (λ (l : List Place). Contains l p) c.as_slice-places.ensures h)))

pub returns-then-is_held : goal.returns-then-is_held
returns-then-is_held c =
    let g = c.requires.basis in
    let w = c.args.wheel.now.parts in
    let window = g.stands.kept.window in
    let i = c.args.instant.now in
    let held = begun_all (wheel_of c.args.basis.now.fresh) w window c.as_slice-places.result.now c.args.basis.now.places c.args.cover.now i c.holds_all-is_held.result g.wheel g.stands.kept.windows c.as_slice-places.ensures g.places (c.holds_all-is_held.ensures [] [] g.stands) in
    let some = begun_some (wheel_of c.args.basis.now.fresh) w window c.as_slice-places.result.now c.args.basis.now.places i c.has_step-is_some.result g.wheel g.stands.kept.windows c.as_slice-places.ensures g.places (c.has_step-is_some.ensures [] [] g.stands) in
    fresh_held w i c.args.cover.now c.has_step-is_some.result c.is_nothing-is_empty.result (held.0 c.if-is_held.true) some c.is_nothing-is_empty.ensures

pub returns-else-is_held : goal.returns-else-is_held
returns-else-is_held c =
    let g = c.requires.basis in
    let held = begun_all (wheel_of c.args.basis.now.fresh) c.args.wheel.now.parts g.stands.kept.window c.as_slice-places.result.now c.args.basis.now.places c.args.cover.now c.args.instant.now c.holds_all-is_held.result g.wheel g.stands.kept.windows c.as_slice-places.ensures g.places (c.holds_all-is_held.ensures [] [] g.stands) in
    (λ t. absurd (false≢true (sym c.if-is_held.false ∙ t)), λ h. held.1 h.steps)
