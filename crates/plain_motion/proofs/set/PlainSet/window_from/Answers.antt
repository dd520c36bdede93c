use Rattle.std.proofs.Common.{◌≡◌, [], true, false, List, sym, subst, rules}
use Rattle.std.specs.Prelude.{All}
use Rattle.wheel_types.specs.declared.place.Place.{Place}
use Rattle.wheel_types.specs.declared.parts.WheelParts.{WheelParts}
use Rattle.plain_motion.specs.Ends.{IsTestedPlace, AreAllPlaces}
use Rattle.plain_motion.proofs.Remembered.{alone_found, alone_lost, begins_by}
use Rattle.plain_motion.proofs.set.PlainSet.window_from.Goals as goal

tested : (w : WheelParts) (places given : List Place) → given ≡ places → All (IsTestedPlace w) places → All (IsTestedPlace w) given
tested w places given e all = subst (λ (ps : List Place). All (IsTestedPlace w) ps) (sym e) all

pub returns-then-not-self-clause-fits : goal.returns-then-not-self-clause-fits
returns-then-not-self-clause-fits c =
    let me = c.args.self.now in
    c.in_ok-fresh.ensures.fits me.motions.wheel.parts (tested me.motions.wheel.parts me.places _ c.as_slice.ensures me.stand)

pub after-requires-clause-fits : goal.after-requires-clause-fits
after-requires-clause-fits c =
    let me = c.args.self.now in
    c.in_ok-fresh.ensures.fits me.motions.wheel.parts (tested me.motions.wheel.parts me.places _ c.as_slice.ensures me.stand)

pub returns-in-Lost-clause-fits : goal.returns-in-Lost-clause-fits
returns-in-Lost-clause-fits c =
    let me = c.args.self.now in
    c.in_ok-fresh.ensures.fits me.motions.wheel.parts (tested me.motions.wheel.parts me.places _ c.as_slice.ensures me.stand)

pub returns-then-not-self-clause-begins : goal.returns-then-not-self-clause-begins
returns-then-not-self-clause-begins c = λ all.
    let me = c.args.self.now in
    let w = me.motions.wheel.parts in
    begins_by w c.in_ok-fresh.fresh c.args.instant.now me.window.begun false (search rules) (c.in_ok-fresh.ensures.keeps w me.motions.wheel.valid (subst (λ (ps : List Place). AreAllPlaces w ps) (sym c.as_slice.ensures) all))

pub returns-in-Lost-clause-begins : goal.returns-in-Lost-clause-begins
returns-in-Lost-clause-begins c = λ all.
    let me = c.args.self.now in
    let w = me.motions.wheel.parts in
    let fresh = c.in_ok-fresh.ensures.keeps w me.motions.wheel.valid (subst (λ (ps : List Place). AreAllPlaces w ps) (sym c.as_slice.ensures) all) in
    begins_by w c.in_ok-fresh.fresh c.args.instant.now me.window.begun true (search rules) (alone_lost w c.in_ok-fresh.fresh c.args.instant.now (c.in-Lost.ensures _ (c.in_ok-alone.ensures.keeps [] tt fresh)) fresh)

pub returns-in_default-clause-begins : goal.returns-in_default-clause-begins
returns-in_default-clause-begins c = λ all.
    let me = c.args.self.now in
    let w = me.motions.wheel.parts in
    let fresh = c.in_ok-fresh.ensures.keeps w me.motions.wheel.valid (subst (λ (ps : List Place). AreAllPlaces w ps) (sym c.as_slice.ensures) all) in
    let kept = c.in_ok-alone.ensures.keeps [] tt fresh in
    begins_by w c.in_ok-alone.alone c.args.instant.now me.window.begun true (search rules) (alone_found w c.in_ok-alone.alone c.args.instant.now c.verdict.result c.in_default.not-Lost (c.verdict.ensures _ kept) kept)
