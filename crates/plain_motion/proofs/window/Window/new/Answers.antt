use Rattle.std.proofs.Common.{◌≡◌, ◌+◌, ◌<◌, List, ◌∷◌, [], ◌++◌, take, take_all, get_or, refl, sym, ◌∙◌, ap, subst, arith}
use Rattle.std.proofs.lemmas.List.{map-append}
use Rattle.std.proofs.lemmas.List.Elements.{All-contains}
use Rattle.wheel_types.specs.declared.channel.Channel.TheVariants.{Crank}
use Rattle.wheel_types.specs.declared.place.Place.{Place}
use Rattle.wheel_types.specs.Edges.{edge_count}
use Rattle.plain_motion.specs.declared.window.Walk.{Walk}
use Rattle.plain_motion.specs.Ends.{IsTestedPlace, EndsOn, starts_of}
use Rattle.plain_motion.proofs.LeastPlaces.{take_one}
use Rattle.plain_motion.proofs.Images.{AreImages, somewhere, images_start, images_some, all_from_contains}
use Rattle.plain_motion.proofs.KeptWindows.{stays_at, keeps_none}
use Rattle.plain_motion.proofs.window.Window.new.Goals as goal

abbrev R : Place → Walk → Type 0
R p v = v ≡ stays_at p

pub loop-place-init : goal.loop-place-init
loop-place-init c = record {
  images = subst (AreImages R []) (sym c.in_ok-walks.ensures.items) (images_start R);
  starts = ap starts_of c.in_ok-walks.ensures.items;
}

pub loop-place-preserved : goal.loop-place-preserved
loop-place-preserved c =
    let places = c.args.places.now in
    let at = c.loop-place.place-index in
    let place = get_or places at somewhere in
    let next = sym (take_one places at somewhere c.loop-place-test.true) in
    let before = c.loop-place.walks.items in
    let all = c.in_ok-push.ensures.items in
    let more = images_some R (take at places) before place (stays_at place) c.loop-place.invariant.images refl (λ v h. h) in
    record {
      images = subst (λ (vs : List Walk). AreImages R (take (at + 1) places) vs) (sym all) (subst (λ (ps : List Place). AreImages R ps (before ++ stays_at place ∷ [])) next more);
      starts = ap starts_of all ∙ map-append (λ (v : Walk). v.start) before (stays_at place ∷ []) ∙ ap (λ (ps : List Place). ps ++ place ∷ []) c.loop-place.invariant.starts ∙ next;
    }

images : (c : goal.After-from_vec) → AreImages R c.args.places.now c.from_vec.result
images c =
    let places = c.args.places.now in
    let all : take c.loop-place.place-index places ≡ places = take_all c.loop-place.place-index places c.loop-place-test.false in
    subst (λ (ps : List Place). AreImages R ps c.from_vec.result) all (subst (λ (vs : List Walk). AreImages R (take c.loop-place.place-index places) vs) (sym c.from_vec.ensures) c.loop-place.invariant.images)

starts : (c : goal.After-from_vec) → starts_of c.from_vec.result ≡ c.args.places.now
starts c = ap starts_of c.from_vec.ensures ∙ c.loop-place.invariant.starts ∙ take_all c.loop-place.place-index c.args.places.now c.loop-place-test.false

pub returns-clause-fits : goal.returns-clause-fits
returns-clause-fits c = λ w all. record {
  ends = all_from_contains (EndsOn w) c.from_vec.result (λ v k.
      let from = (images c v).0 k in
      subst (EndsOn w) (sym from.1.1) (All-contains (IsTestedPlace w) c.args.places.now from.0 all from.1.0));
  times = λ k d h. absurd (omega (arith, h));
}

pub returns-clause-keeps : goal.returns-clause-keeps
returns-clause-keeps c = λ w is all.
    let some : 0 < edge_count w Crank = omega (arith, is.crank_edge) in
    keeps_none w _ c.args.places.now some all (images c) (starts c) refl refl
