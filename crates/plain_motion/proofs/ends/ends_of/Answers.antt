use Rattle.std.proofs.Common.{List, subst, rules}
use Rattle.std.specs.Prelude.{Contains, ◌↔◌}
use Rattle.wheel_types.specs.declared.place.Place.{Place}
use Rattle.plain_motion.specs.declared.window.Walk.{Walk}
use Rattle.plain_motion.specs.EndPlaces.{IsEndIn}
use Rattle.plain_motion.proofs.EndLists.{ends_begun}
use Rattle.plain_motion.proofs.ends.ends_of.Goals as goal

pub returns : goal.returns
returns c =
    let all = subst (λ (walks : List Walk). (p : Place) → Contains c.in_ok-ends.ends.items p ↔ IsEndIn walks p) c.as_slice.ensures c.in_ok-ends.ensures in
    ends_begun c.args.window.now.begun c.args.window.now.walks c.in_ok-ends.ends.items c.put_places_in_order.new.places.items c.from_vec-2.result (search rules) c.from_vec-2.ensures c.put_places_in_order.ensures.ascend c.put_places_in_order.ensures.same all
