use Rattle.std.proofs.Common.{◌∙◌}
use Rattle.plain_motion.proofs.TestedPlaces.{all_found, all_tested, all_are}
use Rattle.plain_motion.proofs.Remembered.{remembers_none}
use Rattle.plain_motion.proofs.EndLists.{kept_ends}
use Rattle.plain_motion.proofs.set.PlainSet.new.Goals as goal

pub invariant_of-result : goal.invariant_of-result
invariant_of-result c = record {
  stand = all_tested c.args.wheel.now.parts _ c.in_ok-all_places.field-0.items _ c.from_vec-places.ensures c.in_ok-motions.ensures (all_found c.args.wheel.now.parts _ c.in_ok-all_places.ensures.ascend c.in_ok-all_places.ensures.all);
  fits = c.in_ok-window.ensures.fits _ (all_tested c.args.wheel.now.parts _ c.in_ok-all_places.field-0.items _ (c.as_slice.ensures ∙ c.from_vec-places.ensures) c.in_ok-motions.ensures (all_found c.args.wheel.now.parts _ c.in_ok-all_places.ensures.ascend c.in_ok-all_places.ensures.all));
}

pub returns-clause-stands : goal.returns-clause-stands
returns-clause-stands c =
    let kept = remembers_none _ _ (c.in_ok-window.ensures.keeps _ c.in_ok-motions.motions.wheel.valid (all_are c.args.wheel.now.parts _ c.in_ok-all_places.field-0.items _ (c.as_slice.ensures ∙ c.from_vec-places.ensures) c.in_ok-motions.ensures (all_found c.args.wheel.now.parts _ c.in_ok-all_places.ensures.ascend c.in_ok-all_places.ensures.all))) in
    record {
      places = all_are c.args.wheel.now.parts _ c.in_ok-all_places.field-0.items _ c.from_vec-places.ensures c.in_ok-motions.ensures (all_found c.args.wheel.now.parts _ c.in_ok-all_places.ensures.ascend c.in_ok-all_places.ensures.all);
      kept = kept;
      ends = kept_ends _ _ kept.window _ kept.kept c.in_ok-ends.ensures;
    }
