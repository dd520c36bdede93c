use Rattle.std.proofs.Common.{List, sym, subst}
use Rattle.wheel_types.specs.declared.place.Place.{Place}
use Rattle.cam_ranges.specs.Places.{IsAscending}
use Rattle.certificate_checker.specs.Checking.{ArePlacesOf}
use Rattle.certificate_checker.proofs.basis.Basis.of.Goals as goal

pub returns-clause-basis : goal.returns-clause-basis
returns-clause-basis c = record {
  edges = c.in_ok-edges.ensures;
  places = subst (λ (l : List Place). ArePlacesOf c.args.wheel.now.parts l) (sym c.from_vec-places.ensures) c.in-Ok.ensures.all;
  ascend = subst IsAscending (sym c.from_vec-places.ensures) c.in-Ok.ensures.ascend;
  wheel = c.in-Ok-new.ensures.wheel;
  last = c.in-Ok-new.ensures.last;
  stands = c.in-Ok-new.ensures.stands;
}
