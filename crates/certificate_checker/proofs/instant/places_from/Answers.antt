use Rattle.std.proofs.Common.{List, Bor, subst}
use Rattle.std.specs.Prelude.{Contains, Option}
use Rattle.std.specs.Option.{option_map}
use Rattle.wheel_types.specs.declared.place.Place.{Place}
use Rattle.cam_ranges.specs.Places.{IsPlace}
use Rattle.plain_motion.proofs.Images.{all_from_contains}
use Rattle.certificate_checker.specs.Stages.{IsKept}
use Rattle.certificate_checker.proofs.Taken.{from_none}
use Rattle.certificate_checker.proofs.instant.places_from.Goals as goal

pub returns-in-None-clause-places : goal.returns-in-None-clause-places
returns-in-None-clause-places c = all_from_contains (IsPlace c.args.wheel.now.parts) c.as_slice.result.now (λ p h. (c.requires.basis.places p).0 (subst (λ (l : List Place). Contains l p) c.as_slice.ensures h))

pub returns-in-None-clause-from : goal.returns-in-None-clause-from
returns-in-None-clause-from c = λ before reached k.
    from_none c.args.wheel.now.parts before reached c.args.basis.now.places c.as_slice.result.now c.as_slice.ensures c.requires.basis.places (subst (λ (o : Option (Bor (List Place))). IsKept (option_map (λ (b : Bor (List Place)). b.now) o) before reached) c.in-None.is k)
