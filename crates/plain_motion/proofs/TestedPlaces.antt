-- Places of a wheel, by a test.
use mathlib.Core.Logic.{∥∥₁_elim}
use denote.Struct.Props.{≡_prop}
use Rattle.std.specs.Coded.{coded_bool}
use Rattle.std.proofs.Common.{◌≡◌, true, List, sym, subst}
use Rattle.std.specs.Prelude.{All, Contains, ◌↔◌}
use Rattle.wheel_types.specs.declared.place.Place.{Place}
use Rattle.wheel_types.specs.declared.parts.WheelParts.{WheelParts}
use Rattle.std.proofs.lemmas.Grind.{merely}
use Rattle.wheel_types.specs.PlainSteps.{is_standing}
use Rattle.wheel_types.specs.Steps.{indices_of}
use Rattle.wheel_types.proofs.Tests.{standing_tested}
use Rattle.cam_ranges.specs.Places.{IsPlace, IsAscending}
use Rattle.plain_motion.specs.Ends.{IsTestedPlace, AreAllPlaces}
use Rattle.plain_motion.proofs.Images.{all_from_contains}

pub by_test : (w : WheelParts) (p : Place) → IsTestedPlace w p → IsPlace w p
by_test w p h =
    let test = standing_tested w (indices_of p) in
    record { edge = h.edge; stands = test.0 (∥∥₁_elim h.standing (≡_prop coded_bool (is_standing w (indices_of p)) true) (λ stands. test.1 stands)) }

pub to_test : (w : WheelParts) (p : Place) → IsPlace w p → IsTestedPlace w p
to_test w p h = record { edge = h.edge; standing = merely h.stands }

-- an ascending list of all places
pub all_found : (w : WheelParts) (places : List Place) → IsAscending places → ((p : Place) → Contains places p ↔ IsPlace w p) → AreAllPlaces w places
all_found w places ascend all = record { ascend = ascend; exact = all }

-- the same places of the same wheel
pub all_are : (w v : WheelParts) (xs ys : List Place) → ys ≡ xs → v ≡ w → AreAllPlaces w xs → AreAllPlaces v ys
all_are w v xs ys e f h = subst (λ u. AreAllPlaces u ys) (sym f) (subst (AreAllPlaces w) (sym e) h)

pub all_tested : (w v : WheelParts) (xs ys : List Place) → ys ≡ xs → v ≡ w → AreAllPlaces w xs → All (IsTestedPlace v) ys
all_tested w v xs ys e f h = let same = all_are w v xs ys e f h in all_from_contains (IsTestedPlace v) ys (λ p k. to_test v p ((same.exact p).0 k))
