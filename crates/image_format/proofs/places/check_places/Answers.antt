use Rattle.std.proofs.lemmas.Result.{err_from_is_err_and}
use Rattle.image_layout.specs.ListRules.{places_fault}
use Rattle.image_layout.proofs.Firsts.{first_found}
use Rattle.image_format.proofs.places.check_places.Goals as goal

pub returns-in_err-check_each_place : goal.returns-in_err-check_each_place
unfolding places_fault
returns-in_err-check_each_place c =
    let p = err_from_is_err_and c.from_residual.result c.from_residual.ensures.1 in
    rw (p.1, p.2) (first_found _ _ _ c.in_err-check_each_place.ensures)
