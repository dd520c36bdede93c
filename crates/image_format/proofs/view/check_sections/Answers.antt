use Rattle.std.proofs.Common.{◌∙◌}
use Rattle.std.proofs.lemmas.Result.{err_from_is_err_and}
use Rattle.image_layout.specs.Rules.{sections_fault}
use Rattle.image_layout.proofs.Firsts.{first_found, first_next}
use Rattle.image_format.proofs.view.check_sections.Goals as goal

pub returns-in_err-check_places-clause-told : goal.returns-in_err-check_places-clause-told
unfolding sections_fault
returns-in_err-check_places-clause-told c =
    let p = err_from_is_err_and c.from_residual-in_err-check_places.result c.from_residual-in_err-check_places.ensures.1 in
    rw (p.1, p.2) (first_next _ _ c.in_ok-cranks.ensures.told ∙ first_found _ _ _ c.in_err-check_places.ensures)

pub returns-in_err-check_time_cuts-clause-told : goal.returns-in_err-check_time_cuts-clause-told
unfolding sections_fault
returns-in_err-check_time_cuts-clause-told c =
    let p = err_from_is_err_and c.from_residual-in_err-check_time_cuts.result c.from_residual-in_err-check_time_cuts.ensures.1 in
    rw (p.1, p.2) (first_next _ _ c.in_ok-cranks.ensures.told ∙ first_next _ _ c.in_ok-check_places.ensures ∙ first_found _ _ _ c.in_err-check_time_cuts.ensures)

pub returns-in_err-check_ratio_cuts-clause-told : goal.returns-in_err-check_ratio_cuts-clause-told
unfolding sections_fault
returns-in_err-check_ratio_cuts-clause-told c =
    let p = err_from_is_err_and c.from_residual-in_err-check_ratio_cuts.result c.from_residual-in_err-check_ratio_cuts.ensures.1 in
    rw (p.1, p.2) (first_next _ _ c.in_ok-cranks.ensures.told ∙ first_next _ _ c.in_ok-check_places.ensures ∙ first_next _ _ c.in_ok-check_time_cuts.ensures ∙ first_found _ _ _ c.in_err-check_ratio_cuts.ensures)

pub returns-in_err-check_kinds-clause-told : goal.returns-in_err-check_kinds-clause-told
unfolding sections_fault
returns-in_err-check_kinds-clause-told c =
    let p = err_from_is_err_and c.from_residual-in_err-check_kinds.result c.from_residual-in_err-check_kinds.ensures.1 in
    rw (p.1, p.2) (first_next _ _ c.in_ok-cranks.ensures.told ∙ first_next _ _ c.in_ok-check_places.ensures ∙ first_next _ _ c.in_ok-check_time_cuts.ensures ∙ first_next _ _ c.in_ok-check_ratio_cuts.ensures ∙ first_found _ _ _ c.in_err-check_kinds.ensures)

pub returns-in_err-check_members-clause-told : goal.returns-in_err-check_members-clause-told
unfolding sections_fault
returns-in_err-check_members-clause-told c =
    let p = err_from_is_err_and c.from_residual-in_err-check_members.result c.from_residual-in_err-check_members.ensures.1 in
    rw (p.1, p.2) (first_next _ _ c.in_ok-cranks.ensures.told ∙ first_next _ _ c.in_ok-check_places.ensures ∙ first_next _ _ c.in_ok-check_time_cuts.ensures ∙ first_next _ _ c.in_ok-check_ratio_cuts.ensures ∙ first_next _ _ c.in_ok-check_kinds.ensures ∙ first_found _ _ _ c.in_err-check_members.ensures)

pub returns-in_err-check_rows-clause-told : goal.returns-in_err-check_rows-clause-told
unfolding sections_fault
returns-in_err-check_rows-clause-told c =
    let p = err_from_is_err_and c.from_residual-in_err-check_rows.result c.from_residual-in_err-check_rows.ensures.1 in
    rw (p.1, p.2) (first_next _ _ c.in_ok-cranks.ensures.told ∙ first_next _ _ c.in_ok-check_places.ensures ∙ first_next _ _ c.in_ok-check_time_cuts.ensures ∙ first_next _ _ c.in_ok-check_ratio_cuts.ensures ∙ first_next _ _ c.in_ok-check_kinds.ensures ∙ first_next _ _ c.in_ok-check_members.ensures ∙ first_found _ _ _ c.in_err-check_rows.ensures)
