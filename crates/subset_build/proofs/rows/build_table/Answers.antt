use Rattle.std.proofs.Common.{◌∙◌, ◌≤◌, length, sym, subst, arith}
use Rattle.std.proofs.lemmas.Result.{err_from_is_err_and}
use Rattle.position_nfa.specs.Views.{alphabet}
use Rattle.subset_build.specs.Families.{IsPastLimit}
use Rattle.subset_build.specs.Limit.{effective_limit}
use Rattle.subset_build.proofs.Limits.{family}
use Rattle.subset_build.proofs.Reached.{least_family, has_more, not_more}
use Rattle.subset_build.proofs.rows.build_table.Goals as goal

pub returns-clause-family : goal.returns-clause-family
returns-clause-family c = λ w is. least_family (alphabet c.args.nfa.now) w c.row_states.new.states.keys is (family (alphabet c.args.nfa.now) c.row_states.new.states.keys c.in_ok-rows.ensures.numbering)

pub returns-clause-not_more : goal.returns-clause-not_more
returns-clause-not_more c = λ w is more.
    let a = alphabet c.args.nfa.now in
    let states = c.row_states.new.states.keys in
    let least = least_family a w states is (family a states c.in_ok-rows.ensures.numbering) in
    let few : length states ≤ effective_limit a c.args.limit = omega (arith, c.in_ok-rows.ensures.within, c.limit_of-most.ensures) in
    not_more a (effective_limit a c.args.limit) states least few more

pub returns-in_err-first_states-clause-too_large : goal.returns-in_err-first_states-clause-too_large
returns-in_err-first_states-clause-too_large c =
    let p = err_from_is_err_and c.from_residual.result c.from_residual.ensures.1 in
    rw (p.1, p.2) (λ l e.
    let h = c.in_err-first_states.ensures.too_large l e in
    (h.0 ∙ c.limit_of-most.ensures, λ w is. has_more (alphabet c.args.nfa.now) w l is (subst (IsPastLimit (alphabet c.args.nfa.now)) (sym h.0) h.1)))

pub returns-in_err-rows-clause-too_large : goal.returns-in_err-rows-clause-too_large
returns-in_err-rows-clause-too_large c =
    let p = err_from_is_err_and c.from_residual-in_err-rows.result c.from_residual-in_err-rows.ensures.1 in
    rw (p.1, p.2) (λ l e.
    let h = c.in_err-rows.ensures.too_large l e in
    (h.0 ∙ c.limit_of-most.ensures, λ w is. has_more (alphabet c.args.nfa.now) w l is (subst (IsPastLimit (alphabet c.args.nfa.now)) (sym h.0) h.1)))
