-- Kinds that are made state by state.
use Rattle.std.proofs.Common.{◌≡◌, ℕ, ◌+◌, ◌<◌, inl, inr, List, [], ◌∷◌, ◌++◌, length, length-append, get_or, slice_get, Some, sym, ap, subst, ◌∙◌, arith}
use Rattle.std.proofs.lemmas.Bool.{cases_eq}
use Rattle.std.proofs.lemmas.List.{get_or_append_left, get_or-append-add}
use Rattle.image_layout.specs.declared.kind.Kind.{Kind}
use Rattle.image_layout.specs.declared.kind.Kind.TheVariants.{Dead}
use Rattle.position_nfa.specs.declared.pair.Pair.{Pair}
use Rattle.position_nfa.specs.Alphabets.{Alphabet}
use Rattle.position_nfa.specs.Sound.{SetSays}
use Rattle.table_images.specs.Kinds.{says_of, KindsSayTo}

pub kind_more : (a : Alphabet) (states : List Pair) (n : ℕ) (p : Pair) (set : List ℕ) (kind : Kind) (old new : List Kind) → slice_get states n ≡ Some p → set ≡ p.set → SetSays a set (says_of kind)
    → KindsSayTo a states n old → new ≡ old ++ kind ∷ [] → KindsSayTo a states (n + 1) new
kind_more a states n p set kind old new at same says before more = subst (KindsSayTo a states (n + 1)) (sym more) (record {
  long = length-append old (kind ∷ []) ∙ ap (λ m. m + 1) before.long;
  says = λ q r lt h. elim (cases_eq q n) [
    | inl e ↦
        let one : Some r ≡ Some p = sym h ∙ (ap (slice_get states) e ∙ at) in
        let r_is : r ≡ p = cc in
        let place : q ≡ length old + 0 = omega (arith, e, before.long) in
        let last : get_or (old ++ kind ∷ []) q Dead ≡ kind = ap (λ i. get_or (old ++ kind ∷ []) i Dead) place ∙ get_or-append-add old (kind ∷ []) 0 Dead in
        subst (λ k. SetSays a r.set (says_of k)) (sym last) (subst (λ (s : Pair). SetSays a s.set (says_of kind)) (sym r_is) (subst (λ s. SetSays a s (says_of kind)) same says))
    | inr other ↦
        let early : q < n = omega (arith, lt, other) in
        let left : get_or (old ++ kind ∷ []) q Dead ≡ get_or old q Dead = get_or_append_left old (kind ∷ []) Dead q (omega (arith, early, before.long)) in
        subst (λ k. SetSays a r.set (says_of k)) (sym left) (before.says q r early h)
  ];
})
