-- The walk with the least end place, walk by walk.
use Rattle.std.proofs.Common.{◌≡◌, ℕ, ◌+◌, ◌<◌, ◌⊎◌, inl, inr, List, [], ◌∷◌, ◌++◌, length, get_or, ◌<ℤ◌, ◌≤ℤ◌, sym, ◌∙◌, ap, subst, arith, Bool, true, false, not, eqb, take, add-one}
use Rattle.std.proofs.Math.Seq.{take-suc}
use Rattle.std.proofs.lemmas.Bool.{false≢true}
use Rattle.std.proofs.lemmas.Bool.Decides.{nat_tests}
use Rattle.std.specs.Option.{option_eq}
use Rattle.std.proofs.lemmas.Int.{ints}
use Rattle.std.specs.Prelude.{Contains, Option, Some, None, IfSome}
use Rattle.std.proofs.lemmas.List.Elements.{Contains-append_left, Contains-push, Contains-push_cases}
use Rattle.wheel_types.specs.declared.place.Place.{Place}
use Rattle.wheel_types.specs.Verdicts.{IsBefore}
use Rattle.plain_motion.specs.declared.window.Walk.{Walk}
use Rattle.plain_motion.specs.Ends.{IsOther, IsLeastBut}

pub before_through : (a b c : Place) → IsBefore a b → IsBefore b c → IsBefore a c
before_through a b c (inl h) (inl k) = inl (omega (arith, h, k))
before_through a b c (inl h) (inr k) = let e : b.j ≡ c.j = k.0 in inl (omega (arith, h, e))
before_through a b c (inr h) (inl k) = let e : a.j ≡ b.j = h.0 in inl (omega (arith, k, e))
before_through a b c (inr (e, h)) (inr (f, k)) = inr (e ∙ f, cams h k)
  where
    cams : (a.n1 <ℤ b.n1) ⊎ ((a.n1 ≡ b.n1) × (a.n2 ≤ℤ b.n2)) → (b.n1 <ℤ c.n1) ⊎ ((b.n1 ≡ c.n1) × (b.n2 ≤ℤ c.n2)) → (a.n1 <ℤ c.n1) ⊎ ((a.n1 ≡ c.n1) × (a.n2 ≤ℤ c.n2))
    cams (inl h) (inl k) = inl (omega (arith, ints, h, k))
    cams (inl h) (inr (f, k)) = inl (omega (arith, ints, h, f))
    cams (inr (e, h)) (inl k) = inl (omega (arith, ints, k, e))
    cams (inr (e, h)) (inr (f, k)) = inr (e ∙ f, omega (arith, ints, h, k))

pub least_skip : (ps : List Walk) (k : Option ℕ) (o : Option Walk) (p : Walk) → IsLeastBut ps k o → (IsOther k p.end.j → ⊥) → IsLeastBut (ps ++ p ∷ []) k o
least_skip ps k None p h n = λ q c o. by_cases q o (Contains-push_cases ps p q c)
  where
    by_cases : (q : Walk) → IsOther k q.end.j → Contains ps q ⊎ (p ≡ q) → ⊥
    by_cases q o (inl c) = h q c o
    by_cases q o (inr e) = n (subst (λ (r : Walk). IsOther k r.end.j) (sym e) o)
least_skip ps k (Some r) p h n = (Contains-append_left ps (p ∷ []) r h.0, h.1, λ q c o. by_cases q o (Contains-push_cases ps p q c))
  where
    by_cases : (q : Walk) → IsOther k q.end.j → Contains ps q ⊎ (p ≡ q) → IsBefore r.end q.end
    by_cases q o (inl c) = h.2 q c o
    by_cases q o (inr e) = absurd (n (subst (λ (s : Walk). IsOther k s.end.j) (sym e) o))

pub least_more : (ps : List Walk) (k : Option ℕ) (o : Option Walk) (p r : Walk) → IsLeastBut ps k o → IsOther k p.end.j → (r ≡ p) ⊎ (o ≡ Some r) → IfSome o (λ other. IsBefore r.end other.end) → IsBefore r.end p.end → IsLeastBut (ps ++ p ∷ []) k (Some r)
least_more ps k None p r h other one first second = (in_it one, other_too one, λ q c o. by_cases q o (Contains-push_cases ps p q c))
  where
    in_it : (r ≡ p) ⊎ (None ≡ Some r) → Contains (ps ++ p ∷ []) r
    in_it (inl e) = subst (Contains (ps ++ p ∷ [])) (sym e) (Contains-push ps p)
    in_it (inr e) = absurd (cc)

    other_too : (r ≡ p) ⊎ (None ≡ Some r) → IsOther k r.end.j
    other_too (inl e) = subst (λ (s : Walk). IsOther k s.end.j) (sym e) other
    other_too (inr e) = absurd (cc)

    by_cases : (q : Walk) → IsOther k q.end.j → Contains ps q ⊎ (p ≡ q) → IsBefore r.end q.end
    by_cases q o (inl c) = absurd (h q c o)
    by_cases q o (inr e) = subst (λ (s : Walk). IsBefore r.end s.end) e second
least_more ps k (Some s) p r h other one first second = (in_it one, other_too one, λ q c o. by_cases q o (Contains-push_cases ps p q c))
  where
    was : Some s ≡ Some r → s ≡ r
    was e = cc

    in_it : (r ≡ p) ⊎ (Some s ≡ Some r) → Contains (ps ++ p ∷ []) r
    in_it (inl e) = subst (Contains (ps ++ p ∷ [])) (sym e) (Contains-push ps p)
    in_it (inr e) = subst (Contains (ps ++ p ∷ [])) (was e) (Contains-append_left ps (p ∷ []) s h.0)

    other_too : (r ≡ p) ⊎ (Some s ≡ Some r) → IsOther k r.end.j
    other_too (inl e) = subst (λ (s : Walk). IsOther k s.end.j) (sym e) other
    other_too (inr e) = subst (λ (s : Walk). IsOther k s.end.j) (was e) h.1

    by_cases : (q : Walk) → IsOther k q.end.j → Contains ps q ⊎ (p ≡ q) → IsBefore r.end q.end
    by_cases q o (inl c) = before_through r.end s.end q.end first (h.2 q c o)
    by_cases q o (inr e) = subst (λ (s : Walk). IsBefore r.end s.end) e second

-- what the test of a position says
pub other_by : (k : Option ℕ) (j : ℕ) (r : Bool) → r ≡ not (option_eq eqb k (Some j)) → r ≡ true → IsOther k j
other_by None j r e f = tt
other_by (Some i) j r e f = λ g. let h : eqb i j ≡ true = grind (arith, nat_tests) in false≢true (sym (e ∙ ap not h) ∙ f)

pub not_other : (k : Option ℕ) (j : ℕ) (r : Bool) → r ≡ not (option_eq eqb k (Some j)) → r ≡ false → IsOther k j → ⊥
not_other None j r e f o = false≢true (sym f ∙ e)
not_other (Some i) j r e f o = o (grind (arith, nat_tests))

pub take_one : {X : Type 0} (ps : List X) (k : ℕ) (d : X) → k < length ps → take (k + 1) ps ≡ take k ps ++ get_or ps k d ∷ []
take_one ps k d h = ap (λ n. take n ps) (add-one k) ∙ take-suc ps k d h
