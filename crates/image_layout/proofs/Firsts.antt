-- The first of several faults.
use Rattle.std.proofs.Common.{◌≡◌, ℕ, zero, suc, ◌+◌, ◌<◌, ◌≤◌, Bool, true, false, List, [], ◌∷◌, Option, Some, None, refl, ◌∙◌, arith}
use Rattle.std.proofs.Common.{◌⊎◌, inl, inr}
use Rattle.std.proofs.lemmas.Bool.{cases_order}
use Rattle.image_layout.specs.declared.fault.ImageFault.{ImageFault}
use Rattle.image_layout.specs.Faults.{first_of, first_from, unless}

-- a rule that holds leaves the rules after it
pub first_next : (x : Option ImageFault) (xs : List (Option ImageFault)) → x ≡ None → first_of (x ∷ xs) ≡ first_of xs
unfolding first_of
first_next None xs e = refl
first_next (Some f) xs e = cc

-- a rule that is broken is the first
pub first_found : (x : Option ImageFault) (xs : List (Option ImageFault)) (f : ImageFault) → x ≡ Some f → first_of (x ∷ xs) ≡ Some f
unfolding first_of
first_found None xs f e = cc
first_found (Some g) xs f e = e

pub first_none : first_of [] ≡ None
unfolding first_of
first_none = refl

pub unless_true : (b : Bool) (f : ImageFault) → b ≡ true → unless b f ≡ None
unless_true true f e = refl
unless_true false f e = cc

pub unless_false : (b : Bool) (f : ImageFault) → b ≡ false → unless b f ≡ Some f
unless_false true f e = cc
unless_false false f e = refl

-- what no fault says
pub unless_none : (b : Bool) (f : ImageFault) → unless b f ≡ None → b ≡ true
unless_none true f e = refl
unless_none false f e = cc

pub first_none_head : (x : Option ImageFault) (xs : List (Option ImageFault)) → first_of (x ∷ xs) ≡ None → x ≡ None
unfolding first_of
first_none_head None xs e = refl
first_none_head (Some f) xs e = cc

pub first_none_tail : (x : Option ImageFault) (xs : List (Option ImageFault)) → first_of (x ∷ xs) ≡ None → first_of xs ≡ None
unfolding first_of
first_none_tail None xs e = e
first_none_tail (Some f) xs e = cc

pub ruleset firsts = (first_next, first_found, first_none)

omega_split : (k i : ℕ) → k ≤ i → (k ≡ i) ⊎ (k < i)
omega_split k i from = elim (cases_order k i) [ inl e ↦ inl e | inr (inl lt) ↦ inr lt | inr (inr gt) ↦ absurd (omega arith) ]

-- the entries from k on, where those have no fault
pub first_from_none : (k n : ℕ) (fault_of : ℕ → Option ImageFault) → ((i : ℕ) → k ≤ i → i < k + n → fault_of i ≡ None) → first_from k n fault_of ≡ None
unfolding first_from
first_from_none k zero fault_of each = refl
first_from_none k (suc n) fault_of each =
    first_next (fault_of k) _ (each k (omega arith) (omega arith))
    ∙ first_next (first_from (k + 1) n fault_of) [] (first_from_none (k + 1) n fault_of (λ i from to. each i (omega arith) (omega arith)))
    ∙ first_none

-- the entries before entry i of them have no fault, and entry i has one
pub first_from_some : (k n i : ℕ) (fault_of : ℕ → Option ImageFault) (f : ImageFault) → k ≤ i → i < k + n → ((j : ℕ) → k ≤ j → j < i → fault_of j ≡ None) → fault_of i ≡ Some f → first_from k n fault_of ≡ Some f
unfolding first_from
first_from_some k zero i fault_of f from to before here = absurd (omega arith)
first_from_some k (suc n) i fault_of f from to before here =
    let split : (k ≡ i) ⊎ (k < i) = omega_split k i from in
    elim split [
      | inl e ↦ first_found (fault_of k) _ f (rw e here)
      | inr lt ↦
          first_next (fault_of k) _ (before k (omega arith) lt)
          ∙ first_found (first_from (k + 1) n fault_of) [] f
          (first_from_some (k + 1) n i fault_of f (omega arith) (omega arith) (λ j a b. before j (omega arith) b) here)
    ]

-- no fault among the entries
pub first_from_each : (k n : ℕ) (fault_of : ℕ → Option ImageFault) → first_from k n fault_of ≡ None → (i : ℕ) → k ≤ i → i < k + n → fault_of i ≡ None
unfolding first_from
first_from_each k zero fault_of e i from to = absurd (omega arith)
first_from_each k (suc n) fault_of e i from to =
    elim (omega_split k i from) [
      | inl same ↦ rw (← same) (first_none_head (fault_of k) _ e)
      | inr lt ↦ first_from_each (k + 1) n fault_of (first_none_head (first_from (k + 1) n fault_of) [] (first_none_tail (fault_of k) _ e)) i (omega arith) (omega arith)
    ]
