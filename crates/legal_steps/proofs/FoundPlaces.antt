-- Places that are found by one way after another.
use Rattle.std.proofs.Common.{◌≡◌, ◌⊎◌, inl, inr, subst}
use Rattle.std.specs.Prelude.{Option, Some, None}
use Rattle.wheel_types.specs.declared.place.Place.{Place}
use Rattle.legal_steps.specs.Passes.{Finds}

-- what is found from the one place that has the property
pub found_then : (P : Place → Type 0) (R : Place → Place → Type 0) (m : Place) (r : Option Place) → P m → ((n : Place) → P n → n ≡ m) → Finds (R m) r → Finds (λ q. (n : Place) × (P n × R n q)) r
found_then P R m None h once f = λ q k. f q (subst (λ n. R n q) (once k.0 k.1.0) k.1.1)
found_then P R m (Some q) h once f = (m, (h, f))

-- what is found by the one way or else by the other
pub found_or : (P Q : Place → Type 0) (r : Option Place) → ((q : Place) → P q → ⊥) → Finds Q r → Finds (λ q. P q ⊎ Q q) r
found_or P Q None n f = λ q k. by_cases q k
  where
    by_cases : (q : Place) → P q ⊎ Q q → ⊥
    by_cases q (inl h) = n q h
    by_cases q (inr h) = f q h
found_or P Q (Some q) n f = inr f
