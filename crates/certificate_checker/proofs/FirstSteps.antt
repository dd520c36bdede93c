-- Legal steps of the first places of a list.
use Rattle.std.proofs.Common.{◌≡◌, ℕ, ◌+◌, ◌<◌, ◌⊎◌, inl, inr, List, [], length, take, get_or, sym, subst, arith}
use Rattle.std.proofs.lemmas.List.Elements.{Contains-push_cases, Contains-get_or}
use Rattle.std.specs.Prelude.{Contains, Option}
use Rattle.wheel_types.specs.declared.place.Place.{Place}
use Rattle.wheel_types.specs.declared.instant.Instant.{Instant}
use Rattle.wheel_types.specs.declared.parts.WheelParts.{WheelParts}
use Rattle.wheel_types.specs.Steps.{IsLegalStep}
use Rattle.plain_motion.proofs.LeastPlaces.{take_one}
use Rattle.wheel_types.specs.Verdicts.{IsBefore}
use Rattle.plain_motion.specs.Ends.{IsOther}
use Rattle.certificate_checker.specs.Checking.{StepsTo, HoldsAll, HasStep}

no_step : (w : WheelParts) (window : List Instant) (i : Instant) (q : Place) → StepsTo w window [] i q → ⊥
no_step w window i q s = let c : Contains [] s.0 = s.1.0 in omega (arith, c.1)

pub holds_start : (w : WheelParts) (window : List Instant) (i : Instant) (cover : List Place) → HoldsAll w window [] i cover
holds_start w window i cover q s = absurd (no_step w window i q s)

pub step_start : (w : WheelParts) (window : List Instant) (i : Instant) → HasStep w window [] i → ⊥
step_start w window i h = no_step w window i h.0 h.1

-- one more place of the list
last_step : (w : WheelParts) (window : List Instant) (from : List Place) (k : ℕ) (d : Place) (i : Instant) (q : Place) → k < length from → StepsTo w window (take (k + 1) from) i q → StepsTo w window (take k from) i q ⊎ IsLegalStep w window (get_or from k d) i q
last_step w window from k d i q h s = by_cases (Contains-push_cases (take k from) (get_or from k d) s.0 (subst (λ l. Contains l s.0) (take_one from k d h) s.1.0))
  where
    by_cases : Contains (take k from) s.0 ⊎ (get_or from k d ≡ s.0) → StepsTo w window (take k from) i q ⊎ IsLegalStep w window (get_or from k d) i q
    by_cases (inl c) = inl (s.0, (c, s.1.1))
    by_cases (inr e) = inr (subst (λ p. IsLegalStep w window p i q) (sym e) s.1.1)

pub holds_more : (w : WheelParts) (window : List Instant) (from : List Place) (k : ℕ) (d : Place) (i : Instant) (cover : List Place) → k < length from → HoldsAll w window (take k from) i cover → ((q : Place) → IsLegalStep w window (get_or from k d) i q → Contains cover q) → HoldsAll w window (take (k + 1) from) i cover
holds_more w window from k d i cover h all here q s = by_cases (last_step w window from k d i q h s)
  where
    by_cases : StepsTo w window (take k from) i q ⊎ IsLegalStep w window (get_or from k d) i q → Contains cover q
    by_cases (inl t) = all q t
    by_cases (inr t) = here q t

pub none_more : (w : WheelParts) (window : List Instant) (from : List Place) (k : ℕ) (d : Place) (i : Instant) → k < length from → (HasStep w window (take k from) i → ⊥) → ((q : Place) → IsLegalStep w window (get_or from k d) i q → ⊥) → HasStep w window (take (k + 1) from) i → ⊥
none_more w window from k d i h none here s = by_cases (last_step w window from k d i s.0 h s.1)
  where
    by_cases : StepsTo w window (take k from) i s.0 ⊎ IsLegalStep w window (get_or from k d) i s.0 → ⊥
    by_cases (inl t) = none (s.0, t)
    by_cases (inr t) = here s.0 t

-- a place of the list
pub step_there : (w : WheelParts) (window : List Instant) (from : List Place) (k : ℕ) (d : Place) (i : Instant) (q : Place) → k < length from → IsLegalStep w window (get_or from k d) i q → StepsTo w window from i q
step_there w window from k d i q h s = (get_or from k d, (Contains-get_or from k d h, s))

pub least_more : (cover : List Place) (k : ℕ) (d p : Place) (but : Option ℕ) → k < length cover → ((q : Place) → Contains (take k cover) q → IsOther but q.j → IsBefore p q) → (IsOther but (get_or cover k d).j → IsBefore p (get_or cover k d))
    → (q : Place) → Contains (take (k + 1) cover) q → IsOther but q.j → IsBefore p q
least_more cover k d p but h all here q c o = by_cases (Contains-push_cases (take k cover) (get_or cover k d) q (subst (λ m. Contains m q) (take_one cover k d h) c))
  where
    by_cases : Contains (take k cover) q ⊎ (get_or cover k d ≡ q) → IsBefore p q
    by_cases (inl n) = all q n o
    by_cases (inr f) = subst (IsBefore p) f (here (subst (λ (r : Place). IsOther but r.j) (sym f) o))
