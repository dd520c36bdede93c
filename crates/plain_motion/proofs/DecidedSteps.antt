-- A place has a legal step at an instant or has none.
use Rattle.std.proofs.Common.{ℕ, ◌⊎◌, inl, inr, ◌↔◌, List, [], ◌∷◌, ℤ, IsTrue, refl, subst, arith}
use Rattle.std.proofs.lemmas.Grind.{common_steps}
use Rattle.std.proofs.lemmas.List.Elements.{All-from_recursion, All-contains, Contains-append_left, Contains-append_right, Contains-push}
use Rattle.std.specs.Prelude.{Contains, Option, Some, None}
use Rattle.std.specs.List.{AllByRecursion}
use Rattle.wheel_types.specs.declared.channel.Pol.{Pol}
use Rattle.wheel_types.specs.declared.place.Place.{Place}
use Rattle.wheel_types.specs.declared.instant.Instant.{Instant}
use Rattle.wheel_types.specs.declared.parts.WheelParts.{WheelParts}
use Rattle.wheel_types.specs.Motions.{Indices, Event, orders, events_of, KeepsSpeed, KeepsRatio}
use Rattle.wheel_types.specs.Verdicts.{place_of}
use Rattle.wheel_types.specs.Steps.{KeepsGaps, KeepsGapsIf, IsLegalStep, indices_of, crank_times}
use Rattle.wheel_types.specs.Plain.{keeps_speed, keeps_ratio}
use Rattle.wheel_types.specs.Named.{Works}
use Rattle.wheel_types.proofs.FirstOrders.{works_or_not}
use Rattle.wheel_types.proofs.OneStep.{legal_step_once}
use Rattle.plain_motion.proofs.Listed.{Lists, Decided, both_decided, by_test, none_listed, one_listed, relisted}

-- ---- the limits

speed_decided : (w : WheelParts) (s t : ℕ) → Decided (KeepsSpeed w s t)
speed_decided w s t = by_test (KeepsSpeed w s t) (keeps_speed w s t) (tested w s t)
  where
    tested : (w : WheelParts) (s t : ℕ) → IsTrue (keeps_speed w s t) ↔ KeepsSpeed w s t
    tested w s t = grind (arith, common_steps)

ratio_decided : (w : WheelParts) (s t u v : ℕ) → Decided (KeepsRatio w s t u v)
ratio_decided w s t u v = by_test (KeepsRatio w s t u v) (keeps_ratio w s t u v) (tested w s t u v)
  where
    tested : (w : WheelParts) (s t u v : ℕ) → IsTrue (keeps_ratio w s t u v) ↔ KeepsRatio w s t u v
    tested w s t u v = grind (arith, common_steps)

gaps_decided : (w : WheelParts) (m t : ℤ) (ts : List ℤ) → Decided (KeepsGaps w m t ts)
gaps_decided w m t [] = inl tt
gaps_decided w m t (u ∷ []) = speed_decided w _ _
gaps_decided w m t (u ∷ v ∷ ts) = both_decided _ _ (speed_decided w _ _) (ratio_decided w _ _ _ _)

gaps_if_decided : (a : Option Pol) (w : WheelParts) (m t : ℤ) (ts : List ℤ) → Decided (KeepsGapsIf a w m t ts)
gaps_if_decided None w m t ts = inl tt
gaps_if_decided (Some p) w m t ts = gaps_decided w m t ts

-- ---- the orders

-- one of these orders works
record SomeWorks (w : WheelParts) (from : Indices) (os : List (List Event)) : Type 0 where
  pub order : List Event
  pub among : Contains os order
  pub works : Works w from order

-- none of them works
abbrev NoneWorks : WheelParts → Indices → List (List Event) → Type 0
NoneWorks w from os = AllByRecursion (λ o. Works w from o → ⊥) os

-- one of the orders works or none does
some_or_none : (w : WheelParts) (from : Indices) (os : List (List Event)) → SomeWorks w from os ⊎ NoneWorks w from os
some_or_none w from [] = inr tt
some_or_none w from (o ∷ os) = by_cases (works_or_not w from o) (some_or_none w from os)
  where
    by_cases : Decided (Works w from o) → SomeWorks w from os ⊎ NoneWorks w from os → SomeWorks w from (o ∷ os) ⊎ NoneWorks w from (o ∷ os)
    by_cases (inl k) rest = inl (record { order = o; among = Contains-append_left (o ∷ []) os o (Contains-push [] o); works = k })
    by_cases (inr fails) (inl s) = inl (record { order = s.order; among = Contains-append_right (o ∷ []) os s.order s.among; works = s.works })
    by_cases (inr fails) (inr n) = inr (fails, n)

-- then each of them fails
none_of_them : (w : WheelParts) (from : Indices) (os : List (List Event)) (o : List Event) → NoneWorks w from os → Contains os o → Works w from o → ⊥
none_of_them w from os o n c = All-contains (λ o. Works w from o → ⊥) os o (All-from_recursion (λ o. Works w from o → ⊥) os n) c

-- ---- the legal steps

-- the legal steps of a place at an instant: one place or none
pub steps_listed : (w : WheelParts) (past : List Instant) (p : Place) (i : Instant) → Lists (IsLegalStep w past p i)
steps_listed w past p i = by_cases (gaps_if_decided i.crank w (indices_of p).crank i.time (crank_times past)) (some_or_none w (indices_of p) (orders (events_of i)))
  where
    one_step : (q : Place) → IsLegalStep w past p i q → Lists (IsLegalStep w past p i)
    one_step q s = relisted _ _ (one_listed q) (λ r. (λ e. subst (IsLegalStep w past p i) e s, λ h. legal_step_once w past p i q r s h))

    by_cases : Decided (KeepsGapsIf i.crank w (indices_of p).crank i.time (crank_times past)) → SomeWorks w (indices_of p) (orders (events_of i)) ⊎ NoneWorks w (indices_of p) (orders (events_of i)) → Lists (IsLegalStep w past p i)
    by_cases (inl g) (inl s) = one_step (place_of w s.works.0) (s.works.0, record { order = s.order; is_order = s.among; walks = s.works.1; gaps = g }, refl)
    by_cases (inl g) (inr n) = none_listed _ (λ q h. none_of_them w (indices_of p) (orders (events_of i)) h.1.order n h.1.is_order (h.0, h.1.walks))
    by_cases (inr n) d = none_listed _ (λ q h. n h.1.gaps)
