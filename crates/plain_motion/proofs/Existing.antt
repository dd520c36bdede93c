-- On every wheel instants whose times rise have verdicts.
use Rattle.std.proofs.Common.{◌≡◌, ◌≢◌, ℕ, ◌<◌, ◌≤◌, ◌⊎◌, inl, inr, List, [], ◌∷◌, ℤ, refl, arith}
use Rattle.std.specs.Prelude.{slice_index}
use Rattle.wheel_types.specs.declared.channel.Channel.TheVariants.{Crank}
use Rattle.wheel_types.specs.declared.place.Place.{Place}
use Rattle.wheel_types.specs.declared.instant.Instant.{Instant}
use Rattle.wheel_types.specs.declared.verdict.Verdict.{Verdict}
use Rattle.wheel_types.specs.declared.verdict.Verdict.TheVariants.{At, Open, Lost}
use Rattle.wheel_types.specs.declared.parts.WheelParts.{WheelParts}
use Rattle.wheel_types.specs.Wheels.{IsWheel}
use Rattle.wheel_types.specs.Edges.{edge_count, edge_slots}
use Rattle.wheel_types.specs.Verdicts.{EndsAt, IsLeast, IsVerdict, AreGiven, IsNextWindow, AreVerdicts, AllEarlier}
use Rattle.wheel_types.specs.Starts.{start_of}
use Rattle.wheel_types.specs.Steps.{IsLegalStep}
use Rattle.wheel_types.proofs.Places.{ends_after_step}
use Rattle.wheel_types.proofs.BothWays.{step_ends}
use Rattle.wheel_types.proofs.Standing.{ends_of_none}
use Rattle.wheel_types.proofs.StartsAndEnds.{leads_from_start}
use Rattle.wheel_types.proofs.RisingTimes.{RisesTo}
use Rattle.plain_motion.proofs.Listed.{Lists, Decided, relisted, listed_through, listed_with}
use Rattle.plain_motion.proofs.ListedPlaces.{LeastOrNone, nats_apart, least_or_none}
use Rattle.plain_motion.proofs.StandingPlaces.{standing_listed}
use Rattle.plain_motion.proofs.DecidedSteps.{steps_listed}

some_crank : (w : WheelParts) → IsWheel w → 0 < edge_count w Crank
some_crank w wheel = let some : 1 ≤ edge_count w Crank = wheel.crank_edge in omega (arith, some)

-- the places where motions end are finitely many
pub ends_listed : (w : WheelParts) → IsWheel w → (past : List Instant) → RisesTo past → Lists (EndsAt w past)
ends_listed w wheel [] r = relisted _ _ (standing_listed w wheel) (λ p. let ends = ends_of_none w p (some_crank w wheel) in (ends.1, ends.0))
ends_listed w wheel (i ∷ past) r = relisted _ _ (listed_through (EndsAt w past) (λ p q. IsLegalStep w past p i q) (ends_listed w wheel past r.1) (λ p. steps_listed w past p i)) (λ q. (
  λ k. step_ends w i past k.0 q (some_crank w wheel) r.0 k.1.0 k.1.1,
  λ e. let from = ends_after_step w i past q (some_crank w wheel) e in (from.0, (from.1, from.2)),
))

apart_or_not : (a b : ℕ) → Decided (a ≢ b)
apart_or_not a b = grind arith

same_unless : (a b : ℕ) → (a ≢ b → ⊥) → a ≡ b
same_unless a b h = by_cases (nats_apart a b)
  where
    by_cases : (a < b) ⊎ ((b < a) ⊎ (a ≡ b)) → a ≡ b
    by_cases (inl k) = absurd (h (λ e. omega (arith, k, e)))
    by_cases (inr (inl k)) = absurd (h (λ e. omega (arith, k, e)))
    by_cases (inr (inr e)) = e

-- where end places are finitely many, there is a verdict
verdict_by : (w : WheelParts) (past : List Instant) → 0 < edge_count w Crank → Lists (EndsAt w past) → (v : Verdict) × IsVerdict w past v
verdict_by w past some l = by_least (least_or_none (EndsAt w past) l)
  where
    others : (e : Place) → Lists (λ p. EndsAt w past p × (p.j ≢ e.j))
    others e = listed_with (EndsAt w past) (λ p. p.j ≢ e.j) l (λ p. apart_or_not p.j e.j)

    by_next : (e : Place) → IsLeast (EndsAt w past) e → LeastOrNone (λ p. EndsAt w past p × (p.j ≢ e.j)) → (v : Verdict) × IsVerdict w past v
    by_next e m (inl n) = (At e.j (slice_index (edge_slots w Crank) e.j), ((e, m.holds), λ p h. same_unless p.j e.j (λ k. n p (h, k)), refl))
    by_next e m (inr (f, k)) = (Open (start_of w past e) (start_of w past f), (e, f, m, k, leads_from_start w past e some m.holds, leads_from_start w past f some k.holds.0))

    by_least : LeastOrNone (EndsAt w past) → (v : Verdict) × IsVerdict w past v
    by_least (inl n) = (Lost, n)
    by_least (inr (e, m)) = by_next e m (least_or_none _ (others e))

given_or_lost : (w : WheelParts) (past : List Instant) → Lists (EndsAt w past) → AreGiven w past ⊎ IsVerdict w past Lost
given_or_lost w past l = by_cases (least_or_none (EndsAt w past) l)
  where
    by_cases : LeastOrNone (EndsAt w past) → AreGiven w past ⊎ IsVerdict w past Lost
    by_cases (inl n) = inr n
    by_cases (inr (e, m)) = inl (e, m.holds)

-- the window after an instant, of which it is the last, if it is in it
record NextWindow (w : WheelParts) (i : Instant) (before : List Instant) (v : Verdict) : Type 0 where
  pub window : List Instant
  pub is_next : IsNextWindow w i before v window
  pub rises : RisesTo window
  pub earlier : (t : ℤ) → AllEarlier t (i ∷ before) → AllEarlier t window

next_window : (w : WheelParts) → IsWheel w → (i : Instant) (before : List Instant) (v : Verdict) → RisesTo (i ∷ before) → NextWindow w i before v
next_window w wheel i before (At j slot) r = record { window = i ∷ before; is_next = refl; rises = r; earlier = λ t h. h }
next_window w wheel i before (Open a b) r = record { window = i ∷ before; is_next = refl; rises = r; earlier = λ t h. h }
next_window w wheel i [] Lost r = record { window = []; is_next = refl; rises = tt; earlier = λ t h. tt }
next_window w wheel i (x ∷ before) Lost r = by_cases (given_or_lost w (i ∷ []) (ends_listed w wheel (i ∷ []) (tt, tt)))
  where
    by_cases : AreGiven w (i ∷ []) ⊎ IsVerdict w (i ∷ []) Lost → NextWindow w i (x ∷ before) Lost
    by_cases (inl g) = record { window = i ∷ []; is_next = inl (g, refl); rises = (tt, tt); earlier = λ t h. (h.0, tt) }
    by_cases (inr n) = record { window = []; is_next = inr (n, refl); rises = tt; earlier = λ t h. tt }

-- the verdicts, and the window that the next instant comes into
pub record Verdicts (w : WheelParts) (past : List Instant) : Type 0 where
  pub verdicts : List Verdict
  pub window : List Instant
  pub are : AreVerdicts w past verdicts window
  pub rises : RisesTo window
  pub earlier : (t : ℤ) → AllEarlier t past → AllEarlier t window

pub verdicts_exist : (w : WheelParts) → IsWheel w → (past : List Instant) → RisesTo past → Verdicts w past
verdicts_exist w wheel [] r = record { verdicts = []; window = []; are = refl; rises = tt; earlier = λ t h. tt }
verdicts_exist w wheel (i ∷ past) r =
    let before : Verdicts w past = verdicts_exist w wheel past r.1 in
    let rises : RisesTo (i ∷ before.window) = (before.earlier i.time r.0, before.rises) in
    let v = verdict_by w (i ∷ before.window) (some_crank w wheel) (ends_listed w wheel (i ∷ before.window) rises) in
    let next = next_window w wheel i before.window v.0 rises in
    record {
      verdicts = v.0 ∷ before.verdicts;
      window = next.window;
      are = (before.window, before.are, v.1, next.is_next);
      rises = next.rises;
      earlier = λ t h. next.earlier t (h.0, before.earlier t h.1);
    }
