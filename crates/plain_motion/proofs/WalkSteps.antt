-- Walks that go on by a step.
use Rattle.std.proofs.Common.{◌≡◌, List, ℤ, refl, sym, ◌∙◌}
use Rattle.wheel_types.specs.declared.place.Place.{Place}
use Rattle.wheel_types.specs.declared.instant.Instant.{Instant}
use Rattle.wheel_types.specs.declared.parts.WheelParts.{WheelParts}
use Rattle.plain_motion.specs.declared.window.Walk.{Walk}
use Rattle.legal_steps.specs.TimedSteps.{IsTimedStep}
use Rattle.plain_motion.specs.Ends.{EndsOn, GoesOnTo}
use Rattle.plain_motion.proofs.TestedPlaces.{by_test, to_test}
use Rattle.legal_steps.proofs.TimedSteps.{timed_step_once, timed_step_place}

pub goes_on_by : (w : WheelParts) (ts : List ℤ) (i : Instant) (v : Walk) (q : Place) → IsTimedStep w ts v.end i q → GoesOnTo w ts i v (record { start = v.start; end = q })
goes_on_by w ts i v q h = record { start = refl; step = h }

same_walk : (u v : Walk) → u.start ≡ v.start → u.end ≡ v.end → u ≡ v
same_walk u v e f = by_parts u.start v.start u.end v.end e f
  where
    by_parts : (a b c d : Place) → a ≡ b → c ≡ d → ◌≡◌ {A = Walk} (record { start = a; end = c }) (record { start = b; end = d })
    by_parts a b c d e f = rw (e, f)

-- a walk goes on to one walk
pub goes_on_once : (w : WheelParts) (ts : List ℤ) (i : Instant) (v u x : Walk) → EndsOn w v → GoesOnTo w ts i v u → GoesOnTo w ts i v x → u ≡ x
goes_on_once w ts i v u x is h k = same_walk u x (h.start ∙ sym k.start) (timed_step_once w ts v.end i u.end x.end (by_test w v.end is) h.step k.step)

-- or to none, where its end has no step
pub goes_nowhere : (w : WheelParts) (ts : List ℤ) (i : Instant) (v : Walk) → ((q : Place) → IsTimedStep w ts v.end i q → ⊥) → (u : Walk) → GoesOnTo w ts i v u → ⊥
goes_nowhere w ts i v n u h = n u.end h.step

-- to a place of the wheel
pub goes_to_place : (w : WheelParts) (ts : List ℤ) (i : Instant) (v u : Walk) → EndsOn w v → GoesOnTo w ts i v u → EndsOn w u
goes_to_place w ts i v u is h = to_test w u.end (timed_step_place w ts v.end i u.end (by_test w v.end is) h.step)
