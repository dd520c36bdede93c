-- The window that the next instant comes into has instants of the one before, and the last one.
use Rattle.std.proofs.Common.{inl, inr, List, [], ◌∷◌, ℤ, sym, subst}
use Rattle.wheel_types.specs.declared.instant.Instant.{Instant}
use Rattle.wheel_types.specs.declared.verdict.Verdict.{Verdict}
use Rattle.wheel_types.specs.declared.verdict.Verdict.TheVariants.{At, Open, Lost}
use Rattle.wheel_types.specs.declared.parts.WheelParts.{WheelParts}
use Rattle.wheel_types.specs.Verdicts.{IsNextWindow, AllEarlier}
use Rattle.wheel_types.proofs.RisingTimes.{RisesTo}

pub next_rises : (w : WheelParts) (i : Instant) (before : List Instant) (v : Verdict) (window : List Instant) → RisesTo (i ∷ before) → IsNextWindow w i before v window → RisesTo window
next_rises w i before (At j slot) window r n = subst RisesTo (sym n) r
next_rises w i before (Open x y) window r n = subst RisesTo (sym n) r
next_rises w i [] Lost window r n = subst RisesTo (sym n) tt
next_rises w i (h ∷ before) Lost window r (inl n) = subst RisesTo (sym n.1) (tt, tt)
next_rises w i (h ∷ before) Lost window r (inr n) = subst RisesTo (sym n.1) tt

pub next_earlier : (w : WheelParts) (t : ℤ) (i : Instant) (before : List Instant) (v : Verdict) (window : List Instant) → AllEarlier t (i ∷ before) → IsNextWindow w i before v window → AllEarlier t window
next_earlier w t i before (At j slot) window e n = subst (AllEarlier t) (sym n) e
next_earlier w t i before (Open x y) window e n = subst (AllEarlier t) (sym n) e
next_earlier w t i [] Lost window e n = subst (AllEarlier t) (sym n) tt
next_earlier w t i (h ∷ before) Lost window e (inl n) = subst (AllEarlier t) (sym n.1) (e.0, tt)
next_earlier w t i (h ∷ before) Lost window e (inr n) = subst (AllEarlier t) (sym n.1) tt
