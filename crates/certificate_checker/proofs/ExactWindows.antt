-- The window after a line of an exact certificate is the one that its cover tells.
use Rattle.std.proofs.Common.{◌≡◌, inl, inr, List, [], ◌∷◌, sym, ◌∙◌, ap, subst}
use Rattle.wheel_types.specs.declared.place.Place.{Place}
use Rattle.wheel_types.specs.declared.instant.Instant.{Instant}
use Rattle.wheel_types.specs.declared.verdict.Verdict.{Verdict}
use Rattle.wheel_types.specs.declared.verdict.Verdict.TheVariants.{At, Open, Lost}
use Rattle.wheel_types.specs.declared.parts.WheelParts.{WheelParts}
use Rattle.wheel_types.specs.Verdicts.{EndsAt, IsNextWindow}
use Rattle.cam_ranges.specs.Gathered.{AreExactly}
use Rattle.certificate_checker.specs.Situations.{window_after}
use Rattle.plain_motion.specs.EndPlaces.{AreEndsOf}
use Rattle.certificate_checker.proofs.Lists.{none_in}

begun : (w : WheelParts) (i h : Instant) (before : List Instant) (cover : List Place) (e : Place) → EndsAt w (i ∷ []) e → AreExactly (EndsAt w (i ∷ [])) cover → i ∷ [] ≡ window_after i (h ∷ before) Lost cover
begun w i h before [] e ends exact = absurd (none_in e ((exact.exact e).1 ends))
begun w i h before (q ∷ cover) e ends exact = refl
  where
    refl : i ∷ [] ≡ i ∷ []
    refl = cc

pub window_told : (w : WheelParts) (i : Instant) (before : List Instant) (v : Verdict) (window : List Instant) (cover : List Place) → IsNextWindow w i before v window → AreEndsOf w window cover → window ≡ window_after i before v cover
window_told w i before (At j slot) window cover next exact = next
window_told w i before (Open x y) window cover next exact = next
window_told w i [] Lost window cover next exact = next
window_told w i (h ∷ before) Lost window cover (inl g) exact = g.1 ∙ begun w i h before cover g.0.0 g.0.1 (subst (λ l. AreEndsOf w l cover) g.1 exact)
window_told w i (h ∷ before) Lost window cover (inr n) exact = n.1 ∙ ap (window_after i (h ∷ before) Lost) (sym (subst (λ l. AreEndsOf w l cover) n.1 exact))
