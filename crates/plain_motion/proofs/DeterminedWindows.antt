-- The windows are determined by the instants.
use Rattle.std.proofs.Common.{◌≡◌, List, [], ◌∷◌, sym, ◌∙◌, subst, inl, inr}
use Rattle.wheel_types.specs.declared.parts.WheelParts.{WheelParts}
use Rattle.wheel_types.specs.declared.instant.Instant.{Instant}
use Rattle.wheel_types.specs.declared.verdict.Verdict.{Verdict}
use Rattle.wheel_types.specs.declared.verdict.Verdict.TheVariants.{At, Open, Lost}
use Rattle.wheel_types.specs.Verdicts.{IsVerdict, AreVerdicts, IsNextWindow}
use Rattle.plain_motion.specs.Laws.{SameKind}
use Rattle.plain_motion.proofs.SameKinds.{one}

same_next : (w : WheelParts) (i : Instant) (before g h : List Instant) (v u : Verdict) → SameKind v u → IsNextWindow w i before v g → IsNextWindow w i before u h → g ≡ h
same_next w i before g h (At j s) (At m t) k a b = a ∙ sym b
same_next w i before g h (At j s) (Open m t) k a b = absurd k
same_next w i before g h (At j s) Lost k a b = absurd k
same_next w i before g h (Open j s) (At m t) k a b = absurd k
same_next w i before g h (Open j s) (Open m t) k a b = a ∙ sym b
same_next w i before g h (Open j s) Lost k a b = absurd k
same_next w i before g h Lost (At m t) k a b = absurd k
same_next w i before g h Lost (Open m t) k a b = absurd k
same_next w i [] g h Lost Lost k a b = a ∙ sym b
same_next w i (x ∷ before) g h Lost Lost k (inl a) (inl b) = a.1 ∙ sym b.1
same_next w i (x ∷ before) g h Lost Lost k (inl a) (inr b) = absurd (b.0 a.0.0 a.0.1)
same_next w i (x ∷ before) g h Lost Lost k (inr a) (inl b) = absurd (a.0 b.0.0 b.0.1)
same_next w i (x ∷ before) g h Lost Lost k (inr a) (inr b) = a.1 ∙ sym b.1

pub window_determined : (w : WheelParts) (past : List Instant) (vs us : List Verdict) (g h : List Instant) → AreVerdicts w past vs g → AreVerdicts w past us h → g ≡ h
window_determined w [] [] [] g h a b = a ∙ sym b
window_determined w [] [] (u ∷ us) g h a b = absurd b
window_determined w [] (v ∷ vs) us g h a b = absurd a
window_determined w (i ∷ past) [] us g h a b = absurd a
window_determined w (i ∷ past) (v ∷ vs) [] g h a b = absurd b
window_determined w (i ∷ past) (v ∷ vs) (u ∷ us) g h a b =
    let same : b.0 ≡ a.0 = window_determined w past us vs b.0 a.0 b.1 a.1 in
    let kind : SameKind v u = one w (i ∷ a.0) v u a.2 (subst (λ r. IsVerdict w (i ∷ r) u) same b.2) in
    same_next w i a.0 g h v u kind a.3 (subst (λ r. IsNextWindow w i r u h) same b.3)
