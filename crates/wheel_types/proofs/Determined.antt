-- The verdicts of given instants, and their windows, are determined.
use Rattle.std.proofs.Common.{◌≡◌, ◌≢◌, ℕ, ◌<◌, ◌⊎◌, inl, inr, List, [], ◌∷◌, ℤ, ◌<ℤ◌, ◌≤ℤ◌, refl, sym, ◌∙◌, ap, subst, arith}
use Rattle.std.proofs.lemmas.Int.{ints}
use Rattle.std.specs.Prelude.{slice_index}
use Rattle.wheel_types.specs.declared.channel.Channel.TheVariants.{Crank}
use Rattle.wheel_types.specs.declared.place.Place.{Place}
use Rattle.wheel_types.specs.declared.instant.Instant.{Instant}
use Rattle.wheel_types.specs.declared.verdict.Verdict.{Verdict}
use Rattle.wheel_types.specs.declared.verdict.Verdict.TheVariants.{At, Open, Lost}
use Rattle.wheel_types.specs.declared.parts.WheelParts.{WheelParts}
use Rattle.wheel_types.specs.Edges.{edge_count, edge_slots}
use Rattle.wheel_types.specs.Verdicts.{EndsAt, IsBefore, IsLeast, IsVerdict, IsNextWindow, AreVerdicts}
use Rattle.wheel_types.specs.Starts.{start_of}
use Rattle.wheel_types.proofs.StartsAndEnds.{start_determined}

cams_alike : (a b c d : ℤ) → (a <ℤ b) ⊎ ((a ≡ b) × (c ≤ℤ d)) → (b <ℤ a) ⊎ ((b ≡ a) × (d ≤ℤ c)) → (a ≡ b) × (c ≡ d)
cams_alike a b c d (inl x) (inl y) = absurd (omega (arith, ints, x, y))
cams_alike a b c d (inl x) (inr y) = absurd (omega (arith, ints, x, y.0))
cams_alike a b c d (inr x) (inl y) = absurd (omega (arith, ints, x.0, y))
cams_alike a b c d (inr x) (inr y) = (x.0, omega (arith, ints, x.1, y.1))

places_alike : (i j : ℕ) (a b c d : ℤ) → i ≡ j → (a ≡ b) × (c ≡ d) → ◌≡◌ {A = Place} (record { j = i; n1 = a; n2 = c }) (record { j = j; n1 = b; n2 = d })
places_alike i j a b c d e f = rw (e, f.0, f.1)

-- two places that are each not after the other are one
pub before_both_ways : (p q : Place) → IsBefore p q → IsBefore q p → p ≡ q
before_both_ways p q (inl x) (inl y) = absurd (omega (arith, x, y))
before_both_ways p q (inl x) (inr y) = absurd (omega (arith, x, y.0))
before_both_ways p q (inr x) (inl y) = absurd (omega (arith, x.0, y))
before_both_ways p q (inr x) (inr y) = places_alike p.j q.j p.n1 q.n1 p.n2 q.n2 x.0 (cams_alike p.n1 q.n1 p.n2 q.n2 x.1 y.1)

pub least_once : (P : Place → Type 0) (p q : Place) → IsLeast P p → IsLeast P q → p ≡ q
least_once P p q x y = before_both_ways p q (x.least q y.holds) (y.least p x.holds)

at_alike : (j k s t : ℕ) → j ≡ k → s ≡ t → At j s ≡ At k t
at_alike j k s t e f = rw (e, f)

open_alike : (a b c d : Place) → a ≡ c → b ≡ d → Open a b ≡ Open c d
open_alike a b c d e f = rw (e, f)

-- given instants have one verdict
pub verdict_determined : (w : WheelParts) (past : List Instant) (v u : Verdict) → 0 < edge_count w Crank → IsVerdict w past v → IsVerdict w past u → v ≡ u
verdict_determined w past (At j slot) (At k other) h v u =
    let same : j ≡ k = sym (v.1 v.0.0 v.0.1) ∙ u.1 v.0.0 v.0.1 in
    at_alike j k slot other same (v.2 ∙ ap (slice_index (edge_slots w Crank)) same ∙ sym u.2)
verdict_determined w past (At j slot) (Open a b) h v u = absurd (u.3.holds.1 (v.1 u.1 u.3.holds.0 ∙ sym (v.1 u.0 u.2.holds)))
verdict_determined w past (At j slot) Lost h v u = absurd (u v.0.0 v.0.1)
verdict_determined w past (Open a b) (At j slot) h v u = absurd (v.3.holds.1 (u.1 v.1 v.3.holds.0 ∙ sym (u.1 v.0 v.2.holds)))
verdict_determined w past (Open a b) (Open c d) h v u =
    let first : v.0 ≡ u.0 = least_once (EndsAt w past) v.0 u.0 v.2 u.2 in
    let next : v.1 ≡ u.1 = least_once (λ p. EndsAt w past p × (p.j ≢ u.0.j)) v.1 u.1 (subst (λ (e : Place). IsLeast (λ p. EndsAt w past p × (p.j ≢ e.j)) v.1) first v.3) u.3 in
    open_alike a b c d
    (start_determined w past a v.0 h v.4 ∙ ap (start_of w past) first ∙ sym (start_determined w past c u.0 h u.4))
    (start_determined w past b v.1 h v.5 ∙ ap (start_of w past) next ∙ sym (start_determined w past d u.1 h u.5))
verdict_determined w past (Open a b) Lost h v u = absurd (u v.0 v.2.holds)
verdict_determined w past Lost (At j slot) h v u = absurd (v u.0.0 u.0.1)
verdict_determined w past Lost (Open a b) h v u = absurd (v u.0 u.2.holds)
verdict_determined w past Lost Lost h v u = refl

pub next_window_determined : (w : WheelParts) (i : Instant) (before : List Instant) (v : Verdict) (g h : List Instant) → IsNextWindow w i before v g → IsNextWindow w i before v h → g ≡ h
next_window_determined w i before (At j s) g h a b = a ∙ sym b
next_window_determined w i before (Open c d) g h a b = a ∙ sym b
next_window_determined w i [] Lost g h a b = a ∙ sym b
next_window_determined w i (x ∷ before) Lost g h (inl a) (inl b) = a.1 ∙ sym b.1
next_window_determined w i (x ∷ before) Lost g h (inl a) (inr b) = absurd (b.0 a.0.0 a.0.1)
next_window_determined w i (x ∷ before) Lost g h (inr a) (inl b) = absurd (a.0 b.0.0 b.0.1)
next_window_determined w i (x ∷ before) Lost g h (inr a) (inr b) = a.1 ∙ sym b.1

one_more : (v u : Verdict) (vs us : List Verdict) → v ≡ u → vs ≡ us → v ∷ vs ≡ u ∷ us
one_more v u vs us e f = rw (e, f)

-- given instants have one list of verdicts and lead to one window
pub verdicts_determined : (w : WheelParts) (past : List Instant) (vs us : List Verdict) (g h : List Instant) → 0 < edge_count w Crank → AreVerdicts w past vs g → AreVerdicts w past us h → (vs ≡ us) × (g ≡ h)
verdicts_determined w [] [] [] g h some a b = (refl, a ∙ sym b)
verdicts_determined w [] [] (u ∷ us) g h some a b = absurd b
verdicts_determined w [] (v ∷ vs) us g h some a b = absurd a
verdicts_determined w (i ∷ past) [] us g h some a b = absurd a
verdicts_determined w (i ∷ past) (v ∷ vs) [] g h some a b = absurd b
verdicts_determined w (i ∷ past) (v ∷ vs) (u ∷ us) g h some a b =
    let before : (vs ≡ us) × (a.0 ≡ b.0) = verdicts_determined w past vs us a.0 b.0 some a.1 b.1 in
    let same : v ≡ u = verdict_determined w (i ∷ b.0) v u some (subst (λ r. IsVerdict w (i ∷ r) v) before.1 a.2) b.2 in
    let moved : IsNextWindow w i b.0 u g = subst (λ r. IsNextWindow w i b.0 r g) same (subst (λ r. IsNextWindow w i r v g) before.1 a.3) in
    (one_more v u vs us same before.0, next_window_determined w i b.0 u g h moved b.3)
