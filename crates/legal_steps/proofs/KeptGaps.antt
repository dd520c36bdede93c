-- Limits on the gaps of the last crank edges.
use Rattle.std.proofs.Common.{◌≡◌, ℕ, ◌+◌, ◌<◌, List, [], ◌∷◌, ℤ, pos, ◌+ℤ◌, ◌-ℤ◌, ◌*ℤ◌, refl, sym, ◌∙◌, ap, subst, arith, take, ◌⊎◌, inl, inr, Bool, true, false}
use Rattle.std.proofs.lemmas.Int.{ints, to_z-of_z}
use Rattle.std.proofs.lemmas.Bool.{false≢true}
use mir.Val.{SFits, to_z, of_z}
use mir.Syntax.{w128}
use Rattle.std.specs.Prelude.{IsTrue, ◌↔◌, Option, Some, None}
use Rattle.wheel_types.specs.declared.channel.Pol.{Pol}
use Rattle.wheel_types.specs.declared.channel.Channel.TheVariants.{Crank}
use Rattle.wheel_types.specs.declared.parts.WheelParts.{WheelParts}
use Rattle.wheel_types.specs.Edges.{edge_count}
use Rattle.wheel_types.specs.Motions.{slots_between, time_between, KeepsSpeed, KeepsRatio}
use Rattle.wheel_types.specs.Steps.{KeepsGaps, KeepsGapsIf}
use Rattle.wheel_types.proofs.Shifted.{later, slots_between-later}
use Rattle.legal_steps.specs.Times.{IsSmall, AreSmall, times_of}
use Rattle.legal_steps.specs.declared.times.CrankTimes.{CrankTimes}
use Rattle.legal_steps.specs.declared.times.CrankTimes.TheVariants.{Once, Twice}

-- the limits look at two earlier crank edges at most
pub gaps_by_two : (w : WheelParts) (m t : ℤ) (ts : List ℤ) → KeepsGaps w m t ts → KeepsGaps w m t (take 2 ts)
gaps_by_two w m t [] k = k
gaps_by_two w m t (u ∷ []) k = k
gaps_by_two w m t (u ∷ v ∷ ts) k = k

pub gaps_from_two : (w : WheelParts) (m t : ℤ) (ts : List ℤ) → KeepsGaps w m t (take 2 ts) → KeepsGaps w m t ts
gaps_from_two w m t [] k = k
gaps_from_two w m t (u ∷ []) k = k
gaps_from_two w m t (u ∷ v ∷ ts) k = k

-- the same where a crank edge is seen
pub gaps_if-by_two : (w : WheelParts) (a : Option Pol) (m t : ℤ) (ts us : List ℤ) → us ≡ take 2 ts → KeepsGapsIf a w m t ts → KeepsGapsIf a w m t us
gaps_if-by_two w None m t ts us e k = tt
gaps_if-by_two w (Some p) m t ts us e k = subst (KeepsGaps w m t) (sym e) (gaps_by_two w m t ts k)

pub gaps_if-from_two : (w : WheelParts) (a : Option Pol) (m t : ℤ) (ts us : List ℤ) → us ≡ take 2 ts → KeepsGapsIf a w m t us → KeepsGapsIf a w m t ts
gaps_if-from_two w None m t ts us e k = tt
gaps_if-from_two w (Some p) m t ts us e k = gaps_from_two w m t ts (subst (KeepsGaps w m t) e k)

-- the gap before a position, of the edge before it or of the last one of the cycle before
pub gap_before : (w : WheelParts) → 0 < edge_count w Crank → (b j : ℕ) → (b + 1 ≡ j) ⊎ ((j ≡ 0) × (b + 1 ≡ edge_count w Crank)) → slots_between w (pos b) (pos (b + 1)) ≡ slots_between w ((pos (j + 1) -ℤ pos 1) -ℤ pos 1) (pos (j + 1) -ℤ pos 1)
gap_before w some b j (inl e) =
    let m = back b j e in
    ap (λ z. slots_between w z (pos (b + 1))) m.0 ∙ ap (slots_between w ((pos (j + 1) -ℤ pos 1) -ℤ pos 1)) m.1
  where
    back : (b j : ℕ) → b + 1 ≡ j → (pos b ≡ (pos (j + 1) -ℤ pos 1) -ℤ pos 1) × (pos (b + 1) ≡ pos (j + 1) -ℤ pos 1)
    back b j e = (omega (arith, ints, e), omega (arith, ints, e))
gap_before w some b j (inr (e, f)) =
    let m = once b j (edge_count w Crank) e f in
    let low = (pos (j + 1) -ℤ pos 1) -ℤ pos 1 in
    let high = pos (j + 1) -ℤ pos 1 in
    ap (λ z. slots_between w z (pos (b + 1))) (sym m.0) ∙ ap (slots_between w (later w (pos 1) Crank low)) (sym m.1) ∙ slots_between-later w (pos 1) low high some
  where
    once : (b j count : ℕ) → j ≡ 0 → b + 1 ≡ count → (((pos (j + 1) -ℤ pos 1) -ℤ pos 1) +ℤ pos 1 *ℤ pos count ≡ pos b) × ((pos (j + 1) -ℤ pos 1) +ℤ pos 1 *ℤ pos count ≡ pos (b + 1))
    once b j count e f = (omega (arith, ints, e, f), omega (arith, ints, e, f))

pub one_less : (j : ℕ) → pos (j + 1) -ℤ pos 1 ≡ pos j
one_less j = omega (arith, ints)

pub gap_at : (w : WheelParts) (j : ℕ) → slots_between w (pos j) (pos (j + 1)) ≡ slots_between w (pos (j + 1) -ℤ pos 1) (pos (j + 1))
gap_at w j = ap (λ z. slots_between w z (pos (j + 1))) (sym (one_less j))

-- the limits after one crank edge, and after two
pub once_kept : (w : WheelParts) (j : ℕ) (t last : ℤ) (times : CrankTimes) (r : Bool) → times ≡ Once last → IsTrue r ↔ KeepsSpeed w (slots_between w (pos j) (pos (j + 1))) (time_between last t) → IsTrue r ↔ KeepsGaps w (pos (j + 1)) t (times_of times)
once_kept w j t last times r e h =
    let P : CrankTimes → Type 0 = λ c. IsTrue r ↔ KeepsGaps w (pos (j + 1)) t (times_of c) in
    let Q : ℕ → Type 0 = λ s. IsTrue r ↔ KeepsSpeed w s (time_between last t) in
    subst P (sym e) (subst Q (gap_at w j) h)

pub twice_kept : (w : WheelParts) (j : ℕ) (t last before : ℤ) (times : CrankTimes) (r s : Bool) → times ≡ Twice last before → IsTrue r ↔ KeepsSpeed w (slots_between w (pos j) (pos (j + 1))) (time_between last t) → IsTrue s ↔ KeepsRatio w (slots_between w ((pos (j + 1) -ℤ pos 1) -ℤ pos 1) (pos (j + 1) -ℤ pos 1)) (time_between before last) (slots_between w (pos j) (pos (j + 1))) (time_between last t) → (IsTrue r × IsTrue s) ↔ KeepsGaps w (pos (j + 1)) t (times_of times)
twice_kept w j t last before times r s e h k =
    let P : CrankTimes → Type 0 = λ c. (IsTrue r × IsTrue s) ↔ KeepsGaps w (pos (j + 1)) t (times_of c) in
    let Q : ℕ → Type 0 = λ n. IsTrue r ↔ KeepsSpeed w n (time_between last t) in
    let R : ℕ → Type 0 = λ n. IsTrue s ↔ KeepsRatio w (slots_between w ((pos (j + 1) -ℤ pos 1) -ℤ pos 1) (pos (j + 1) -ℤ pos 1)) (time_between before last) n (time_between last t) in
    let speed : Q (slots_between w (pos (j + 1) -ℤ pos 1) (pos (j + 1))) = subst Q (gap_at w j) h in
    let ratio : R (slots_between w (pos (j + 1) -ℤ pos 1) (pos (j + 1))) = subst R (gap_at w j) k in
    subst P (sym e) ((λ a. (speed.0 a.0, ratio.0 a.1)), (λ a. (speed.1 a.0, ratio.1 a.1)))

pub small_fits : (t : ℤ) → IsSmall t → SFits w128 t
small_fits t h = omega (arith, ints)

pub small_same : (t : ℤ) → IsSmall t → to_z w128 (of_z w128 t) ≡ t
small_same t h = to_z-of_z w128 t (small_fits t h)

abbrev wide : ℤ → ℤ
wide t = to_z w128 (of_z w128 t)

pub same_apart : (a b : ℤ) (n : ℕ) → IsSmall a → IsSmall b → n ≡ time_between (to_z w128 (of_z w128 a)) (to_z w128 (of_z w128 b)) → n ≡ time_between a b
same_apart a b n h k e = e ∙ ap (λ z. time_between z (wide b)) (small_same a h) ∙ ap (time_between a) (small_same b k)

pub speed_along : (w : WheelParts) (r : Bool) (s t u v : ℕ) → s ≡ u → t ≡ v → IsTrue r ↔ KeepsSpeed w s t → IsTrue r ↔ KeepsSpeed w u v
speed_along w r s t u v e f h = subst (λ n. IsTrue r ↔ KeepsSpeed w u n) f (subst (λ n. IsTrue r ↔ KeepsSpeed w n t) e h)

pub ratio_along : (w : WheelParts) (r : Bool) (s0 t0 s1 t1 u0 v0 u1 v1 : ℕ) → s0 ≡ u0 → t0 ≡ v0 → s1 ≡ u1 → t1 ≡ v1 → IsTrue r ↔ KeepsRatio w s0 t0 s1 t1 → IsTrue r ↔ KeepsRatio w u0 v0 u1 v1
ratio_along w r s0 t0 s1 t1 u0 v0 u1 v1 a b c d h = subst (λ n. IsTrue r ↔ KeepsRatio w u0 v0 u1 n) d (subst (λ n. IsTrue r ↔ KeepsRatio w u0 v0 n t1) c (subst (λ n. IsTrue r ↔ KeepsRatio w u0 n s1 t1) b (subst (λ n. IsTrue r ↔ KeepsRatio w n t0 s1 t1) a h)))

apart_small : (a b : ℤ) → IsSmall a → IsSmall b → time_between (to_z w128 (of_z w128 a)) (to_z w128 (of_z w128 b)) ≡ time_between a b
apart_small a b h k = ap (λ z. time_between z (wide b)) (small_same a h) ∙ ap (time_between a) (small_same b k)

pub speed_small : (w : WheelParts) (r : Bool) (s : ℕ) (a b : ℤ) → IsSmall a → IsSmall b → IsTrue r ↔ KeepsSpeed w s (time_between (to_z w128 (of_z w128 a)) (to_z w128 (of_z w128 b))) → IsTrue r ↔ KeepsSpeed w s (time_between a b)
speed_small w r s a b h k i = speed_along w r s _ s _ refl (apart_small a b h k) i

pub ratio_small : (w : WheelParts) (r : Bool) (s u : ℕ) (a b c : ℤ) → IsSmall a → IsSmall b → IsSmall c → IsTrue r ↔ KeepsRatio w s (time_between (to_z w128 (of_z w128 a)) (to_z w128 (of_z w128 b))) u (time_between (to_z w128 (of_z w128 b)) (to_z w128 (of_z w128 c))) → IsTrue r ↔ KeepsRatio w s (time_between a b) u (time_between b c)
ratio_small w r s u a b c h k l i = ratio_along w r s _ u _ s _ u _ refl (apart_small a b h k) refl (apart_small b c k l) i

pub small_once : (times : CrankTimes) (last : ℤ) → times ≡ Once last → AreSmall times → IsSmall last
small_once times last e h = subst AreSmall e h 0 last (omega arith)

pub small_twice : (times : CrankTimes) (last before : ℤ) → times ≡ Twice last before → AreSmall times → IsSmall last × IsSmall before
small_twice times last before e h = let k = subst AreSmall e h in (k 0 last (omega arith), k 1 last (omega arith))

-- both tests, the second made where the first holds
pub both_then : (r s : Bool) (R : Type 0) → r ≡ true → (IsTrue r × IsTrue s) ↔ R → IsTrue s ↔ R
both_then r s R e h = (λ k. h.0 (e, k), λ k. (h.1 k).1)

pub twice_lost : (w : WheelParts) (j : ℕ) (t last before : ℤ) (times : CrankTimes) (r : Bool) → times ≡ Twice last before → r ≡ false → IsTrue r ↔ KeepsSpeed w (slots_between w (pos j) (pos (j + 1))) (time_between last t) → IsTrue r ↔ KeepsGaps w (pos (j + 1)) t (times_of times)
twice_lost w j t last before times r e f h =
    let P : CrankTimes → Type 0 = λ c. KeepsGaps w (pos (j + 1)) t (times_of c) → IsTrue r in
    let Q : ℕ → Type 0 = λ n. KeepsSpeed w n (time_between last t) → IsTrue r in
    let speed : Q (slots_between w (pos (j + 1) -ℤ pos 1) (pos (j + 1))) = subst Q (gap_at w j) h.1 in
    (λ k. absurd (false≢true (sym f ∙ k)), subst P (sym e) (λ g. speed g.0))
