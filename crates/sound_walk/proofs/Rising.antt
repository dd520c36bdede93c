-- The instants of a walk's windows rise as all instants do.
use Rattle.std.proofs.Common.{◌≡◌, ℕ, zero, suc, ◌+◌, ◌<◌, Bool, true, false, cond, List, [], ◌∷◌, ◌++◌, length, reverse, get_or, ℤ, ◌<ℤ◌}
use Rattle.std.proofs.Common.{sym, subst, arith, inl, inr}
use Rattle.std.proofs.lemmas.Bool.{cases_lt}
use Rattle.std.proofs.lemmas.List.{reverse-append, get_or_append_left, get_or_push, length_push}
use Rattle.std.specs.Prelude.{◌==◌}
use Rattle.wheel_types.specs.declared.instant.Instant.{Instant}
use Rattle.wheel_types.specs.Verdicts.{AllEarlier, IsRising}
use Rattle.wheel_types.proofs.RisingTimes.{RisesTo}
use Rattle.image_layout.specs.Fields.{entry_at}
use Rattle.image_format.specs.Walk.{Stand, shape_letter, end_state, stand_after}
use Rattle.sound_walk.specs.Windows.{window_next, window_after}

-- one instant more at the end of a list
earlier_push : (t : ℤ) (is : List Instant) (i : Instant) → AllEarlier t is → i.time <ℤ t → AllEarlier t (is ++ i ∷ [])
earlier_push t [] i early lt = (lt, tt)
earlier_push t (x ∷ is) i early lt = (early.0, earlier_push t is i early.1 lt)

earlier_reverse : (t : ℤ) (is : List Instant) → AllEarlier t is → AllEarlier t (reverse is)
earlier_reverse t [] early = tt
earlier_reverse t (i ∷ is) early =
    subst (AllEarlier t) (sym (reverse-append (i ∷ []) is)) (earlier_push t (reverse is) i (earlier_reverse t is early.1) early.0)

earlier_at : (t : ℤ) (is : List Instant) (k : ℕ) (d : Instant) → AllEarlier t is → k < length is → (get_or is k d).time <ℤ t
earlier_at t [] k d early lt = absurd (omega (arith, lt))
earlier_at t (i ∷ is) zero d early lt = early.0
earlier_at t (i ∷ is) (suc k) d early lt = earlier_at t is k d early.1 (omega (arith, lt))

rising_push : (is : List Instant) (i : Instant) → IsRising is → AllEarlier i.time is → IsRising (is ++ i ∷ [])
rising_push is i rise early k d lt = elim (cases_lt (k + 1) (length is)) [
  | inl inside ↦
      rw (get_or_append_left is (i ∷ []) d k (omega (arith, inside)), get_or_append_left is (i ∷ []) d (k + 1) inside) (rise k d inside)
  | inr past ↦
      let long : length (is ++ i ∷ []) ≡ length is + 1 = length_push is i in
      let size : length is ≡ k + 1 = omega (arith, past, lt, long) in
      rw (get_or_append_left is (i ∷ []) d k (omega (arith, size)), get_or_push is i d (k + 1) size)
      (earlier_at i.time is k d early (omega (arith, size)))
]

-- instants of which each is after those before it rise
pub rising_from : (past : List Instant) → RisesTo past → IsRising (reverse past)
rising_from [] rise = λ k d lt. absurd (omega (arith, lt))
rising_from (i ∷ past) rise =
    subst IsRising (sym (reverse-append (i ∷ []) past))
    (rising_push (reverse past) i (rising_from past rise.1) (earlier_reverse i.time past rise.0))

-- what holds of both arms
of_cond : (P : List Instant → Type 0) (v : Bool) (x y : List Instant) → P x → P y → P (cond v x y)
of_cond P true x y px py = px
of_cond P false x y px py = py

abbrev IsWithin : ℤ → List Instant → Type 0
IsWithin t is = AllEarlier t is × RisesTo is

module _ (b : List ℕ) where
  next_within : (s : Stand) (i : Instant) (before : List Instant) (t : ℤ) → i.time <ℤ t → AllEarlier t before
      → IsWithin i.time before → IsWithin t (window_next b s i before)
  next_within s i before t lt early within =
      of_cond (IsWithin t) (end_state b s i == 0) _ _
      (of_cond (IsWithin t) s.started _ _
      (of_cond (IsWithin t) (entry_at b 1 (shape_letter b i) == 0) _ _ (tt, tt) ((lt, tt), (tt, tt)))
      (tt, tt))
      ((lt, early), within)

  window_within : (t : ℤ) (past : List Instant) → AllEarlier t past → RisesTo past → IsWithin t (window_after b past)
  window_within t [] early rise = (tt, tt)
  window_within t (i ∷ past) early rise =
      next_within (stand_after b past) i (window_after b past) t early.0 (window_within t past early.1 rise.1).0
      (window_within i.time past rise.0 rise.1)

  -- an instant is after those of its window
  pub window_rises : (i : Instant) (past : List Instant) → RisesTo (i ∷ past) → RisesTo (i ∷ window_after b past)
  window_rises i past rise = window_within i.time past rise.0 rise.1
