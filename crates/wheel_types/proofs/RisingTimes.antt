-- Instants whose times rise are each before the next.
use Rattle.std.proofs.Common.{◌≡◌, ℕ, suc, ◌+◌, List, [], ◌∷◌, ◌++◌, reverse, ℤ, ◌<ℤ◌, sym, subst, arith}
use Rattle.std.proofs.lemmas.Int.{ints}
use Rattle.std.proofs.lemmas.List.{reverse-append}
use Rattle.std.specs.Prelude.{⊤, slice_index_or}
use Rattle.std.specs.List.{AllByRecursion}
use Rattle.wheel_types.specs.declared.instant.Instant.{Instant}
use Rattle.wheel_types.specs.Verdicts.{AllEarlier, IsRising}

-- each of the instants, the last first, is after all those before it
abbrev pub RisesTo : List Instant → Type 0
RisesTo [] = ⊤
RisesTo (i ∷ past) = AllEarlier i.time past × RisesTo past

before : (t u v : ℤ) → t <ℤ u → u <ℤ v → t <ℤ v
before t u v h k = omega (arith, ints)

-- instants that are before a time are before a later one
pub earlier_later : (t u : ℤ) (past : List Instant) → t <ℤ u → AllEarlier t past → AllEarlier u past
earlier_later t u [] h e = tt
earlier_later t u (i ∷ past) h e = (before i.time t u e.0 h, earlier_later t u past h e.1)

-- where the last is before a time, all are
pub earlier_than_last : (t : ℤ) (i : Instant) (past : List Instant) → RisesTo (i ∷ past) → i.time <ℤ t → AllEarlier t (i ∷ past)
earlier_than_last t i past r h = (h, earlier_later i.time t past h r.0)

-- the instant is before each of these
abbrev AllLater : Instant → List Instant → Type 0
AllLater x is = AllByRecursion (λ (i : Instant). x.time <ℤ i.time) is

later_earlier : (x y : Instant) (is : List Instant) → x.time <ℤ y.time → AllLater y is → AllLater x is
later_earlier x y [] h l = tt
later_earlier x y (i ∷ is) h l = (before x.time y.time i.time h l.0, later_earlier x y is h l.1)

rising_after : (x : Instant) (is : List Instant) → IsRising (x ∷ is) → IsRising is
rising_after x is r k d h =
    let P : ℕ → ℕ → Type 0 = λ m n. (slice_index_or (x ∷ is) m d).time <ℤ (slice_index_or (x ∷ is) n d).time in
    let there : P (k + 1) (k + 1 + 1) = r (k + 1) d (omega (arith, h)) in
    let left : k + 1 ≡ suc k = omega arith in
    let right : k + 1 + 1 ≡ suc (k + 1) = omega arith in
    subst (λ n. P (suc k) n) right (subst (λ m. P m (k + 1 + 1)) left there)

all_later : (x : Instant) (is : List Instant) → IsRising (x ∷ is) → AllLater x is
all_later x [] r = tt
all_later x (y ∷ is) r =
    let next : x.time <ℤ y.time = r 0 x (omega arith) in
    (next, later_earlier x y is next (all_later y is (rising_after x (y ∷ is) r)))

later_append : (x : Instant) (is js : List Instant) → AllLater x is → AllLater x js → AllLater x (is ++ js)
later_append x [] js h k = k
later_append x (i ∷ is) js h k = (h.0, later_append x is js h.1 k)

later_reverse : (x : Instant) (is : List Instant) → AllLater x is → AllLater x (reverse is)
later_reverse x [] h = tt
later_reverse x (i ∷ is) h = subst (AllLater x) (sym (reverse-append (i ∷ []) is)) (later_append x (reverse is) (i ∷ []) (later_reverse x is h.1) (h.0, tt))

earlier_append : (t : ℤ) (is js : List Instant) → AllEarlier t is → AllEarlier t js → AllEarlier t (is ++ js)
earlier_append t [] js h k = k
earlier_append t (i ∷ is) js h k = (h.0, earlier_append t is js h.1 k)

rises_append : (x : Instant) (is : List Instant) → RisesTo is → AllLater x is → RisesTo (is ++ x ∷ [])
rises_append x [] r l = (tt, tt)
rises_append x (i ∷ is) r l = (earlier_append i.time is (x ∷ []) r.0 (l.0, tt), rises_append x is r.1 l.1)

-- instants whose times rise, from the last one on
pub rises_to-reverse : (is : List Instant) → IsRising is → RisesTo (reverse is)
rises_to-reverse [] r = tt
rises_to-reverse (x ∷ is) r = subst RisesTo (sym (reverse-append (x ∷ []) is)) (rises_append x (reverse is) (rises_to-reverse is (rising_after x is r)) (later_reverse x is (all_later x is r)))
