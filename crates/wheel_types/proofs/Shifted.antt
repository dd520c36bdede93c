-- Everything said of indices is said of them whole cycles later.
use Rattle.std.proofs.Common.{◌≡◌, ℕ, ◌+◌, ◌*◌, ◌<◌, List, [], ◌∷◌, ℤ, pos, ◌+ℤ◌, ◌-ℤ◌, ◌*ℤ◌, ◌≤ℤ◌, neg_ℤ, refl, sym, ◌∙◌, ap, subst, arith}
use Rattle.std.proofs.lemmas.Int.{ints}
use Rattle.std.proofs.Math.IntN.{*ℤ_comm, *ℤ-zero, zero-*ℤ}
use Rattle.std.specs.Prelude.{slice_index, unsigned_abs, Option, Some, None}
use Rattle.wheel_types.specs.declared.channel.Channel.{Channel}
use Rattle.wheel_types.specs.declared.channel.Pol.{Pol}
use Rattle.wheel_types.specs.declared.channel.Channel.TheVariants.{Crank, Cam1, Cam2}
use Rattle.wheel_types.specs.declared.parts.WheelParts.{WheelParts}
use Rattle.wheel_types.specs.declared.place.Place.{Place}
use Rattle.wheel_types.specs.declared.instant.Instant.{Instant}
use Rattle.wheel_types.specs.Edges.{edge_count, edge_slots, slot_count, slot_of, angle_of, pol_of, pol_to, level_of, number_of, cycle_of, first_angle, last_angle, early_of, late_of}
use Rattle.wheel_types.specs.Motions.{Indices, index_of, passed, Stands, CamStands, Event, slots_between, KeepsSpeed, KeepsRatio, time_between}
use Rattle.wheel_types.specs.Verdicts.{place_of}
use Rattle.wheel_types.specs.Steps.{Walks, Steps, indices_of, KeepsGaps, KeepsGapsIf, crank_times}
use Rattle.wheel_types.proofs.Unrolled.{number_of-cycles, cycle_of-cycles, carried, distribute}

-- m, whole cycles of the channel later
abbrev pub later : WheelParts → ℤ → Channel → ℤ → ℤ
later w k c m = m +ℤ k *ℤ pos (edge_count w c)

-- the slots of whole cycles
abbrev pub turn : WheelParts → ℤ → ℤ
turn w k = k *ℤ pos (slot_count w)

regroup : (a b c : ℤ) → (a +ℤ b) +ℤ c ≡ (a +ℤ c) +ℤ b
regroup a b c = omega (arith, ints)

pub slot_of-later : (w : WheelParts) (k : ℤ) (c : Channel) (m : ℤ) → 0 < edge_count w c → slot_of w c (later w k c m) ≡ slot_of w c m +ℤ turn w k
slot_of-later w k c m h =
    let count = edge_count w c in
    let at = slice_index (edge_slots w c) in
    ap (λ r. cycle_of count (later w k c m) *ℤ pos (slot_count w) +ℤ pos (at r)) (number_of-cycles count m k h)
    ∙ ap (λ q. q *ℤ pos (slot_count w) +ℤ pos (at (number_of count m))) (cycle_of-cycles count m k h)
    ∙ ap (λ z. z +ℤ pos (at (number_of count m))) (distribute (cycle_of count m) k (slot_count w))
    ∙ regroup (cycle_of count m *ℤ pos (slot_count w)) (turn w k) (pos (at (number_of count m)))

pub pol_of-later : (w : WheelParts) (k : ℤ) (c : Channel) (m : ℤ) → 0 < edge_count w c → pol_of w c (later w k c m) ≡ pol_of w c m
pol_of-later w k c m h = ap (λ r. pol_to (level_of w c (slice_index (edge_slots w c) r))) (number_of-cycles (edge_count w c) m k h)

-- an angle, whole cycles later
abbrev pub turned : WheelParts → ℤ → ℤ → ℤ
turned w k x = x +ℤ turn w k *ℤ pos (1000 * w.degrees)

pub angle_of-later : (w : WheelParts) (k : ℤ) (c : Channel) (m : ℤ) → 0 < edge_count w c → angle_of w c (later w k c m) ≡ turned w k (angle_of w c m)
angle_of-later w k c m h =
    let d = pos (1000 * w.degrees) in
    ap (λ z. d *ℤ z) (slot_of-later w k c m h)
    ∙ *ℤ_comm d (slot_of w c m +ℤ turn w k)
    ∙ distribute (slot_of w c m) (turn w k) (1000 * w.degrees)
    ∙ ap (λ z. z +ℤ turn w k *ℤ d) (*ℤ_comm (slot_of w c m) d)

slots_apart : (a b t : ℤ) → unsigned_abs ((b +ℤ t) -ℤ (a +ℤ t)) ≡ unsigned_abs (b -ℤ a)
slots_apart a b t =
    let same : (b +ℤ t) -ℤ (a +ℤ t) ≡ b -ℤ a = omega (arith, ints) in
    ap unsigned_abs same

pub slots_between-later : (w : WheelParts) (k : ℤ) (m n : ℤ) → 0 < edge_count w Crank → slots_between w (later w k Crank m) (later w k Crank n) ≡ slots_between w m n
slots_between-later w k m n h =
    ap (λ z. unsigned_abs (slot_of w Crank (later w k Crank n) -ℤ z)) (slot_of-later w k Crank m h)
    ∙ ap (λ z. unsigned_abs (z -ℤ (slot_of w Crank m +ℤ turn w k))) (slot_of-later w k Crank n h)
    ∙ slots_apart (slot_of w Crank m) (slot_of w Crank n) (turn w k)

-- indices, whole cycles later
abbrev pub shifted : WheelParts → ℤ → Indices → Indices
shifted w k ix = record { crank = later w k Crank ix.crank; cam1 = later w k Cam1 ix.cam1; cam2 = later w k Cam2 ix.cam2 }

pub index_of-shifted : (w : WheelParts) (k : ℤ) (ix : Indices) (c : Channel) → index_of (shifted w k ix) c ≡ later w k c (index_of ix c)
index_of-shifted w k ix Crank = refl
index_of-shifted w k ix Cam1 = refl
index_of-shifted w k ix Cam2 = refl

one_later : (m t : ℤ) → (m +ℤ t) +ℤ pos 1 ≡ (m +ℤ pos 1) +ℤ t
one_later m t = omega (arith, ints)

one_before : (m t : ℤ) → (m +ℤ t) -ℤ pos 1 ≡ (m -ℤ pos 1) +ℤ t
one_before m t = omega (arith, ints)

pub passed-shifted : (w : WheelParts) (k : ℤ) (c : Channel) (ix : Indices) → passed c (shifted w k ix) ≡ shifted w k (passed c ix)
passed-shifted w k Crank ix = ap (λ z. record { crank = z; cam1 = later w k Cam1 ix.cam1; cam2 = later w k Cam2 ix.cam2 }) (one_later ix.crank (k *ℤ pos (edge_count w Crank)))
passed-shifted w k Cam1 ix = ap (λ z. record { crank = later w k Crank ix.crank; cam1 = z; cam2 = later w k Cam2 ix.cam2 }) (one_later ix.cam1 (k *ℤ pos (edge_count w Cam1)))
passed-shifted w k Cam2 ix = ap (λ z. record { crank = later w k Crank ix.crank; cam1 = later w k Cam1 ix.cam1; cam2 = z }) (one_later ix.cam2 (k *ℤ pos (edge_count w Cam2)))

le_turned : (x y t : ℤ) → x ≤ℤ y → (x +ℤ t) ≤ℤ (y +ℤ t)
le_turned x y t h = omega (arith, ints)

low_turned : (a t e : ℤ) → (a +ℤ t) -ℤ e ≡ (a -ℤ e) +ℤ t
low_turned a t e = omega (arith, ints)

high_turned : (a t e : ℤ) → (a +ℤ t) +ℤ e ≡ (a +ℤ e) +ℤ t
high_turned a t e = omega (arith, ints)

zero_times : (k : ℤ) (n : ℕ) → n ≡ 0 → k *ℤ pos n ≡ pos 0
zero_times k n e = rw e (*ℤ-zero k)

cam_stands-later : (w : WheelParts) (k : ℤ) (c : Channel) (n x : ℤ) → CamStands w c n x → CamStands w c (later w k c n) (turned w k x)
cam_stands-later w k c n x s =
    let t = turn w k *ℤ pos (1000 * w.degrees) in
    record {
      absent = λ none. ap (λ z. z +ℤ k *ℤ pos (edge_count w c)) (s.absent none) ∙ ap (λ z. pos 0 +ℤ z) (zero_times k (edge_count w c) none);
      behind = λ some.
          let edge : first_angle w c (later w k c n -ℤ pos 1) ≡ turned w k (first_angle w c (n -ℤ pos 1)) =
          ap (first_angle w c) (one_before n (k *ℤ pos (edge_count w c))) ∙ ap (λ z. z -ℤ pos (early_of w c * slot_count w)) (angle_of-later w k c (n -ℤ pos 1) some) ∙ low_turned (angle_of w c (n -ℤ pos 1)) t (pos (early_of w c * slot_count w)) in
          subst (λ z. z ≤ℤ turned w k x) (sym edge) (le_turned _ _ t (s.behind some));
      ahead = λ some.
          let edge : last_angle w c (later w k c n) ≡ turned w k (last_angle w c n) =
          ap (λ z. z +ℤ pos (late_of w c * slot_count w)) (angle_of-later w k c n some) ∙ high_turned (angle_of w c n) t (pos (late_of w c * slot_count w)) in
          subst (λ z. turned w k x ≤ℤ z) (sym edge) (le_turned _ _ t (s.ahead some));
    }

pub stands-later : (w : WheelParts) (k : ℤ) (x : ℤ) (ix : Indices) → 0 < edge_count w Crank → Stands w x ix → Stands w (turned w k x) (shifted w k ix)
stands-later w k x ix h s =
    let t = turn w k *ℤ pos (1000 * w.degrees) in
    let back : angle_of w Crank (later w k Crank ix.crank -ℤ pos 1) ≡ turned w k (angle_of w Crank (ix.crank -ℤ pos 1)) =
    ap (angle_of w Crank) (one_before ix.crank (k *ℤ pos (edge_count w Crank))) ∙ angle_of-later w k Crank (ix.crank -ℤ pos 1) h in
    record {
      behind = subst (λ z. z ≤ℤ turned w k x) (sym back) (le_turned _ _ t s.behind);
      ahead = subst (λ z. turned w k x ≤ℤ z) (sym (angle_of-later w k Crank ix.crank h)) (le_turned _ _ t s.ahead);
      cam1 = cam_stands-later w k Cam1 ix.cam1 x s.cam1;
      cam2 = cam_stands-later w k Cam2 ix.cam2 x s.cam2;
    }

pub walks-later : (w : WheelParts) (k : ℤ) (from : Indices) (es : List Event) (to : Indices) → 0 < edge_count w Crank → Walks w from es to → Walks w (shifted w k from) es (shifted w k to)
walks-later w k from [] to h e = ap (shifted w k) e
walks-later w k from (e ∷ es) to h s =
    let c = e.channel in
    let pol : pol_of w c (index_of (shifted w k s.0) c) ≡ e.polarity = ap (pol_of w c) (index_of-shifted w k s.0 c) ∙ pol_of-later w k c (index_of s.0 c) s.2 ∙ s.3 in
    (shifted w k s.0, walks-later w k from es s.0 h s.1, s.2, pol, (turned w k s.4.0, stands-later w k s.4.0 to h s.4.1), ap (shifted w k) s.5 ∙ sym (passed-shifted w k c s.0))

gap-later : (w : WheelParts) (k m : ℤ) → 0 < edge_count w Crank → slots_between w (later w k Crank m -ℤ pos 1) (later w k Crank m) ≡ slots_between w (m -ℤ pos 1) m
gap-later w k m h = ap (λ z. slots_between w z (later w k Crank m)) (one_before m (k *ℤ pos (edge_count w Crank))) ∙ slots_between-later w k (m -ℤ pos 1) m h

gap_before-later : (w : WheelParts) (k m : ℤ) → 0 < edge_count w Crank → slots_between w ((later w k Crank m -ℤ pos 1) -ℤ pos 1) (later w k Crank m -ℤ pos 1) ≡ slots_between w ((m -ℤ pos 1) -ℤ pos 1) (m -ℤ pos 1)
gap_before-later w k m h = ap (λ z. slots_between w (z -ℤ pos 1) z) (one_before m (k *ℤ pos (edge_count w Crank))) ∙ gap-later w k (m -ℤ pos 1) h

pub gaps-later : (w : WheelParts) (k m t : ℤ) (ts : List ℤ) → 0 < edge_count w Crank → KeepsGaps w m t ts → KeepsGaps w (later w k Crank m) t ts
gaps-later w k m t [] h g = tt
gaps-later w k m t (u ∷ []) h g = subst (λ s. KeepsSpeed w s (time_between u t)) (sym (gap-later w k m h)) g
gaps-later w k m t (u ∷ v ∷ ts) h g = (
  subst (λ s. KeepsSpeed w s (time_between u t)) (sym (gap-later w k m h)) g.0,
  subst (λ s. KeepsRatio w s (time_between v u) (slots_between w (later w k Crank m -ℤ pos 1) (later w k Crank m)) (time_between u t)) (sym (gap_before-later w k m h)) (subst (λ s. KeepsRatio w (slots_between w ((m -ℤ pos 1) -ℤ pos 1) (m -ℤ pos 1)) (time_between v u) s (time_between u t)) (sym (gap-later w k m h)) g.1),
)

gaps_if-later : (a : Option Pol) (w : WheelParts) (k m t : ℤ) (ts : List ℤ) → 0 < edge_count w Crank → KeepsGapsIf a w m t ts → KeepsGapsIf a w (later w k Crank m) t ts
gaps_if-later None w k m t ts h g = tt
gaps_if-later (Some pol) w k m t ts h g = gaps-later w k m t ts h g

pub steps-later : (w : WheelParts) (k : ℤ) (past : List Instant) (from : Indices) (i : Instant) (to : Indices) → 0 < edge_count w Crank → Steps w past from i to → Steps w past (shifted w k from) i (shifted w k to)
steps-later w k past from i to h s = record {
  order = s.order;
  is_order = s.is_order;
  walks = walks-later w k from s.order to h s.walks;
  gaps = gaps_if-later i.crank w k from.crank i.time (crank_times past) h s.gaps;
}

-- back again
undone : (m q : ℤ) (n : ℕ) → (m +ℤ q *ℤ pos n) +ℤ neg_ℤ q *ℤ pos n ≡ m
undone m q n =
    let none : q +ℤ neg_ℤ q ≡ pos 0 = omega (arith, ints) in
    let both : q *ℤ pos n +ℤ neg_ℤ q *ℤ pos n ≡ pos 0 = sym (distribute q (neg_ℤ q) n) ∙ ap (λ z. z *ℤ pos n) none ∙ zero-*ℤ (pos n) in
    omega (arith, ints, both)

same_indices : (a b c d e f : ℤ) → a ≡ d → b ≡ e → c ≡ f → ◌≡◌ {A = Indices} (record { crank = a; cam1 = b; cam2 = c }) (record { crank = d; cam1 = e; cam2 = f })
same_indices a b c d e f p q r = rw (p, q, r)

pub shifted_back : (w : WheelParts) (k : ℤ) (ix : Indices) → shifted w (neg_ℤ k) (shifted w k ix) ≡ ix
shifted_back w k ix = same_indices _ _ _ _ _ _ (undone ix.crank k (edge_count w Crank)) (undone ix.cam1 k (edge_count w Cam1)) (undone ix.cam2 k (edge_count w Cam2))

same_place : (a d : ℕ) (b c e f : ℤ) → a ≡ d → b ≡ e → c ≡ f → ◌≡◌ {A = Place} (record { j = a; n1 = b; n2 = c }) (record { j = d; n1 = e; n2 = f })
same_place a d b c e f p q r = rw (p, q, r)

cam_carried : (n k q : ℤ) (count : ℕ) → (n +ℤ k *ℤ pos count) -ℤ (q +ℤ k) *ℤ pos count ≡ n -ℤ q *ℤ pos count
cam_carried n k q count = rw (distribute q k count) (omega (arith, ints))

-- indices have the place that they have whole cycles later
pub place_of-shifted : (w : WheelParts) (k : ℤ) (ix : Indices) → 0 < edge_count w Crank → place_of w (shifted w k ix) ≡ place_of w ix
place_of-shifted w k ix h =
    let count = edge_count w Crank in
    let back = one_before ix.crank (k *ℤ pos count) in
    let cycle : cycle_of count (later w k Crank ix.crank -ℤ pos 1) ≡ cycle_of count (ix.crank -ℤ pos 1) +ℤ k = ap (cycle_of count) back ∙ cycle_of-cycles count (ix.crank -ℤ pos 1) k h in
    same_place _ _ _ _ _ _ (ap (number_of count) back ∙ number_of-cycles count (ix.crank -ℤ pos 1) k h)
    (ap (λ z. later w k Cam1 ix.cam1 -ℤ z *ℤ pos (edge_count w Cam1)) cycle ∙ cam_carried ix.cam1 k (cycle_of count (ix.crank -ℤ pos 1)) (edge_count w Cam1))
    (ap (λ z. later w k Cam2 ix.cam2 -ℤ z *ℤ pos (edge_count w Cam2)) cycle ∙ cam_carried ix.cam2 k (cycle_of count (ix.crank -ℤ pos 1)) (edge_count w Cam2))

crank_back : (m z : ℤ) (r : ℕ) → m -ℤ pos 1 ≡ z +ℤ pos r → pos (r + 1) +ℤ z ≡ m
crank_back m z r e = omega (arith, ints, e)

cam_back : (n z : ℤ) → (n -ℤ z) +ℤ z ≡ n
cam_back n z = omega (arith, ints)

-- the cycle that indices are in
abbrev pub cycle_at : WheelParts → Indices → ℤ
cycle_at w ix = cycle_of (edge_count w Crank) (ix.crank -ℤ pos 1)

-- indices are those of their place, whole cycles later
pub of_place : (w : WheelParts) (ix : Indices) → 0 < edge_count w Crank → shifted w (cycle_at w ix) (indices_of (place_of w ix)) ≡ ix
of_place w ix h =
    let count = edge_count w Crank in
    same_indices _ _ _ _ _ _ (crank_back ix.crank (cycle_at w ix *ℤ pos count) (number_of count (ix.crank -ℤ pos 1)) (carried count (ix.crank -ℤ pos 1) h))
    (cam_back ix.cam1 (cycle_at w ix *ℤ pos (edge_count w Cam1)))
    (cam_back ix.cam2 (cycle_at w ix *ℤ pos (edge_count w Cam2)))

pub to_place : (w : WheelParts) (ix : Indices) → 0 < edge_count w Crank → shifted w (neg_ℤ (cycle_at w ix)) ix ≡ indices_of (place_of w ix)
to_place w ix h = ap (shifted w (neg_ℤ (cycle_at w ix))) (sym (of_place w ix h)) ∙ shifted_back w (cycle_at w ix) (indices_of (place_of w ix))
