-- Each wheel has a place: at the end of the first cycle the engine stands with the first edges of the second one next.
use Rattle.std.proofs.Common.{◌≡◌, ℕ, ◌+◌, ◌-◌, ◌*◌, ◌<◌, ℤ, pos, ◌+ℤ◌, ◌-ℤ◌, ◌*ℤ◌, ◌≤ℤ◌, refl, sym, ap, subst, arith}
use Rattle.std.proofs.lemmas.Int.{ints}
use Rattle.wheel_types.specs.declared.channel.Channel.{Channel}
use Rattle.wheel_types.specs.declared.channel.Channel.TheVariants.{Crank, Cam1, Cam2}
use Rattle.wheel_types.specs.declared.place.Place.{Place}
use Rattle.wheel_types.specs.declared.parts.WheelParts.{WheelParts}
use Rattle.wheel_types.specs.Edges.{edge_count, slot_count, slot_of, angle_of, early_of, late_of}
use Rattle.wheel_types.specs.Motions.{CamStands}
use Rattle.edge_angles.proofs.Tables.{slot_in, slot_after, slot_within}
use Rattle.cam_ranges.specs.Laws.{WheelsHavePlaces}
use Rattle.cam_ranges.proofs.Ceilings.{times_rise}

-- the angle at which the first cycle ends
abbrev cycle_end : WheelParts → ℤ
cycle_end w = pos (1000 * w.degrees) *ℤ pos (slot_count w)

-- the slot of the edge after the last of a cycle is none of this cycle
after : (z : ℤ) (n a : ℕ) → z ≡ pos (n + a) → pos n ≤ℤ z
after z n a e = omega (arith, ints, e)

-- that of the last is one
within : (z : ℤ) (n a : ℕ) → z ≡ pos a → a < n → z ≤ℤ pos n
within z n a e h = omega (arith, ints, e)

-- the edge before the first of the second cycle is the last of the first
last : (n : ℕ) → 0 < n → pos n -ℤ pos 1 ≡ pos (n - 1)
last n h = omega (arith, ints)

-- the first edge of the second cycle does not fall before the first cycle ends
ahead : (w : WheelParts) (c : Channel) → 0 < edge_count w c → cycle_end w ≤ℤ angle_of w c (pos (edge_count w c))
ahead w c some = times_rise (pos (slot_count w)) (slot_of w c (pos (edge_count w c))) (1000 * w.degrees) (after _ (slot_count w) _ (slot_after w c (edge_count w c) some refl))

-- and the last edge of the first cycle not after it
behind : (w : WheelParts) (c : Channel) → 0 < edge_count w c → angle_of w c (pos (edge_count w c) -ℤ pos 1) ≤ℤ cycle_end w
behind w c some =
    let low : edge_count w c - 1 < edge_count w c = omega (arith, some) in
    let at : slot_of w c (pos (edge_count w c) -ℤ pos 1) ≤ℤ pos (slot_count w) =
    subst (λ m. slot_of w c m ≤ℤ pos (slot_count w)) (sym (last (edge_count w c) some)) (within _ (slot_count w) _ (slot_in w c (edge_count w c - 1) low) (slot_within w c (edge_count w c - 1) low)) in
    times_rise (slot_of w c (pos (edge_count w c) -ℤ pos 1)) (pos (slot_count w)) (1000 * w.degrees) at

-- an edge may fall earlier, and later
earlier : (a x : ℤ) (k : ℕ) → a ≤ℤ x → (a -ℤ pos k) ≤ℤ x
earlier a x k h = omega (arith, ints)

later : (x a : ℤ) (k : ℕ) → x ≤ℤ a → x ≤ℤ (a +ℤ pos k)
later x a k h = omega (arith, ints)

cam_stands : (w : WheelParts) (c : Channel) → CamStands w c (pos (edge_count w c)) (cycle_end w)
cam_stands w c = record {
  absent = λ e. ap pos e;
  behind = λ some. earlier (angle_of w c (pos (edge_count w c) -ℤ pos 1)) (cycle_end w) (early_of w c * slot_count w) (behind w c some);
  ahead = λ some. later (cycle_end w) (angle_of w c (pos (edge_count w c))) (late_of w c * slot_count w) (ahead w c some);
}

pub some_place : WheelsHavePlaces
some_place w wheel =
    let some : 0 < edge_count w Crank = omega (arith, wheel.crank_edge) in
    let next : edge_count w Crank ≡ edge_count w Crank - 1 + 1 = omega (arith, some) in
    let first : Place = record { j = edge_count w Crank - 1; n1 = pos (edge_count w Cam1); n2 = pos (edge_count w Cam2) } in (
      first,
      record {
        edge = omega (arith, some);
        stands = (
          cycle_end w,
          record {
            behind = subst (λ k. angle_of w Crank (pos k -ℤ pos 1) ≤ℤ cycle_end w) next (behind w Crank some);
            ahead = subst (λ k. cycle_end w ≤ℤ angle_of w Crank (pos k)) next (ahead w Crank some);
            cam1 = cam_stands w Cam1;
            cam2 = cam_stands w Cam2;
          },
        );
      },
    )
