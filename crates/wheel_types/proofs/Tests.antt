-- The tests of the plain program say what the definitions say.
use Rattle.std.proofs.Common.{◌≡◌, ℕ, zero, suc, ◌<◌, ◌↔◌, Bool, true, false, cond, ◌&&◌, ◌||◌, not, ◌==◌, ℤ, pos, ◌-ℤ◌, ◌≤ℤ◌, IsTrue, refl, arith}
use Rattle.std.proofs.lemmas.Int.{ints}
use Rattle.std.proofs.lemmas.Grind.{common_steps}
use Rattle.std.proofs.lemmas.Bool.Decides.{nat_tests}
use lib.Signed.{≤ℤ_refl}
use Rattle.std.specs.Prelude.{int_lt, int_le}
use Rattle.wheel_types.specs.declared.channel.Channel.TheVariants.{Crank, Cam1, Cam2}
use Rattle.wheel_types.specs.declared.parts.WheelParts.{WheelParts}
use Rattle.wheel_types.specs.Edges.{edge_count, angle_of, first_angle, last_angle}
use Rattle.wheel_types.specs.Motions.{Indices, Stands, KeepsSpeed, KeepsRatio}
use Rattle.wheel_types.specs.Steps.{IsStanding}
use Rattle.wheel_types.specs.Plain.{is_standing, is_counted, low_of, high_of, cam_low, cam_high, keeps_speed, keeps_ratio}

keeps_speed-is : (w : WheelParts) (s t : ℕ) → IsTrue (keeps_speed w s t) ↔ KeepsSpeed w s t
keeps_speed-is w s t = grind (arith, common_steps)

keeps_ratio-is : (w : WheelParts) (s0 t0 s1 t1 : ℕ) → IsTrue (keeps_ratio w s0 t0 s1 t1) ↔ KeepsRatio w s0 t0 s1 t1
keeps_ratio-is w s0 t0 s1 t1 = grind (arith, common_steps)

low_under : (k : ℕ) (x f z : ℤ) → (cond (k == 0) x (cond (int_lt x f) f x)) ≤ℤ z → (x ≤ℤ z) × (0 < k → f ≤ℤ z)
low_under zero x f z h = (h, λ n. absurd (omega arith))
low_under (suc k) x f z h = grind (arith, ints)

over_low : (k : ℕ) (x f z : ℤ) → x ≤ℤ z → (0 < k → f ≤ℤ z) → (cond (k == 0) x (cond (int_lt x f) f x)) ≤ℤ z
over_low zero x f z h g = h
over_low (suc k) x f z h g = let f_under : f ≤ℤ z = g (omega arith) in grind (arith, ints)

under_high : (k : ℕ) (x f z : ℤ) → z ≤ℤ (cond (k == 0) x (cond (int_lt f x) f x)) → (z ≤ℤ x) × (0 < k → z ≤ℤ f)
under_high zero x f z h = (h, λ n. absurd (omega arith))
under_high (suc k) x f z h = grind (arith, ints)

high_over : (k : ℕ) (x f z : ℤ) → z ≤ℤ x → (0 < k → z ≤ℤ f) → z ≤ℤ (cond (k == 0) x (cond (int_lt f x) f x))
high_over zero x f z h g = h
high_over (suc k) x f z h g = let f_over : z ≤ℤ f = g (omega arith) in grind (arith, ints)

both_true : (a b c : Bool) → IsTrue (a && (b && c)) → IsTrue a × IsTrue b × IsTrue c
both_true true true true h = (refl, refl, refl)
both_true true true false h = absurd (cc)
both_true true false c h = absurd (cc)
both_true false b c h = absurd (cc)

true_both : (a b c : Bool) → IsTrue a → IsTrue b → IsTrue c → IsTrue (a && (b && c))
true_both a b c h k l = rw (h, k, l)

counted : (k : ℕ) (n : ℤ) → IsTrue (not (k == 0) || (int_le n (pos 0) && int_le (pos 0) n)) → k ≡ 0 → n ≡ pos 0
counted zero n h e = grind (arith, ints)
counted (suc k) n h e = absurd (omega arith)

is_counted_by : (k : ℕ) (n : ℤ) → (k ≡ 0 → n ≡ pos 0) → IsTrue (not (k == 0) || (int_le n (pos 0) && int_le (pos 0) n))
is_counted_by zero n h = let none : n ≡ pos 0 = h refl in rw none
is_counted_by (suc k) n h = grind (arith, nat_tests)

le_test : (a b : ℤ) → IsTrue (int_le a b) → a ≤ℤ b
le_test a b h = grind (arith, ints)

test_le : (a b : ℤ) → a ≤ℤ b → IsTrue (int_le a b)
test_le a b h = grind (arith, ints)

-- the test finds exactly the indices with which some angle stands, and the lowest is such an angle
pub stands_lowest : (w : WheelParts) (ix : Indices) → IsTrue (is_standing w ix) → Stands w (low_of w ix) ix
stands_lowest w ix h =
    let parts = both_true (int_le (low_of w ix) (high_of w ix)) (is_counted w Cam1 ix.cam1) (is_counted w Cam2 ix.cam2) h in
    let l1 = low_under (edge_count w Cam1) (cam_low w Cam2 ix.cam2 (angle_of w Crank (ix.crank -ℤ pos 1))) (first_angle w Cam1 (ix.cam1 -ℤ pos 1)) (low_of w ix) (≤ℤ_refl _) in
    let l2 = low_under (edge_count w Cam2) (angle_of w Crank (ix.crank -ℤ pos 1)) (first_angle w Cam2 (ix.cam2 -ℤ pos 1)) (low_of w ix) l1.0 in
    let h1 = under_high (edge_count w Cam1) (cam_high w Cam2 ix.cam2 (angle_of w Crank ix.crank)) (last_angle w Cam1 ix.cam1) (low_of w ix) (le_test _ _ parts.0) in
    let h2 = under_high (edge_count w Cam2) (angle_of w Crank ix.crank) (last_angle w Cam2 ix.cam2) (low_of w ix) h1.0 in
    record {
      behind = l2.0;
      ahead = h2.0;
      cam1 = record { absent = counted (edge_count w Cam1) ix.cam1 parts.1; behind = l1.1; ahead = h1.1 };
      cam2 = record { absent = counted (edge_count w Cam2) ix.cam2 parts.2; behind = l2.1; ahead = h2.1 };
    }

pub lowest_before : (w : WheelParts) (x : ℤ) (ix : Indices) → Stands w x ix → low_of w ix ≤ℤ x
lowest_before w x ix s = over_low (edge_count w Cam1) _ _ x (over_low (edge_count w Cam2) _ _ x s.behind s.cam2.behind) s.cam1.behind

before_highest : (w : WheelParts) (x : ℤ) (ix : Indices) → Stands w x ix → x ≤ℤ high_of w ix
before_highest w x ix s = high_over (edge_count w Cam1) _ _ x (high_over (edge_count w Cam2) _ _ x s.ahead s.cam2.ahead) s.cam1.ahead

through : {a b c : ℤ} → a ≤ℤ b → b ≤ℤ c → a ≤ℤ c
through {a} {b} {c} h k = omega (arith, ints)

pub standing_tested : (w : WheelParts) (ix : Indices) → IsTrue (is_standing w ix) ↔ IsStanding w ix
standing_tested w ix = (
  λ h. (low_of w ix, stands_lowest w ix h),
  λ s. true_both (int_le (low_of w ix) (high_of w ix)) (is_counted w Cam1 ix.cam1) (is_counted w Cam2 ix.cam2) (test_le _ _ (through (lowest_before w s.0 ix s.1) (before_highest w s.0 ix s.1))) (is_counted_by (edge_count w Cam1) ix.cam1 s.1.cam1.absent) (is_counted_by (edge_count w Cam2) ix.cam2 s.1.cam2.absent),
)
