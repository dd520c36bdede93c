-- How many edges a stimulus has, and what is known of it while it is made.
use Rattle.std.proofs.Common.{◌≡◌, ℕ, zero, suc, ◌+◌, ◌<◌, ◌≤◌, ◌⊎◌, inl, inr, List, ℤ, pos, ◌+ℤ◌, ◌-ℤ◌, ◌≤ℤ◌, ◌<ℤ◌, refl, subst, arith}
use Rattle.std.proofs.lemmas.Int.{ints, by_lt_z}
use Rattle.std.specs.Prelude.{unsigned_abs}
use Rattle.wheel_types.specs.declared.channel.Channel.{Channel}
use Rattle.wheel_types.specs.declared.channel.Channel.TheVariants.{Cam1, Cam2}
use Rattle.wheel_types.specs.declared.instant.Instant.{Instant}
use Rattle.wheel_types.specs.declared.parts.WheelParts.{WheelParts}
use Rattle.wheel_types.specs.Wheels.{IsWheel}
use Rattle.wheel_types.specs.Edges.{edge_count}
use Rattle.stimulus.specs.Gaps.{crank_angle}
use Rattle.stimulus.specs.Cams.{cam_angle}
use Rattle.stimulus.specs.Drawn.{IsCamCount}
use Rattle.stimulus.specs.MadeTo.{IsMadeTo}
use Rattle.stimulus.specs.Causes.{HasFewEdges, HasManyEdges, most_edges}
use Rattle.stimulus.proofs.CamAngles.{cam_later}
use Rattle.stimulus.proofs.CrankMoves.{split}
use Rattle.stimulus.proofs.Moving.{AreBefore}
use Rattle.stimulus.proofs.Times.{crank_angle_at}

-- at least so many edges of a cam are before a crank edge
record IsCounted (w : WheelParts) (c : Channel) (seed gaps k : ℕ) : Type 0 where
  count : ℕ
  is_count : IsCamCount w c seed gaps count
  least : k ≤ count

before_too : (a b c : ℤ) → a <ℤ b → b ≤ℤ c → a <ℤ c
before_too a b c h k = omega (arith, ints)

one_less : (x y z : ℤ) (n : ℕ) → z ≤ℤ (x +ℤ pos (suc n)) → (x +ℤ pos 1) ≤ℤ y → z ≤ℤ (y +ℤ pos n)
one_less x y z n h k = omega (arith, ints, h, k)

none_left : (x z : ℤ) → z ≤ℤ (x +ℤ pos 0) → z ≤ℤ x
none_left x z h = omega (arith, ints, h)

room : (x y : ℤ) → y ≤ℤ (x +ℤ pos (unsigned_abs (y -ℤ x)))
room x y = grind (arith, ints)

absent : {P : Type 0} (n : ℕ) → n ≡ 0 → 0 < n → P
absent n e h = absurd (omega (arith, e, h))

one_more : (w : WheelParts) (c : Channel) (seed gaps k : ℕ) → AreBefore w c seed gaps k → cam_angle w c seed k <ℤ crank_angle w seed gaps → AreBefore w c seed gaps (suc k)
one_more w c seed gaps k before h n l = by (split n k l)
  where
    by : (n < k) ⊎ (n ≡ k) → cam_angle w c seed n <ℤ crank_angle w seed gaps
    by (inl l) = before n l
    by (inr e) = subst (λ j. cam_angle w c seed j <ℤ crank_angle w seed gaps) (Rattle.std.proofs.Common.sym e) h

here : (w : WheelParts) (c : Channel) (seed gaps k : ℕ) → 0 < edge_count w c → AreBefore w c seed gaps k → crank_angle w seed gaps ≤ℤ cam_angle w c seed k → IsCounted w c seed gaps k
here w c seed gaps k some before h =
    record { count = k; is_count = record { absent = λ e. absent (edge_count w c) e some; before = before; from = λ _. h }; least = omega arith }

-- the edges rise past the crank edge
count_from : (left : ℕ) (w : WheelParts) (c : Channel) (seed gaps k : ℕ) → IsWheel w → 0 < edge_count w c → AreBefore w c seed gaps k
    → crank_angle w seed gaps ≤ℤ (cam_angle w c seed k +ℤ pos left) → IsCounted w c seed gaps k
count_from zero w c seed gaps k wheel some before r = here w c seed gaps k some before (none_left (cam_angle w c seed k) (crank_angle w seed gaps) r)
count_from (suc left) w c seed gaps k wheel some before r =
    by (count_from left w c seed gaps (suc k) wheel some) (by_lt_z (cam_angle w c seed k) (crank_angle w seed gaps) inl inr)
  where
    by : (AreBefore w c seed gaps (suc k) → crank_angle w seed gaps ≤ℤ (cam_angle w c seed (suc k) +ℤ pos left) → IsCounted w c seed gaps (suc k))
        → (cam_angle w c seed k <ℤ crank_angle w seed gaps) ⊎ (crank_angle w seed gaps ≤ℤ cam_angle w c seed k) → IsCounted w c seed gaps k
    by more (inr h) = here w c seed gaps k some before h
    by more (inl h) =
        let n = more (one_more w c seed gaps k before h) (one_less (cam_angle w c seed k) (cam_angle w c seed (suc k)) (crank_angle w seed gaps) left r (cam_later w c seed k wheel some)) in
        let l = n.least in
        record { count = n.count; is_count = n.is_count; least = omega (arith, l) }

some_or_none : (n : ℕ) → (0 < n) ⊎ (n ≡ 0)
some_or_none n = grind arith

counted : (w : WheelParts) (c : Channel) (seed gaps k : ℕ) → IsWheel w → (edge_count w c ≡ 0 → k ≡ 0) → AreBefore w c seed gaps k → IsCounted w c seed gaps k
counted w c seed gaps k wheel none before = by (some_or_none (edge_count w c))
  where
    by : (0 < edge_count w c) ⊎ (edge_count w c ≡ 0) → IsCounted w c seed gaps k
    by (inl some) = count_from (unsigned_abs (crank_angle w seed gaps -ℤ cam_angle w c seed k)) w c seed gaps k wheel some before (room (cam_angle w c seed k) (crank_angle w seed gaps))
    by (inr e) = let z = none e in record {
      count = 0;
      is_count = record { absent = λ _. refl; before = λ n l. absurd (omega (arith, l)); from = λ some. absent (edge_count w c) e some };
      least = omega (arith, z);
    }

-- where those passed are too many with all of the crank's, there are too many
pub too_many : (w : WheelParts) (seed m gaps k1 k2 : ℕ) (x : ℤ) (is : List Instant) → IsWheel w → m < gaps → IsMadeTo w seed m k1 k2 x is → most_edges < gaps + 1 + (k1 + k2)
    → HasManyEdges w seed gaps
too_many w seed m gaps k1 k2 x is wheel within g many =
    let later : crank_angle w seed (suc m) ≤ℤ crank_angle w seed gaps = crank_angle_at w seed (suc m) gaps wheel (omega (arith, within)) in
    let a = counted w Cam1 seed gaps k1 wheel g.cam1.absent (λ n l. before_too _ _ _ (g.cam1.before n l) later) in
    let b = counted w Cam2 seed gaps k2 wheel g.cam2.absent (λ n l. before_too _ _ _ (g.cam2.before n l) later) in
    let l = a.least in
    let r = b.least in
    (gaps + 1 + a.count + b.count, (record { cam1 = a.count; cam2 = b.count; first = a.is_count; second = b.is_count; all = refl }, omega (arith, l, r, many)))

-- where all edges of cams before the last crank edge were passed, those are the edges
pub all_counted : (w : WheelParts) (seed m k1 k2 : ℕ) (x : ℤ) (is : List Instant) → IsMadeTo w seed m k1 k2 x is
    → (0 < edge_count w Cam1 → crank_angle w seed (suc m) ≤ℤ cam_angle w Cam1 seed k1) → (0 < edge_count w Cam2 → crank_angle w seed (suc m) ≤ℤ cam_angle w Cam2 seed k2)
    → suc m + 1 + (k1 + k2) ≤ most_edges → HasFewEdges w seed (suc m)
all_counted w seed m k1 k2 x is g one two few = (
  suc m + 1 + k1 + k2,
  (
    record {
      cam1 = k1;
      cam2 = k2;
      first = record { absent = g.cam1.absent; before = g.cam1.before; from = one };
      second = record { absent = g.cam2.absent; before = g.cam2.before; from = two };
      all = refl;
    },
    omega (arith, few),
  ),
)
