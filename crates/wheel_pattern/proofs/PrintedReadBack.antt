-- A printed wheel is read back as itself.
use Rattle.std.proofs.Common.{◌≡◌, ℕ, ◌<◌, ◌≤◌, ◌^◌, ◌+◌, ◌*◌, suc, pos, true, nat_lt, nat_le, List, [], ◌∷◌, Some, Ok, All, inr, refl, sym, arith}
use Rattle.std.proofs.lemmas.Bool.Decides.{nat_tests}
use Rattle.toml.specs.Data.{items_depth, members_depth}
use Rattle.wheel_types.specs.declared.channel.Keep.{Keep}
use Rattle.wheel_types.specs.declared.channel.Keep.TheVariants.{Rising, Falling, Both}
use Rattle.wheel_types.specs.declared.parts.WheelParts.{WheelParts}
use Rattle.wheel_types.specs.Wheels.{IsWheel}
use Rattle.wheel_pattern.specs.Printed.{numbers, keep_text, members_of_parts, WrittenWheelsReadBack}
use Rattle.wheel_pattern.specs.Values.{whole_from, all_below, keep_named}
use Rattle.wheel_pattern.specs.WheelFile.{parts_of}

-- numbers lie flat
pub numbers-depth : (ns : List ℕ) → items_depth (numbers ns) ≡ 0
numbers-depth [] = refl
numbers-depth (n ∷ ns) = rw (numbers-depth ns) refl

-- the document of a wheel is no deeper than `toml` reads
pub parts-depth : (w : WheelParts) → members_depth (members_of_parts w) ≤ 80
parts-depth w = rw (numbers-depth w.slots) (omega arith)

-- a number below the bound is read back as it is
is-read : (bound n : ℕ) → n < bound → whole_from 0 bound (pos n) ≡ Some n
is-read bound n h =
    let least : nat_le 0 n ≡ true = grind (arith, nat_tests) in
    let below : nat_lt n bound ≡ true = grind (arith, nat_tests) in
    rw (least, below) refl

-- slot values are read back as they are
all_below-numbers : (ns : List ℕ) → All (λ n. n < 8) ns → all_below 256 (numbers ns) ≡ Some ns
all_below-numbers [] h = refl
all_below-numbers (n ∷ ns) h =
    let low : n < 8 = h 0 0 (omega arith) in
    rw (is-read 256 n (omega arith), all_below-numbers ns (λ k d within. h (suc k) d (omega arith))) refl

-- a polarity is read back as itself
keep_named-text : (k : Keep) → keep_named (keep_text k) ≡ Some k
keep_named-text Rising = refl
keep_named-text Falling = refl
keep_named-text Both = refl

-- a cycle has no more than 720 degrees
few-degrees : (w : WheelParts) → IsWheel w → w.degrees ≤ 720
few-degrees w h = let either = h.degrees in grind (arith, nat_tests)

-- what the document of a wheel gives is that wheel
parts_of-members : (w : WheelParts) → IsWheel w → parts_of (members_of_parts w) ≡ Ok w
parts_of-members w h =
    let turns : w.degrees ≤ 720 = few-degrees w h in
    let cam1 : w.cam1_early + w.cam1_late < 1000 * w.degrees = h.cam1 in
    let cam2 : w.cam2_early + w.cam2_late < 1000 * w.degrees = h.cam2 in
    let low : w.rpm_low ≤ w.rpm_high = h.rpm.1 in
    let high : w.rpm_high ≤ 30000 = h.rpm.2 in
    let rd : w.rd ≤ w.rn = h.ratio.1 in
    let rn : w.rn ≤ 65535 = h.ratio.2 in
    rw (
      is-read (2 ^ 32) w.degrees (omega arith),
      all_below-numbers w.slots h.values,
      keep_named-text w.crank,
      keep_named-text w.cam1,
      keep_named-text w.cam2,
      is-read (2 ^ 32) w.cam1_early (omega arith),
      is-read (2 ^ 32) w.cam1_late (omega arith),
      is-read (2 ^ 32) w.cam2_early (omega arith),
      is-read (2 ^ 32) w.cam2_late (omega arith),
      is-read (2 ^ 32) w.rpm_low (omega arith),
      is-read (2 ^ 32) w.rpm_high (omega arith),
      is-read (2 ^ 32) w.rn (omega arith),
      is-read (2 ^ 32) w.rd (omega arith),
    ) refl

-- a document of a wheel means that wheel
pub reads-back : WrittenWheelsReadBack
reads-back bytes w h document = record { given = inr (members_of_parts w, document, sym (parts_of-members w h)); wheel = h }
