-- How many entries of an image pass a test, and how many cuts of an alphabet do.
use Rattle.std.proofs.Common.{◌≡◌, ℕ, ◌+◌, ◌*◌, ◌≤◌, Bool, true, false, cond, List, [], ◌∷◌, length, refl, arith}
use Rattle.std.proofs.lemmas.Bool.Decides.{nat_tests}
use Rattle.std.proofs.lemmas.List.Elements.{All-head, All-tail}
use Rattle.std.specs.Prelude.{All, filter, map, min, nat_lt, nat_le, ◌==◌}
use Rattle.gap_thresholds.specs.declared.cut.Cut.{Cut}
use Rattle.gap_thresholds.specs.Classes.{time_class_of, ratio_class_of}
use Rattle.gap_thresholds.proofs.Counts.{length-cond}

-- as many of the elements pass as of what a function makes of them
pub filter_mapped : {X Y : Type 0} (f : X → Y) (p : Y → Bool) (xs : List X)
    → length (filter (λ x. p (f x)) xs) ≡ length (filter p (map f xs))
filter_mapped f p [] = refl
filter_mapped {X} {Y} f p (x ∷ xs) =
    let rest = filter_mapped f p xs in
    let left : List X = filter (λ y. p (f y)) xs in
    let right : List Y = filter p (map f xs) in
    elim (p (f x)) as (λ v. length (cond v (x ∷ left) left) ≡ length (cond v (f x ∷ right) right))
    [ true ↦ omega (arith, rest) | false ↦ rest ]

-- a whole cut is at most a time, cut down or not, exactly where it is below it or equal to it
one_cut : (x b t m : ℕ) → b ≡ 1 → x ≤ m → cond (nat_le x (min t m)) 1 0 ≡ cond (nat_lt (x * 1) (t * b)) 1 0 + cond ((x * 1) == (t * b)) 1 0
one_cut x b t m one le = rw one (whole x t m le)
  where
    whole : (x t m : ℕ) → x ≤ m → cond (nat_le x (min t m)) 1 0 ≡ cond (nat_lt (x * 1) (t * 1)) 1 0 + cond ((x * 1) == (t * 1)) 1 0
    whole x t m le = grind (arith, nat_tests)

pub class_of_cut : (cuts : List Cut) (t m : ℕ) → All (λ (c : Cut). (c.bottom ≡ 1) × (c.top ≤ m)) cuts
    → length (filter (λ (c : Cut). nat_le c.top (min t m)) cuts) ≡ time_class_of cuts t
class_of_cut [] t m each = refl
class_of_cut (c ∷ cuts) t m each =
    let P : Cut → Type 0 = λ c. (c.bottom ≡ 1) × (c.top ≤ m) in
    let rest = class_of_cut cuts t m (All-tail P c cuts each) in
    let head = All-head P c cuts each in
    let here = one_cut c.top c.bottom t m head.0 head.1 in
    omega (
      arith,
      rest,
      here,
      length-cond (nat_le c.top (min t m)) c (filter (λ (c : Cut). nat_le c.top (min t m)) cuts),
      length-cond (nat_lt (c.top * 1) (t * c.bottom)) c (filter (λ (c : Cut). nat_lt (c.top * 1) (t * c.bottom)) cuts),
      length-cond ((c.top * 1) == (t * c.bottom)) c (filter (λ (c : Cut). (c.top * 1) == (t * c.bottom)) cuts),
    )

-- a class is at most as many as there are cuts, or twice as many
one_or_none : (m n : ℕ) → cond (nat_lt m n) 1 0 + cond (m == n) 1 0 ≤ 1
one_or_none m n = grind (arith, nat_tests)

two_or_none : (m n : ℕ) → 2 * cond (nat_lt m n) 1 0 + cond (m == n) 1 0 ≤ 2
two_or_none m n = grind (arith, nat_tests)

pub time_class_most : (cuts : List Cut) (t : ℕ) → time_class_of cuts t ≤ length cuts
time_class_most [] t = omega arith
time_class_most (c ∷ cuts) t =
    let rest = time_class_most cuts t in
    let here = one_or_none (c.top * 1) (t * c.bottom) in
    omega (
      arith,
      rest,
      here,
      length-cond (nat_lt (c.top * 1) (t * c.bottom)) c (filter (λ (c : Cut). nat_lt (c.top * 1) (t * c.bottom)) cuts),
      length-cond ((c.top * 1) == (t * c.bottom)) c (filter (λ (c : Cut). (c.top * 1) == (t * c.bottom)) cuts),
    )

pub ratio_class_most : (cuts : List Cut) (t0 t1 : ℕ) → ratio_class_of cuts t0 t1 ≤ 2 * length cuts
ratio_class_most [] t0 t1 = omega arith
ratio_class_most (c ∷ cuts) t0 t1 =
    let rest = ratio_class_most cuts t0 t1 in
    let here = two_or_none (c.top * t0) (t1 * c.bottom) in
    omega (
      arith,
      rest,
      here,
      length-cond (nat_lt (c.top * t0) (t1 * c.bottom)) c (filter (λ (c : Cut). nat_lt (c.top * t0) (t1 * c.bottom)) cuts),
      length-cond ((c.top * t0) == (t1 * c.bottom)) c (filter (λ (c : Cut). (c.top * t0) == (t1 * c.bottom)) cuts),
    )
