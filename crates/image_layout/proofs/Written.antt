-- What is read back of numbers that were written one after the other.
use Rattle.std.proofs.Common.{◌≡◌, ℕ, zero, suc, ◌+◌, ◌*◌, ◌^◌, ◌<◌, List, [], ◌∷◌, ◌++◌, length, drop, get_or, sym, ap, ◌∙◌, arith, append_assoc, add-one}
use Rattle.std.specs.Prelude.{flat_map}
use Rattle.std.proofs.lemmas.List.{drop_at, drop-drop, append-nil}
use Rattle.std.proofs.lemmas.Grind.{flat_map-append}
use Rattle.wheel_types.specs.Edges.{below}
use Rattle.byteorder.specs.Endian.{little_bytes}
use Rattle.byteorder.specs.Numbers.{little_number-reads_back, length-bytes_low_first}
use Rattle.image_layout.specs.Layout.{number_at}

-- a piece for one number more
pub one_below : (f : ℕ → List ℕ) (n : ℕ) → flat_map f (below (n + 1)) ≡ flat_map f (below n) ++ f n
one_below f n = ap (λ (m : ℕ). flat_map f (below m)) (add-one n) ∙ flat_map-append f (below n) (n ∷ []) ∙ ap (λ (ys : List ℕ). flat_map f (below n) ++ ys) (append-nil (f n))

pub grows_below : (f : ℕ → List ℕ) (start old new : List ℕ) (n : ℕ) → old ≡ start ++ flat_map f (below n) → new ≡ old ++ f n → new ≡ start ++ flat_map f (below (n + 1))
grows_below f start old new n e g =
    g ∙ ap (λ (ys : List ℕ). ys ++ f n) e ∙ append_assoc start (flat_map f (below n)) (f n) ∙ ap (λ (ys : List ℕ). start ++ ys) (sym (one_below f n))

-- number i of numbers of n bytes each
pub number_written : (n : ℕ) (xs rest : List ℕ) (i : ℕ) → i < length xs → ((k : ℕ) → k < length xs → get_or xs k 0 < 256 ^ n) → number_at n (flat_map (little_bytes n) xs ++ rest) (n * i) ≡ get_or xs i 0
unfolding number_at
number_written n [] rest i there fit = absurd (omega arith)
number_written n (x ∷ xs) rest zero there fit =
    let e : little_bytes n x ++ flat_map (little_bytes n) xs ++ rest ≡ little_bytes n x ++ (flat_map (little_bytes n) xs ++ rest) = append_assoc (little_bytes n x) (flat_map (little_bytes n) xs) rest in
    let start : n * 0 ≡ 0 = omega arith in
    rw (start, e) (little_number-reads_back n x (flat_map (little_bytes n) xs ++ rest) (fit 0 (omega arith)))
number_written n (x ∷ xs) rest (suc i) there fit =
    let e : little_bytes n x ++ flat_map (little_bytes n) xs ++ rest ≡ little_bytes n x ++ (flat_map (little_bytes n) xs ++ rest) = append_assoc (little_bytes n x) (flat_map (little_bytes n) xs) rest in
    let place : n * suc i ≡ n + n * i = omega arith in
    let skip : drop (n + n * i) (little_bytes n x ++ (flat_map (little_bytes n) xs ++ rest)) ≡ drop (n * i) (flat_map (little_bytes n) xs ++ rest) =
    sym (drop-drop (n * i) n (little_bytes n x ++ (flat_map (little_bytes n) xs ++ rest))) ∙ ap (λ (ys : List ℕ). drop (n * i) ys) (drop_at (little_bytes n x) (flat_map (little_bytes n) xs ++ rest) n (length-bytes_low_first 0 n x)) in
    rw (place, e, skip) (number_written n xs rest i (omega arith) (λ k lt. fit (suc k) (omega arith)))

-- the same behind other bytes
pub number_behind : (n : ℕ) (front xs rest : List ℕ) (at i : ℕ) → length front ≡ at → i < length xs → ((k : ℕ) → k < length xs → get_or xs k 0 < 256 ^ n) → number_at n (front ++ (flat_map (little_bytes n) xs ++ rest)) (at + n * i) ≡ get_or xs i 0
unfolding number_at
number_behind n front xs rest at i long there fit =
    let skip : drop (at + n * i) (front ++ (flat_map (little_bytes n) xs ++ rest)) ≡ drop (n * i) (flat_map (little_bytes n) xs ++ rest) =
    sym (drop-drop (n * i) at (front ++ (flat_map (little_bytes n) xs ++ rest))) ∙ ap (λ (ys : List ℕ). drop (n * i) ys) (drop_at front (flat_map (little_bytes n) xs ++ rest) at long) in
    rw skip (number_written n xs rest i there fit)
