-- Bytes that hold numbers are the bytes of these numbers.
use Rattle.std.proofs.Common.{◌≡◌, inl, inr, ℕ, zero, suc, ◌+◌, ◌*◌, ◌/◌, ◌^◌, ◌<◌, ◌≤◌, List, [], ◌∷◌, ◌++◌, length, take, drop, get_or, add-one, refl, sym, ap, subst, ◌∙◌, arith}
use Rattle.std.proofs.Math.Nat.{mod-lt}
use Rattle.std.proofs.Math.Seq.{take-add}
use Rattle.std.proofs.lemmas.Bool.{cases_lt}
use Rattle.std.proofs.lemmas.List.{ext_get_or, get_or_past, get_or-take, get_or-drop, get_or-replicate, length-take-le, length-drop, length-replicate, take-append-drop, drop-drop, append-nil}
use Rattle.std.proofs.lemmas.List.Elements.{All-get_or}
use Rattle.std.specs.Int.{byte_at, bytes_low_first}
use Rattle.std.specs.Prelude.{⊤, All, flat_map, replicate}
use Rattle.byteorder.specs.Endian.{little_bytes, little_from}
use Rattle.byteorder.specs.Numbers.{little_from-cons, little_from-take, little_from-lt, little_number-reads_back, length-bytes_low_first}
use Rattle.wheel_types.specs.Edges.{below}
use Rattle.image_layout.specs.Layout.{number_at}
use Rattle.image_layout.specs.Parts.{word, words}
use Rattle.image_layout.specs.Tables.{AreZero}
use Rattle.image_layout.proofs.ReadBack.{word_is}
use Rattle.image_layout.proofs.Written.{one_below}

-- each number is a byte, and so is what is read past the end
abbrev pub AreLow : List ℕ → Type 0
AreLow xs = (k : ℕ) → get_or xs k 0 < 256

pub are_low : (xs : List ℕ) → All (λ x. x < 256) xs → AreLow xs
are_low xs h k = elim (cases_lt k (length xs)) [
  | inl lt ↦ All-get_or (λ x. x < 256) xs k 0 lt h
  | inr past ↦ subst (λ x. x < 256) (sym (get_or_past xs k 0 past)) (omega arith)
]

drop_low : (at : ℕ) (xs : List ℕ) → AreLow xs → AreLow (drop at xs)
drop_low at xs low k = subst (λ x. x < 256) (sym (get_or-drop at xs k 0)) (low (at + k))

take_low : (n : ℕ) (xs : List ℕ) → n ≤ length xs → AreLow xs → AreLow (take n xs)
take_low n xs long low k = elim (cases_lt k n) [
  | inl lt ↦ subst (λ x. x < 256) (sym (get_or-take n xs k 0 lt)) (low k)
  | inr past ↦ let size = length-take-le n xs long in subst (λ x. x < 256) (sym (get_or_past (take n xs) k 0 (omega (arith, past, size)))) (omega arith)
]

byte_low : (i x : ℕ) → byte_at i x < 256
byte_low zero x = mod-lt x (omega arith)
byte_low (suc i) x = mod-lt (x / 256 ^ suc i) (omega arith)

little_low : (i n x : ℕ) → AreLow (bytes_low_first i n x)
little_low i zero x k = omega arith
little_low i (suc n) x zero = byte_low i x
little_low i (suc n) x (suc k) = little_low (suc i) n x k

-- as many bytes that hold the same number are the same
same_bytes : (n : ℕ) (xs ys : List ℕ) → length xs ≡ n → length ys ≡ n → AreLow xs → AreLow ys → little_from 0 n xs ≡ little_from 0 n ys → xs ≡ ys
same_bytes zero [] [] ex ey hx hy same = refl
same_bytes zero (x ∷ xs) ys ex ey hx hy same = absurd (omega (arith, ex))
same_bytes zero [] (y ∷ ys) ex ey hx hy same = absurd (omega (arith, ey))
same_bytes (suc n) [] ys ex ey hx hy same = absurd (omega (arith, ex))
same_bytes (suc n) (x ∷ xs) [] ex ey hx hy same = absurd (omega (arith, ey))
same_bytes (suc n) (x ∷ xs) (y ∷ ys) ex ey hx hy same =
    let one : x < 256 = hx 0 in
    let two : y < 256 = hy 0 in
    let rest_x : little_from 1 n (x ∷ xs) ≡ little_from 0 n xs = little_from-cons 0 n x xs in
    let rest_y : little_from 1 n (y ∷ ys) ≡ little_from 0 n ys = little_from-cons 0 n y ys in
    let whole : x + 256 * little_from 1 n (x ∷ xs) ≡ y + 256 * little_from 1 n (y ∷ ys) = same in
    let first : x ≡ y = omega (arith, one, two, whole) in
    let rest : little_from 0 n xs ≡ little_from 0 n ys = omega (arith, first, whole, rest_x, rest_y) in
    ap (λ z. z ∷ xs) first ∙ ap (λ (zs : List ℕ). y ∷ zs) (same_bytes n xs ys (omega (arith, ex)) (omega (arith, ey)) (λ k. hx (suc k)) (λ k. hy (suc k)) rest)

first_bytes : (n : ℕ) (xs : List ℕ) → n ≤ length xs → AreLow xs → take n xs ≡ little_bytes n (little_from 0 n xs)
first_bytes n xs long low =
    let v : ℕ = little_from 0 n xs in
    let small : v < 256 ^ n = little_from-lt 0 n xs low in
    let back : little_from 0 n (little_bytes n v) ≡ v = ap (λ (ys : List ℕ). little_from 0 n ys) (sym (append-nil (little_bytes n v))) ∙ little_number-reads_back n v [] small in
    same_bytes n (take n xs) (little_bytes n v) (length-take-le n xs long) (length-bytes_low_first 0 n v) (take_low n xs long low) (little_low 0 n v)
    (little_from-take 0 n n xs (omega arith) ∙ sym back)

-- the bytes at a place are those of the number there
pub number_bytes : (n : ℕ) (b : List ℕ) (at : ℕ) → at + n ≤ length b → AreLow b → take n (drop at b) ≡ little_bytes n (number_at n b at)
unfolding number_at
number_bytes n b at within low = let size = length-drop at b in first_bytes n (drop at b) (omega (arith, size, within)) (drop_low at b low)

pub number_low : (n : ℕ) (b : List ℕ) (at : ℕ) → AreLow b → number_at n b at < 256 ^ n
unfolding number_at
number_low n b at low = little_from-lt 0 n (drop at b) (drop_low at b low)

zero_from : (i n : ℕ) (xs : List ℕ) → ((k : ℕ) → i ≤ k → k < i + n → get_or xs k 0 ≡ 0) → little_from i n xs ≡ 0
zero_from i zero xs each = refl
zero_from i (suc n) xs each =
    let one : get_or xs i 0 ≡ 0 = each i (omega arith) (omega arith) in
    let rest : little_from (suc i) n xs ≡ 0 = zero_from (suc i) n xs (λ k from to. each k (omega (arith, from)) (omega (arith, to))) in
    omega (arith, one, rest)

-- zeros hold the number zero
pub number_zero : (n : ℕ) (b : List ℕ) (at from to : ℕ) → AreZero b from to → from ≤ at → at + n ≤ to → number_at n b at ≡ 0
unfolding number_at
number_zero n b at from to zeros low high = zero_from 0 n (drop at b) (λ k start end. get_or-drop at b k 0 ∙ zeros (at + k) (omega (arith, low)) (omega (arith, end, high)))

-- bytes that are zero are zeros
pub zero_bytes : (b : List ℕ) (from n : ℕ) → AreZero b from (from + n) → from + n ≤ length b → take n (drop from b) ≡ replicate n 0
zero_bytes b from n zeros within =
    let size = length-drop from b in
    let front : length (take n (drop from b)) ≡ n = length-take-le n (drop from b) (omega (arith, size, within)) in
    let long : length (replicate {A = ℕ} n 0) ≡ n = length-replicate {A = ℕ} n 0 in
    ext_get_or 0 (take n (drop from b)) (replicate n 0) (front ∙ sym long) (λ i lt.
    let low : i < n = omega (arith, lt, front) in
    get_or-take n (drop from b) i 0 low ∙ (get_or-drop from b i 0 ∙ (zeros (from + i) (omega arith) (omega (arith, low)) ∙ sym (get_or-replicate n i 0 0 low))))

-- ---- pieces one after the other

pieces : (size : ℕ) (g : ℕ → List ℕ) (m : ℕ) (xs : List ℕ) → ((i : ℕ) → i < m → take size (drop (size * i) xs) ≡ g i) → take (size * m) xs ≡ flat_map g (below m)
pieces size g zero xs each = let none : size * 0 ≡ 0 = omega arith in ap (λ n. take n xs) none
pieces size g (suc m) xs each =
    let place : size * suc m ≡ size * m + size = omega arith in
    ap (λ n. take n xs) place
    ∙ (take-add (size * m) size xs
    ∙ (ap (λ (ys : List ℕ). ys ++ take size (drop (size * m) xs)) (pieces size g m xs (λ i lt. each i (omega (arith, lt))))
    ∙ (ap (λ (ys : List ℕ). flat_map g (below m) ++ ys) (each m (omega arith))
    ∙ (sym (one_below g m) ∙ ap (λ n. flat_map g (below n)) (add-one m)))))

-- a section of m entries
pub section : (size at m : ℕ) (b : List ℕ) (g : ℕ → List ℕ) → ((i : ℕ) → i < m → take size (drop (at + size * i) b) ≡ g i) → take (size * m) (drop at b) ≡ flat_map g (below m)
section size at m b g each = pieces size g m (drop at b) (λ i lt. ap (λ (ys : List ℕ). take size ys) (drop-drop (size * i) at b) ∙ each i lt)

-- the words at a place are these
abbrev pub Told : List ℕ → ℕ → List ℕ → Type 0
Told b at [] = ⊤
Told b at (n ∷ ns) = (number_at 4 b at ≡ n) × Told b (at + 4) ns

pub told_bytes : (b : List ℕ) (at : ℕ) (ns : List ℕ) → AreLow b → at + 4 * length ns ≤ length b → Told b at ns → take (4 * length ns) (drop at b) ≡ words ns
told_bytes b at [] low within told = refl
told_bytes b at (n ∷ ns) low within told =
    let place : 4 * suc (length ns) ≡ 4 + 4 * length ns = omega arith in
    ap (λ m. take m (drop at b)) place
    ∙ (take-add 4 (4 * length ns) (drop at b)
    ∙ (ap (λ (ys : List ℕ). ys ++ take (4 * length ns) (drop 4 (drop at b))) (number_bytes 4 b at (omega (arith, within)) low ∙ (sym (word_is (number_at 4 b at)) ∙ ap word told.0))
    ∙ ap (λ (ys : List ℕ). word n ++ ys) (ap (λ (ys : List ℕ). take (4 * length ns) ys) (drop-drop 4 at b) ∙ told_bytes b (at + 4) ns low (omega (arith, within)) told.1)))

-- what stands from a place on: a section, and what stands behind it
pub behind : (b : List ℕ) (at n next : ℕ) (piece rest : List ℕ) → next ≡ at + n → take n (drop at b) ≡ piece → drop next b ≡ rest → drop at b ≡ piece ++ rest
behind b at n next piece rest place e f =
    sym (take-append-drop n (drop at b))
    ∙ (ap (λ (ys : List ℕ). ys ++ drop n (drop at b)) e
    ∙ ap (λ (ys : List ℕ). piece ++ ys) (drop-drop n at b ∙ (ap (λ i. drop i b) (sym place) ∙ f)))
