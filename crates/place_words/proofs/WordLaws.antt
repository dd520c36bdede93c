-- Laws of sets in words.
use Rattle.std.proofs.Common.{◌≡◌, ◌≢◌, ℕ, zero, suc, ◌+◌, ◌*◌, ◌/◌, ◌%◌, ◌^◌, ◌<◌, inl, inr, List, [], ◌∷◌, length, get_or, set, replicate, eqb, true, refl, sym, ap, subst, ◌∙◌, arith, eq-eqb, eqb-true, w64, min, get_or-set_same, get_or-set_other}
use Rattle.std.proofs.lemmas.Bool.{cases_eq, cases_lt, and_parts}
use Rattle.std.proofs.lemmas.List.{get_or_past, get_or-replicate, length-replicate}
use Rattle.std.proofs.lemmas.Grind.{same_number_lists}
use Rattle.std.proofs.lemmas.Nat.Bits.{bit_at_and, bit_at-zero, bit_at-lt, shr_and_one, bit_at_set_same, bit_at_set_other, same_from_bits_below}
use Rattle.std.proofs.lemmas.List.Elements.{All-get_or}
use Rattle.std.specs.Prelude.{bit_and, bit_or, ◌↔◌, IsTrue}
use Rattle.std.specs.Int.{bit_at}
use Rattle.place_words.specs.Words.{Has, IsWith, IsBoth, IsSet, has_none}

-- the set has no number
abbrev pub IsEmpty : List ℕ → Type 0
IsEmpty set = (k : ℕ) → ¬ Has set k

-- bit b of word j
pub has_at : (words : List ℕ) (j b : ℕ) → b < 64 → bit_at (get_or words j 0) b ≡ 1 → Has words (64 * j + b)
unfolding Has
has_at words j b small h =
    let word : (64 * j + b) / 64 ≡ j = omega arith in
    let bit : (64 * j + b) % 64 ≡ b = omega arith in
    rw (word, bit) h

pub at_has : (words : List ℕ) (j b : ℕ) → b < 64 → Has words (64 * j + b) → bit_at (get_or words j 0) b ≡ 1
unfolding Has
at_has words j b small h =
    let word : (64 * j + b) / 64 ≡ j = omega arith in
    let bit : (64 * j + b) % 64 ≡ b = omega arith in
    rw (word, bit) at h

same_bits : (a b : List ℕ) (j i : ℕ) → i < 64 → ((k : ℕ) → Has a k → Has b k) → ((k : ℕ) → Has b k → Has a k) → bit_at (get_or a j 0) i ≡ bit_at (get_or b j 0) i
same_bits a b j i small ab ba =
    let there : bit_at (get_or a j 0) i ≡ 1 → bit_at (get_or b j 0) i ≡ 1 = λ h. at_has b j i small (ab (64 * j + i) (has_at a j i small h)) in
    let back : bit_at (get_or b j 0) i ≡ 1 → bit_at (get_or a j 0) i ≡ 1 = λ h. at_has a j i small (ba (64 * j + i) (has_at b j i small h)) in
    elim (cases_eq (bit_at (get_or a j 0) i) 1) [
      | inl one ↦ one ∙ sym (there one)
      | inr not_a ↦ elim (cases_eq (bit_at (get_or b j 0) i) 1) [
        | inl one ↦ absurd (not_a (back one))
        | inr not_b ↦ omega (arith, bit_at-lt (get_or a j 0) i, bit_at-lt (get_or b j 0) i)
      ]
    ]

-- sets with the same numbers are the same words
pub same_words : (n : ℕ) (a b : List ℕ) → IsSet n a → IsSet n b → ((i : ℕ) → Has a i → Has b i) → ((i : ℕ) → Has b i → Has a i) → a ≡ b
same_words n a b sa sb ab ba = same_number_lists a b (sa.words ∙ sym sb.words) (λ k lt.
    let fits_a : get_or a k 0 < 2 ^ 64 = All-get_or (λ w. w < 2 ^ 64) a k 0 lt sa.fits in
    let fits_b : get_or b k 0 < 2 ^ 64 = All-get_or (λ w. w < 2 ^ 64) b k 0 (rw (sb.words ∙ sym sa.words) lt) sb.fits in
    same_from_bits_below 64 (get_or a k 0) (get_or b k 0) fits_a fits_b (λ i small. same_bits a b k i small ab ba))

pub has_within : (words : List ℕ) (i : ℕ) → Has words i → i < 64 * length words
unfolding Has
has_within words i h = elim (cases_lt (i / 64) (length words)) [
  | inl lt ↦ omega arith
  | inr past ↦ absurd (let e : bit_at (get_or words (i / 64) 0) (i % 64) ≡ bit_at 0 (i % 64) = ap (λ w. bit_at w (i % 64)) (get_or_past words (i / 64) 0 past) in omega (arith, bit_at-zero (i % 64)))
]

pub has_tests : (words : List ℕ) (i : ℕ) → (eqb (bit_and (get_or words (i / 64) 0 / 2 ^ (i % 64)) 1) 1 ≡ true) ↔ Has words i
unfolding Has
has_tests words i = rw shr_and_one (eqb-true _ 1, eq-eqb _ 1)

module _ (old : List ℕ) (i : ℕ) (within : i < 64 * length old) where
  abbrev set_word : ℕ
  set_word = bit_or (get_or old (i / 64) 0) (1 * 2 ^ (i % 64) % 2 ^ 64)

  abbrev new_words : List ℕ
  new_words = set old (i / 64) set_word

  same_word : get_or new_words (i / 64) 0 ≡ set_word
  same_word = get_or-set_same old (i / 64) set_word 0 (omega arith)

  -- another number's bit stays
  stays : (k : ℕ) → k ≢ i → bit_at (get_or new_words (k / 64) 0) (k % 64) ≡ bit_at (get_or old (k / 64) 0) (k % 64)
  stays k other = elim (cases_eq (k / 64) (i / 64)) [
    | inl e ↦
        let bits : k % 64 ≢ i % 64 = λ same. other (omega arith) in
        ap (λ j. bit_at (get_or new_words j 0) (k % 64)) e ∙ (ap (λ w. bit_at w (k % 64)) same_word ∙ (bit_at_set_other w64 (get_or old (i / 64) 0) (i % 64) (omega arith) (k % 64) bits ∙ ap (λ j. bit_at (get_or old j 0) (k % 64)) (sym e)))
    | inr words ↦ ap (λ w. bit_at w (k % 64)) (get_or-set_other old (i / 64) (k / 64) set_word 0 words)
  ]

  pub with_bit : IsWith old i new_words
  unfolding Has
  with_bit = record {
    keeps = λ k h. elim (cases_eq k i) [
      | inl e ↦ subst (λ j. bit_at (get_or new_words (j / 64) 0) (j % 64) ≡ 1) (sym e) here
      | inr other ↦ stays k other ∙ h
    ];
    has = here;
    only = λ k h. elim (cases_eq k i) [
      | inl e ↦ inr e
      | inr other ↦ inl (sym (stays k other) ∙ h)
    ];
  }
    where
      here : bit_at (get_or new_words (i / 64) 0) (i % 64) ≡ 1
      here = ap (λ w. bit_at w (i % 64)) same_word ∙ bit_at_set_same w64 (get_or old (i / 64) 0) (i % 64) (omega arith)

pub both_words : (a b new : List ℕ) → ((j : ℕ) → j < length a → get_or new j 0 ≡ bit_and (get_or a j 0) (get_or b j 0)) → length b ≡ length a → length new ≡ length a → IsBoth a b new
unfolding Has
both_words a b new each lb ln = record {
  has = λ k ha hb. at_bit k (has_within a k ha) ∙ rw (ha, hb) refl;
  first = λ k h. omega (arith, at_bit k (rw ln at (has_within new k h)), bit_at-lt (get_or a (k / 64) 0) (k % 64), bit_at-lt (get_or b (k / 64) 0) (k % 64));
  second = λ k h. omega (arith, at_bit k (rw ln at (has_within new k h)), bit_at-lt (get_or a (k / 64) 0) (k % 64), bit_at-lt (get_or b (k / 64) 0) (k % 64));
}
  where
    at_bit : (k : ℕ) → k < 64 * length a → bit_at (get_or new (k / 64) 0) (k % 64) ≡ min (bit_at (get_or a (k / 64) 0) (k % 64)) (bit_at (get_or b (k / 64) 0) (k % 64))
    at_bit k within = ap (λ w. bit_at w (k % 64)) (each (k / 64) (omega arith)) ∙ bit_at_and _ _ (k % 64)

zero_word : (n j : ℕ) → ◌≡◌ {A = ℕ} (get_or (replicate n 0) j 0) 0
zero_word n j = elim (cases_lt j n) [
  | inl lt ↦ get_or-replicate n j 0 0 lt
  | inr past ↦ get_or_past (replicate n 0) j 0 (simp length-replicate past)
]

pub empty_zeros : (n : ℕ) → IsEmpty (replicate n 0)
unfolding Has
empty_zeros n k h =
    let e : bit_at (get_or (replicate n 0) (k / 64) 0) (k % 64) ≡ bit_at 0 (k % 64) = ap (λ w. bit_at w (k % 64)) (zero_word n (k / 64)) in
    omega (arith, bit_at-zero (k % 64))

pub zeros_from_test : (words : List ℕ) → has_none words ≡ true → (k : ℕ) → ◌≡◌ {A = ℕ} (get_or words k 0) 0
zeros_from_test [] h k = refl
zeros_from_test (w ∷ words) h zero = eqb-true w 0 (and_parts _ _ h).0
zeros_from_test (w ∷ words) h (suc k) = zeros_from_test words (and_parts _ _ h).1 k

test_from_zeros : (words : List ℕ) → ((k : ℕ) → ◌≡◌ {A = ℕ} (get_or words k 0) 0) → has_none words ≡ true
test_from_zeros [] h = refl
test_from_zeros (w ∷ words) h = rw (eq-eqb w 0 (h 0), test_from_zeros words (λ k. h (suc k))) refl

-- the test of emptiness
pub has_none_tests : (words : List ℕ) → ((k : ℕ) → get_or words k 0 < 2 ^ 64) → IsTrue (has_none words) ↔ IsEmpty words
unfolding Has
has_none_tests words fits = (
  λ h k has.
      let e : bit_at (get_or words (k / 64) 0) (k % 64) ≡ bit_at 0 (k % 64) = ap (λ w. bit_at w (k % 64)) (zeros_from_test words h (k / 64)) in
      omega (arith, bit_at-zero (k % 64)),
  λ none. test_from_zeros words (λ k.
      let zero_bits : (i : ℕ) → i < 64 → bit_at (get_or words k 0) i ≡ bit_at 0 i = λ i small.
      let not_one : bit_at (get_or words k 0) i ≢ 1 = λ one. none (64 * k + i) (has_at words k i small one) in
      omega (arith, bit_at-lt (get_or words k 0) i, bit_at-zero i) in
      same_from_bits_below 64 (get_or words k 0) 0 (fits k) (omega arith) zero_bits),
)
