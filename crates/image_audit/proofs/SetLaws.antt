-- The phases and sets of the states of an image that keeps the layout.
use Rattle.std.proofs.Common.{◌≡◌, inl, inr, ℕ, zero, suc, ◌+◌, ◌-◌, ◌*◌, ◌/◌, ◌%◌, ◌^◌, ◌<◌, ◌≤◌, true, List, length, drop, get_or, refl, sym, ap, subst, ◌∙◌, arith, eq-eqb}
use Rattle.std.specs.Prelude.{All, ◌==◌}
use Rattle.std.specs.Int.{bit_at}
use Rattle.std.proofs.lemmas.Bool.{cases_lt}
use Rattle.std.proofs.lemmas.List.{length-map, get_or-map, get_or-drop}
use Rattle.std.proofs.lemmas.List.Sums.{list_all-from_AllPass}
use Rattle.std.proofs.lemmas.Nat.Bits.{bit_at_above}
use Rattle.byteorder.specs.Endian.{little_from}
use Rattle.wheel_types.specs.Edges.{below}
use Rattle.image_layout.specs.Layout.{number_at, place_total, state_total, set_words, members_begin}
use Rattle.image_layout.specs.Fields.{phase_at, member_at}
use Rattle.image_layout.specs.Tables.{KeepsLayout}
use Rattle.image_layout.proofs.Below.{length-below, below_at}
use Rattle.place_words.specs.Words.{Has, has_none, IsSet}
use Rattle.place_words.proofs.WordLaws.{has_within}
use Rattle.table_images.specs.Images.{set_at}

-- a number of bytes that are zero
zero_from : (i n : ℕ) (xs : List ℕ) → ((k : ℕ) → i ≤ k → k < i + n → get_or xs k 0 ≡ 0) → little_from i n xs ≡ 0
zero_from i zero xs each = refl
zero_from i (suc n) xs each =
    let head = each i (omega arith) (omega arith) in
    let rest = zero_from (suc i) n xs (λ k from to. each k (omega arith) (omega arith)) in
    omega (arith, head, rest)

pub length-set_at : (b : List ℕ) (q : ℕ) → length (set_at b q) ≡ set_words b
length-set_at b q = length-map (below (set_words b)) (member_at b q) ∙ length-below (set_words b)

pub set_word : (b : List ℕ) (q w d : ℕ) → w < set_words b → get_or (set_at b q) w d ≡ member_at b q w
set_word b q w d lt =
    let size : length (below (set_words b)) ≡ set_words b = length-below (set_words b) in
    get_or-map (member_at b q) (below (set_words b)) w 0 d (omega (arith, size, lt)) ∙ ap (member_at b q) (below_at (set_words b) w 0 lt)

module _ (b : List ℕ) (layout : KeepsLayout b) where
  zero_word : (w : ℕ) → w < set_words b → member_at b 0 w ≡ 0
  unfolding number_at
  zero_word w lt =
      let at : ℕ = members_begin b + 8 * (0 * set_words b + w) in
      zero_from 0 8 (drop at b) (λ k from to. get_or-drop at b k 0 ∙ layout.members.dead (at + k) (omega arith) (omega (arith, lt)))

  -- state 0 has no place
  pub dead_empty : has_none (set_at b 0) ≡ true
  dead_empty = list_all-from_AllPass (λ (x : ℕ). x == 0) (set_at b 0) (λ i d lt.
      let within : i < set_words b = omega (arith, lt, length-set_at b 0) in
      eq-eqb _ _ (set_word b 0 i d within ∙ zero_word i within))

  -- phases are small
  pub phase_small : (q : ℕ) → q < state_total b → phase_at b q ≤ 5
  phase_small zero lt = let e = layout.kinds.dead.0 in omega (arith, e)
  phase_small (suc q) lt = layout.kinds.phases (suc q) (omega arith) lt

  -- no set has a member past the places
  pub set_inside : (q i : ℕ) → q < state_total b → Has (set_at b q) i → i < place_total b
  unfolding Has
  set_inside q i there h = elim (cases_lt (i / 64) (set_words b - 1)) [
    | inl before ↦ omega (arith, before)
    | inr last ↦
        let size = length-set_at b q in
        let within : i < 64 * length (set_at b q) = has_within (set_at b q) i h in
        let at : i / 64 ≡ set_words b - 1 = omega (arith, last, within, size) in
        let some : set_words b - 1 < set_words b = omega (arith, within, size) in
        let word : get_or (set_at b q) (i / 64) 0 ≡ member_at b q (set_words b - 1) = ap (λ k. get_or (set_at b q) k 0) at ∙ set_word b q (set_words b - 1) 0 some in
        let small : member_at b q (set_words b - 1) < 2 ^ (place_total b - 64 * (set_words b - 1)) = layout.members.places q there in
        let bit : bit_at (member_at b q (set_words b - 1)) (i % 64) ≡ 1 = ap (λ w. bit_at w (i % 64)) (sym word) ∙ h in
        inside (member_at b q (set_words b - 1)) (place_total b - 64 * (set_words b - 1)) at small bit
  ]
    where
      inside : (w k : ℕ) → i / 64 ≡ set_words b - 1 → w < 2 ^ (place_total b - 64 * (set_words b - 1)) → bit_at w (i % 64) ≡ 1 → i < place_total b
      inside w k at small bit = elim (cases_lt (i % 64) (place_total b - 64 * (set_words b - 1))) [
        | inl lt ↦ omega (arith, lt, at)
        | inr past ↦ let none : bit_at w (i % 64) ≡ 0 = bit_at_above w (place_total b - 64 * (set_words b - 1)) (i % 64) small past in absurd (omega (arith, none, bit))
      ]

  -- where its words fit, it is a set of places
  pub set_is : (n q : ℕ) → q < state_total b → place_total b ≡ n → All (λ w. w < 2 ^ 64) (set_at b q) → IsSet n (set_at b q)
  set_is n q there e fits = subst (λ m. IsSet m (set_at b q)) e (record {
    words = length-set_at b q;
    fits = fits;
    inside = λ i h. set_inside q i there h;
  })
