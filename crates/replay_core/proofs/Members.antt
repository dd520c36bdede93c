-- The places of a state's members, word by word.
use Rattle.std.proofs.Common.{◌≡◌, ℕ, zero, suc, ◌+◌, ◌-◌, ◌*◌, ◌/◌, ◌%◌, ◌^◌, ◌<◌, ◌≤◌, ◌==◌, if◌then◌else◌, Bool, true, false, inl, inr}
use Rattle.std.proofs.Common.{List, [], ◌∷◌, ◌++◌, Contains, append-nil, refl, sym, subst, ap, ◌∙◌, arith, eq-eqb, eqb-true}
use Rattle.std.proofs.lemmas.Bool.{cases_lt}
use Rattle.std.proofs.lemmas.List.Elements.{Contains-append_left, Contains-push, Contains-push_cases}
use Rattle.std.proofs.lemmas.Nat.{shr-shr}
use Rattle.std.proofs.lemmas.Nat.Bits.{bit_at_above, bit_at-zero}
use Rattle.std.specs.Int.{bit_at}
use Rattle.std.specs.Prelude.{count_ones}
use Rattle.wheel_types.specs.declared.place.Place.{Place}
use Rattle.image_layout.specs.Layout.{place_total, set_words, state_total}
use Rattle.image_layout.specs.Fields.{member_at, place_at}
use Rattle.image_layout.specs.Tables.{KeepsLayout}
use Rattle.place_words.specs.Words.{Has}
use Rattle.table_images.specs.Images.{set_at}
use Rattle.image_audit.proofs.SetLaws.{set_word, set_inside}
use Rattle.cam_ranges.specs.Places.{IsLess, IsAscending}
use Rattle.cam_ranges.specs.Gathered.{AreExactly}
use Rattle.cam_ranges.proofs.GatheredPlaces.{ascending_with}
use Rattle.cam_ranges.proofs.OrderedLists.{less_through}
use Rattle.sound_walk.specs.Holding.{HasMember}
use Rattle.replay_core.specs.Covers.{has_place, members_below, members_in}

-- ---- one number more

pub no_words : (b : List ℕ) (q : ℕ) → 0 ≡ members_in b q 0
unfolding members_in
no_words b q = refl

pub one_word : (b : List ℕ) (q w n m : ℕ) → n ≡ members_in b q w → m ≡ member_at b q w → n + count_ones m ≡ members_in b q (w + 1)
unfolding members_in
one_word b q w n m e f =
    let next : w + 1 ≡ suc w = omega arith in
    rw (next, e, f) refl

pub none_below : (b : List ℕ) (q : ℕ) → [] ≡ members_below b q 0
unfolding members_below
none_below b q = refl

no_member : (b : List ℕ) (q n : ℕ) → has_place b q n ≡ false → members_below b q (suc n) ≡ members_below b q n
unfolding members_below
no_member b q n e = ap (λ v. members_below b q n ++ (if v then place_at b n ∷ [] else [])) e ∙ append-nil (members_below b q n)

one_member : (b : List ℕ) (q n : ℕ) → has_place b q n ≡ true → members_below b q (suc n) ≡ members_below b q n ++ place_at b n ∷ []
unfolding members_below
one_member b q n e = ap (λ v. members_below b q n ++ (if v then place_at b n ∷ [] else [])) e

no_members : (b : List ℕ) (q n m : ℕ) → ((k : ℕ) → k < m → has_place b q (n + k) ≡ false) → members_below b q (n + m) ≡ members_below b q n
no_members b q n zero none = ap (members_below b q) (omega arith)
no_members b q n (suc m) none =
    let next : n + suc m ≡ suc (n + m) = omega arith in
    ap (members_below b q) next ∙ (no_member b q (n + m) (none m (omega arith)) ∙ no_members b q n m (λ k lt. none k (omega (arith, lt))))

-- ---- the bits of a word

-- what is left of word w of the set, from the number on
pub record IsRest (b : List ℕ) (q w number left : ℕ) : Type 0 where
  pub from : 64 * w ≤ number
  pub upto : number ≤ 64 * (w + 1)
  pub is : left ≡ member_at b q w / 2 ^ (number - 64 * w)
  pub small : member_at b q w < 2 ^ 64

pub all_left : (b : List ℕ) (q w : ℕ) → member_at b q w < 2 ^ 64 → IsRest b q w (64 * w) (member_at b q w)
all_left b q w small =
    let none : 64 * w - 64 * w ≡ 0 = omega arith in
    record {
      from = omega arith;
      upto = omega arith;
      is = rw none (omega arith);
      small = small;
    }

place_bit : (b : List ℕ) (q w k : ℕ) → k < 64 → has_place b q (64 * w + k) ≡ (bit_at (member_at b q w) k == 1)
place_bit b q w k small =
    let word : (64 * w + k) / 64 ≡ w = omega arith in
    let bit : (64 * w + k) % 64 ≡ k = omega arith in
    ap (λ x. bit_at (member_at b q x) ((64 * w + k) % 64) == 1) word ∙ ap (λ x. bit_at (member_at b q w) x == 1) bit

module _ (b : List ℕ) (q w number left : ℕ) (rest : IsRest b q w number left) where
  left_bit : (k : ℕ) → bit_at left k ≡ bit_at (member_at b q w) (number - 64 * w + k)
  left_bit k = ap (λ x. bit_at x k) rest.is ∙ ap (λ x. x % 2) (shr-shr (member_at b q w) (number - 64 * w) k)

  bit_place : (k : ℕ) → number + k < 64 * (w + 1) → has_place b q (number + k) ≡ (bit_at left k == 1)
  bit_place k lt =
      let from = rest.from in
      let at : number + k ≡ 64 * w + (number - 64 * w + k) = omega (arith, from) in
      ap (has_place b q) at
      ∙ (place_bit b q w (number - 64 * w + k) (omega (arith, from, lt)) ∙ ap (λ x. x == 1) (sym (left_bit k)))

  -- nothing is left
  pub none_left : left ≡ 0 → members_below b q (64 * (w + 1)) ≡ members_below b q number
  none_left none =
      let upto = rest.upto in
      let all : 64 * (w + 1) ≡ number + (64 * (w + 1) - number) = omega (arith, upto) in
      ap (members_below b q) all
      ∙ no_members b q number (64 * (w + 1) - number)
      (λ k lt. bit_place k (omega (arith, lt)) ∙ ap (λ x. bit_at x k == 1) none ∙ ap (λ x. x == 1) (bit_at-zero k))

  -- the lowest bit that is left
  module _ (t : ℕ) (one : bit_at left t ≡ 1) (lower : (k : ℕ) → k < t → bit_at left k ≡ 0) where
    pub in_word : number + t < 64 * (w + 1)
    in_word = elim (cases_lt (number - 64 * w + t) 64) [
      | inl lt ↦ let from = rest.from in omega (arith, from, lt)
      | inr past ↦ absurd (
          let above = bit_at_above (member_at b q w) 64 (number - 64 * w + t) rest.small past in
          let same = left_bit t in
          omega (arith, above, same, one))
    ]

    pub is_member : has_place b q (number + t) ≡ true
    is_member = bit_place t in_word ∙ eq-eqb _ 1 one

    members_on : members_below b q (number + t + 1) ≡ members_below b q number ++ place_at b (number + t) ∷ []
    members_on =
        let lt = in_word in
        let next : number + t + 1 ≡ suc (number + t) = omega arith in
        ap (members_below b q) next
        ∙ (one_member b q (number + t) is_member
        ∙ ap (λ l. l ++ place_at b (number + t) ∷ [])
        (no_members b q number t (λ k below. bit_place k (omega (arith, lt, below)) ∙ ap (λ x. x == 1) (lower k below))))

    pub pushed_on : (before after : List Place) (p : Place) → after ≡ before ++ p ∷ [] → before ≡ members_below b q number
        → p ≡ place_at b (number + t) → after ≡ members_below b q (number + t + 1)
    pushed_on before after p push all is =
        push ∙ ap (λ l. l ++ p ∷ []) all ∙ ap (λ x. members_below b q number ++ x ∷ []) is ∙ sym members_on

    pub rest_on : IsRest b q w (number + t + 1) (left / 2 ^ t / 2 ^ 1)
    rest_on =
        let from = rest.from in
        let lt = in_word in
        let m : ℕ = member_at b q w in
        let shift : number - 64 * w + t + 1 ≡ number + t + 1 - 64 * w = omega (arith, from) in
        record {
          from = omega (arith, from);
          upto = omega (arith, lt);
          is = ap (λ x. x / 2 ^ t / 2 ^ 1) rest.is ∙ ap (λ x. x / 2 ^ 1) (shr-shr m (number - 64 * w) t)
              ∙ shr-shr m (number - 64 * w + t) 1 ∙ ap (λ x. m / 2 ^ x) shift;
          small = rest.small;
        }

-- ---- all of them

-- a member below n
abbrev IsMemberBelow : List ℕ → ℕ → ℕ → Place → Type 0
IsMemberBelow b q n p = (k : ℕ) × ((k < n) × ((has_place b q k ≡ true) × (place_at b k ≡ p)))

module _ (b : List ℕ) (q : ℕ) (layout : KeepsLayout b) (there : q < state_total b) where
  word_of : (k : ℕ) → k < 64 * set_words b → k / 64 < set_words b
  word_of k lt = omega (arith, lt)

  has_in : (k : ℕ) → k < 64 * set_words b → has_place b q k ≡ true → Has (set_at b q) k
  unfolding Has
  has_in k lt e = ap (λ x. bit_at x (k % 64)) (set_word b q (k / 64) 0 (word_of k lt)) ∙ eqb-true _ 1 e

  pub inside : (k : ℕ) → k < 64 * set_words b → has_place b q k ≡ true → k < place_total b
  inside k lt e = set_inside b layout q k there (has_in k lt e)

  in_has : (k : ℕ) → k < place_total b → Has (set_at b q) k → has_place b q k ≡ true
  unfolding Has
  in_has k lt h = eq-eqb _ 1 (ap (λ x. bit_at x (k % 64)) (sym (set_word b q (k / 64) 0 (omega (arith, lt)))) ∙ h)

  less : (n k : ℕ) → k < n → n < place_total b → IsLess (place_at b k) (place_at b n)
  less zero k lt within = absurd (omega (arith, lt))
  less (suc n) k lt within =
      let next : n + 1 ≡ suc n = omega arith in
      let step : IsLess (place_at b n) (place_at b (suc n)) =
      subst (λ x. IsLess (place_at b n) (place_at b x)) next (layout.places.ascend n (omega (arith, within))) in
      elim (cases_lt k n) [
        | inl before ↦ less_through _ _ _ (less n k before (omega (arith, within))) step
        | inr last ↦ let same : n ≡ k = omega (arith, lt, last) in subst (λ x. IsLess (place_at b x) (place_at b (suc n))) same step
      ]

  more : (n : ℕ) (p : Place) → IsMemberBelow b q n p → IsMemberBelow b q (suc n) p
  more n p m = let lt = m.1.0 in (m.0, (omega (arith, lt), m.1.1))

  to : (n : ℕ) (p : Place) → Contains (members_below b q n) p → IsMemberBelow b q n p
  unfolding members_below
  to zero p c = let lt = c.1 in absurd (omega (arith, lt))
  to (suc n) p c = by (λ old. more n p (to n p old)) (has_place b q n) refl c
    where
      by : (Contains (members_below b q n) p → IsMemberBelow b q (suc n) p) → (v : Bool) → has_place b q n ≡ v
          → Contains (members_below b q n ++ (if v then place_at b n ∷ [] else [])) p → IsMemberBelow b q (suc n) p
      by before true e c = elim (Contains-push_cases (members_below b q n) (place_at b n) p c) [
        | inl old ↦ before old
        | inr same ↦ (n, (omega arith, (e, same)))
      ]
      by before false e c = before (subst (λ l. Contains l p) (append-nil (members_below b q n)) c)

  back : (n k : ℕ) → k < n → has_place b q k ≡ true → Contains (members_below b q n) (place_at b k)
  unfolding members_below
  back zero k lt e = absurd (omega (arith, lt))
  back (suc n) k lt e = elim (cases_lt k n) [
    | inl before ↦ Contains-append_left (members_below b q n) _ (place_at b k) (back n k before e)
    | inr last ↦
        let same : k ≡ n = omega (arith, lt, last) in
        let has : has_place b q n ≡ true = subst (λ x. has_place b q x ≡ true) same e in
        subst (λ l. Contains l (place_at b k)) (sym (one_member b q n has))
        (subst (λ x. Contains (members_below b q n ++ place_at b x ∷ []) (place_at b k)) same
        (Contains-push (members_below b q n) (place_at b k)))
  ]

  ascends : (n : ℕ) → n ≤ 64 * set_words b → IsAscending (members_below b q n)
  unfolding members_below
  ascends zero le = λ x y d h k. absurd (omega (arith, k))
  ascends (suc n) le = by (ascends n (omega (arith, le))) (has_place b q n) refl
    where
      by : IsAscending (members_below b q n) → (v : Bool) → has_place b q n ≡ v
          → IsAscending (members_below b q n ++ (if v then place_at b n ∷ [] else []))
      by before true e = ascending_with (members_below b q n) (place_at b n) before (λ p c.
          let m = to n p c in
          subst (λ x. IsLess x (place_at b n)) m.1.1.1 (less n m.0 m.1.0 (inside n (omega (arith, le)) e)))
      by before false e = subst IsAscending (sym (append-nil (members_below b q n))) before

  pub exactly_members : AreExactly (HasMember b q) (members_below b q (64 * set_words b))
  exactly_members = record {
    ascend = ascends (64 * set_words b) (omega arith);
    exact = λ p. (
      λ c.
          let m = to (64 * set_words b) p c in
          (m.0, (inside m.0 m.1.0 m.1.1.0, (has_in m.0 m.1.0 m.1.1.0, m.1.1.1))),
      λ h.
          let lt = h.1.0 in
          subst (Contains (members_below b q (64 * set_words b))) h.1.1.1
          (back (64 * set_words b) h.0 (omega (arith, lt)) (in_has h.0 h.1.0 h.1.1.0)),
    );
  }
