-- The states of an image, by their numbers.
use Rattle.std.proofs.Common.{◌≡◌, inl, inr, ℕ, ◌<◌, List, Some, slice_get, sym, ap, ◌∙◌, arith, false}
use Rattle.std.proofs.lemmas.Bool.{cases_lt}
use Rattle.std.proofs.lemmas.Option.{slice_get_within}
use Rattle.image_layout.specs.Layout.{state_total}
use Rattle.image_layout.specs.Tables.{KeepsLayout}
use Rattle.place_words.specs.Words.{words_for}
use Rattle.place_words.proofs.WordLaws.{zeros_from_test}
use Rattle.place_words.proofs.SetOf.{length-set_of, has_none-set_of}
use Rattle.std.proofs.lemmas.List.{ext_get_or}
use Rattle.position_nfa.specs.declared.pair.Pair.{Pair}
use Rattle.position_nfa.specs.Alphabets.{Alphabet, count}
use Rattle.position_nfa.specs.Sets.{no_places}
use Rattle.position_nfa.specs.Step.{dead_state, start_state}
use Rattle.table_images.specs.Images.{set_at, state_at, table_of}
use Rattle.image_audit.specs.Agreements.{OnceTo, AgreesInStates}
use Rattle.image_audit.proofs.Listed.{at_map}
use Rattle.image_audit.proofs.Sizes.{length-listed, count_same}
use Rattle.image_audit.proofs.SetLaws.{length-set_at, dead_empty}
use Rattle.image_audit.proofs.Numbering.{same_pair, named_is}

module _ (b : List ℕ) where
  pub state_listed : (n : ℕ) → n < state_total b → slice_get (table_of b).states n ≡ Some (state_at b n)
  state_listed n lt = at_map (state_at b) (state_total b) n lt

  pub number_within : (n : ℕ) (p : Pair) → slice_get (table_of b).states n ≡ Some p → n < state_total b
  number_within n p h = let lt = slice_get_within (table_of b).states n p h in omega (arith, lt, length-listed (state_at b) (state_total b))

  pub number_state : (n : ℕ) (p : Pair) → slice_get (table_of b).states n ≡ Some p → state_at b n ≡ p
  number_state n p h =
      let one : Some (state_at b n) ≡ Some p = sym (state_listed n (number_within n p h)) ∙ h in
      cc

  pub once_states : KeepsLayout b → OnceTo b (state_total b) → (k q : ℕ) → k < q → q < state_total b → state_at b k ≡ state_at b q → ⊥
  once_states layout once k q lt there e = once k q lt there (named_is b layout once k (omega (arith, lt, there)) ∙ (e ∙ sym (named_is b layout once q there)))

  -- a state has one number
  pub one_number : KeepsLayout b → OnceTo b (state_total b) → (n m : ℕ) (p : Pair) → slice_get (table_of b).states n ≡ Some p → slice_get (table_of b).states m ≡ Some p → n ≡ m
  one_number layout once n m p hn hm = elim (cases_lt n m) [
    | inl lt ↦ absurd (once_states layout once n m lt (number_within m p hm) (number_state n p hn ∙ sym (number_state m p hm)))
    | inr le ↦ elim (cases_lt m n) [
      | inl lt ↦ absurd (once_states layout once m n lt (number_within n p hn) (number_state m p hm ∙ sym (number_state n p hn)))
      | inr ge ↦ omega (arith, le, ge)
    ]
  ]

module _ (a : Alphabet) (b : List ℕ) (layout : KeepsLayout b) (agrees : AgreesInStates a b) where
  -- state 0 is the empty set
  pub dead_is : state_at b 0 ≡ dead_state a
  dead_is = same_pair (state_at b 0) (dead_state a) layout.kinds.dead.0
      (ext_get_or 0 (set_at b 0) (no_places a) (length-set_at b 0 ∙ (ap words_for (count_same a b agrees.started.lists) ∙ sym (length-set_of (count a) (λ i. false)))) (λ i lt.
      zeros_from_test (set_at b 0) (dead_empty b layout) i ∙ sym (zeros_from_test (no_places a) (has_none-set_of (count a)) i)))

  -- and state 1 the start
  pub start_is : state_at b 1 ≡ start_state a
  start_is = same_pair (state_at b 1) (start_state a) layout.kinds.start agrees.started.start
