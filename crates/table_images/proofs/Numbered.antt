-- What the compiler's numbering says of the first two states, and of all sets.
use Rattle.std.proofs.Common.{◌≡◌, ◌⊎◌, inl, inr, ℕ, ◌≤◌, true, false, List, [], ◌∷◌, ◌++◌, length, Some, slice_get, Contains, refl, sym, ap, subst, true≢false, arith}
use Rattle.std.specs.List.{list_any}
use Rattle.std.proofs.lemmas.List.Elements.{Contains-push_cases}
use Rattle.wheel_types.specs.declared.parts.WheelParts.{WheelParts}
use Rattle.place_words.specs.Words.{Has}
use Rattle.place_words.proofs.SetOf.{has-set_of, set_of-has}
use Rattle.position_nfa.specs.declared.pair.Pair.{Pair}
use Rattle.position_nfa.specs.Alphabets.{Alphabet, IsAlphabetOf, count, width}
use Rattle.position_nfa.specs.Families.{IsLeastFamily, IsNumbering, explored}
use Rattle.position_nfa.specs.Step.{same, next_state, dead_state, start_state}
use Rattle.position_nfa.proofs.States.{same-equal, same-laws, dead-stays}
use Rattle.subset_build.specs.Limit.{effective_limit}
use Rattle.subset_build.proofs.FamilyLaws.{numbered_cases, explored_keeps}
use Rattle.subset_build.proofs.Limits.{explored-is_set}
use Rattle.subset_build.proofs.RowLaws.{first_at}
use Rattle.table_images.specs.Tables.{IsTable}

module _ (a : Alphabet) (some : 1 ≤ count a) where
  -- the start is not the empty set
  apart : dead_state a ≡ start_state a → ⊥
  apart e =
      let there : Has (start_state a).set 0 = has-set_of (count a) (λ i. true) 0 (omega (arith, some)) refl in
      let none : Has (dead_state a).set 0 = subst (λ (p : Pair). Has p.set 0) (sym e) there in
      true≢false (sym (set_of-has (count a) (λ i. false) 0 none).1)

  second_first : slice_get (explored a 0) 1 ≡ Some (start_state a)
  second_first = by (numbered_cases same same-laws same-equal (next_state a) (width a) (dead_state a) (start_state a) (dead_state a ∷ []) (start_state a))
    where
      by : ((Contains (dead_state a ∷ []) (start_state a)) × (explored a 0 ≡ dead_state a ∷ [])) ⊎ ((list_any (same (start_state a)) (dead_state a ∷ []) ≡ false) × (explored a 0 ≡ (dead_state a ∷ []) ++ start_state a ∷ [])) → slice_get (explored a 0) 1 ≡ Some (start_state a)
      by (inl there) = elim (Contains-push_cases [] (dead_state a) (start_state a) there.0) [ inl none ↦ absurd (omega (arith, none.1)) | inr e ↦ absurd (apart e) ]
      by (inr new) = ap (λ (l : List Pair). slice_get l 1) new.1

  pub second_at : (ks : List Pair) (n : ℕ) → ks ≡ explored a n → slice_get ks 1 ≡ Some (start_state a)
  second_at ks n e =
      subst (λ l. slice_get l 1 ≡ Some (start_state a)) (sym e)
      (explored_keeps same same-laws same-equal (next_state a) (width a) (dead_state a) (start_state a) (dead-stays a) 0 n (omega arith) 1 (start_state a) second_first)

  pub table_by : (w : WheelParts) (limit : ℕ) (states : List Pair) → IsAlphabetOf w a → IsLeastFamily a states → IsNumbering a states → length states ≤ effective_limit a limit → IsTable w a limit states
  table_by w limit states is family numbering within = record {
    alphabet = is;
    some = some;
    family = family;
    numbering = numbering;
    within = within;
    dead = first_at a states (length states) (sym numbering);
    start = second_at states (length states) (sym numbering);
    sets = λ q p h. explored-is_set a (length states) q p (subst (λ l. slice_get l q ≡ Some p) (sym numbering) h);
  }
