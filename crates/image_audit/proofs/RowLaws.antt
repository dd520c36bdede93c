-- Kinds and entries that are compared one by one.
use Rattle.std.proofs.Common.{◌≡◌, inl, inr, ℕ, ◌+◌, ◌≤◌, false, List, length, Option, Some, slice_get, sym, ap, subst, ◌∙◌, arith, true≢false}
use Rattle.std.specs.List.{list_any}
use Rattle.std.proofs.lemmas.Bool.{cases_lt}
use Rattle.std.proofs.lemmas.List.Folds.{list_any_at}
use Rattle.std.proofs.lemmas.Option.{slice_get_within, get_or_from_slice_get}
use Rattle.image_layout.specs.Layout.{state_total, row_width}
use Rattle.image_layout.specs.Fields.{kind_at, entry_at}
use Rattle.image_layout.specs.declared.kind.Kind.{Kind}
use Rattle.position_nfa.specs.declared.pair.Pair.{Pair}
use Rattle.position_nfa.specs.Alphabets.{Alphabet}
use Rattle.position_nfa.specs.Sound.{IsDue, SetSays}
use Rattle.position_nfa.specs.Step.{same, next_state}
use Rattle.position_nfa.proofs.States.{same-laws}
use Rattle.table_images.specs.Images.{set_at, state_at, table_of}
use Rattle.table_images.specs.Kinds.{says_of}
use Rattle.image_audit.specs.Agreements.{KindsTo, EntryIsDue, EntriesTo, AgreesInLists, AgreesInKinds, AgreesInRows}
use Rattle.image_audit.specs.Differences.{IsDueNumber}
use Rattle.image_audit.proofs.Sizes.{length-listed, width_same}
use Rattle.image_audit.proofs.Firsts.{number_state}

-- the states by their numbers are those of the image
pub state_is : (b : List ℕ) (keys : List Pair) (q : ℕ) (p : Pair) → keys ≡ (table_of b).states → slice_get keys q ≡ Some p → p ≡ state_at b q
state_is b keys q p e at = sym (number_state b q p (subst (λ l. slice_get l q ≡ Some p) e at))

pub keys_long : (b : List ℕ) (keys : List Pair) → keys ≡ (table_of b).states → length keys ≡ state_total b
keys_long b keys e = ap (λ l. length l) e ∙ length-listed (state_at b) (state_total b)

-- what a set says, where it is that of a state
pub says_of_state : (a : Alphabet) (b : List ℕ) (keys : List Pair) (q : ℕ) (p : Pair) (set : List ℕ) (due : Kind) → keys ≡ (table_of b).states → slice_get keys q ≡ Some p → set ≡ p.set → SetSays a set (says_of due) → SetSays a (set_at b q) (says_of due)
says_of_state a b keys q p set due e at same says = subst (λ s. SetSays a s (says_of due)) (same ∙ ap (λ (s : Pair). s.set) (state_is b keys q p e at)) says

pub kinds_more : (a : Alphabet) (b : List ℕ) (q : ℕ) (found due : Kind) → KindsTo a b q → found ≡ kind_at b q → found ≡ due → SetSays a (set_at b q) (says_of due) → KindsTo a b (q + 1)
kinds_more a b q found due before at same says r lt = elim (cases_lt r q) [
  | inl early ↦ before r early
  | inr late ↦
      let last : q ≡ r = omega (arith, late, lt) in
      subst (λ n. SetSays a (set_at b n) (says_of (kind_at b n))) last (subst (λ k. SetSays a (set_at b q) (says_of k)) (sym same ∙ at) says)
]

-- the number of the due state, where the states and the state are those of the image
pub due_of_state : (a : Alphabet) (b : List ℕ) (keys : List Pair) (q column : ℕ) (p : Pair) (due : Option ℕ) → keys ≡ (table_of b).states → slice_get keys q ≡ Some p → IsDueNumber keys (next_state a p column) due
    → IsDueNumber (table_of b).states (next_state a (state_at b q) column) due
due_of_state a b keys q column p due e at is =
    subst (λ s. IsDueNumber (table_of b).states (next_state a s column) due) (state_is b keys q p e at) (subst (λ l. IsDueNumber l (next_state a p column) due) e is)

-- one entry more
pub entry_more : (a : Alphabet) (b : List ℕ) (q column found : ℕ) (due : Option ℕ) → EntriesTo a b q column → found ≡ entry_at b q column → due ≡ Some found
    → IsDueNumber (table_of b).states (next_state a (state_at b q) column) due → EntriesTo a b q (column + 1)
entry_more a b q column found due before at same is = record {
  rows = before.rows;
  columns = λ c lt. elim (cases_lt c column) [
    | inl early ↦ before.columns c early
    | inr late ↦
        let last : column ≡ c = omega (arith, late, lt) in
        let here : IsDue (table_of b).states (next_state a (state_at b q) column) found = subst (IsDueNumber (table_of b).states (next_state a (state_at b q) column)) same is in
        subst (EntryIsDue a b q) last (subst (IsDue (table_of b).states (next_state a (state_at b q) column)) at here)
  ];
}

-- one row more
pub row_more : (a : Alphabet) (b : List ℕ) (q column : ℕ) → AgreesInLists a b → row_width b ≤ column → EntriesTo a b q column → EntriesTo a b (q + 1) 0
row_more a b q column lists le before = record {
  rows = λ r c lt inside. elim (cases_lt r q) [
    | inl early ↦ before.rows r c early inside
    | inr late ↦
        let last : q ≡ r = omega (arith, late, lt) in
        let wide = width_same a b lists in
        subst (λ n. EntryIsDue a b n c) last (before.columns c (omega (arith, wide, inside, le)))
  ];
  columns = λ c lt. absurd (omega (arith, lt));
}

pub none_before : (a : Alphabet) (b : List ℕ) → EntriesTo a b 0 0
none_before a b = record { rows = λ r c lt inside. absurd (omega (arith, lt)); columns = λ c lt. absurd (omega (arith, lt)) }

pub rows_agree : (a : Alphabet) (b : List ℕ) (q : ℕ) → AgreesInKinds a b → state_total b ≤ q → EntriesTo a b q 0 → AgreesInRows a b
rows_agree a b q kinds le all = record {
  kinds = kinds;
  entries = λ r c lt inside. all.rows r c (omega (arith, lt, le)) inside;
}

-- a state that is not among them has no number
pub no_number : (keys : List Pair) (p : Pair) → list_any (same p) keys ≡ false → (n : ℕ) → slice_get keys n ≡ Some p → ⊥
no_number keys p none n at =
    let any = list_any_at (same p) keys n p (slice_get_within keys n p at) (ap (same p) (get_or_from_slice_get keys n p p at) ∙ same-laws.refl p) in
    true≢false (sym any ∙ none)
