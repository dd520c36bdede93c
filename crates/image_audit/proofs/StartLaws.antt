-- The set of state 1 beside the set of all places.
use Rattle.std.proofs.Common.{◌≡◌, ◌≢◌, ℕ, ◌<◌, ◌≤◌, true, List, length, Some, slice_get, get_or, sym, ap, ◌∙◌, arith}
use Rattle.std.proofs.lemmas.List.{ext_get_or}
use Rattle.std.proofs.lemmas.Option.{slice_get-get_or}
use Rattle.image_layout.specs.Layout.{set_words}
use Rattle.image_layout.specs.Fields.{member_at}
use Rattle.place_words.specs.Words.{words_for}
use Rattle.place_words.proofs.SetOf.{length-set_of}
use Rattle.position_nfa.specs.Alphabets.{Alphabet, count}
use Rattle.position_nfa.specs.Sets.{all_places}
use Rattle.table_images.specs.Images.{set_at}
use Rattle.image_audit.specs.Agreements.{AgreesInLists, AgreesInStart}
use Rattle.image_audit.specs.Differences.{DifferFirst}
use Rattle.image_audit.proofs.Sizes.{count_same}
use Rattle.image_audit.proofs.SetLaws.{length-set_at, set_word}

module _ (a : Alphabet) (b : List ℕ) where
  pub all_long : AgreesInLists a b → length (all_places a) ≡ set_words b
  all_long lists = length-set_of (count a) (λ i. true) ∙ ap words_for (sym (count_same a b lists))

  at_set : (k : ℕ) → k < set_words b → slice_get (set_at b 1) k ≡ Some (member_at b 1 k)
  at_set k lt = slice_get-get_or (set_at b 1) k 0 (omega (arith, lt, length-set_at b 1)) ∙ ap Some (set_word b 1 k 0 lt)

  at_all : (k : ℕ) → AgreesInLists a b → k < set_words b → slice_get (all_places a) k ≡ Some (get_or (all_places a) k 0)
  at_all k lists lt = slice_get-get_or (all_places a) k 0 (omega (arith, lt, all_long lists))

  pub start_differs : (word found due : ℕ) → AgreesInLists a b → word < set_words b → found ≡ member_at b 1 word → due ≡ get_or (all_places a) word 0 → found ≢ due
      → ((k : ℕ) → k < word → member_at b 1 k ≡ get_or (all_places a) k 0) → AgreesInLists a b × DifferFirst ℕ (set_at b 1) (all_places a) word (Some found) (Some due)
  start_differs word found due lists lt fe de ne before = (
    lists,
    record {
      before = λ k early. at_set k (omega (arith, early, lt)) ∙ (ap Some (before k early) ∙ sym (at_all k lists (omega (arith, early, lt))));
      found = ap Some fe ∙ sym (at_set word lt);
      due = ap Some de ∙ sym (at_all word lists lt);
      differ = λ e. ne (cc);
    },
  )

  pub start_agrees : (n : ℕ) → AgreesInLists a b → set_words b ≤ n → ((k : ℕ) → k < n → member_at b 1 k ≡ get_or (all_places a) k 0) → AgreesInStart a b
  start_agrees n lists le same = record {
    lists = lists;
    start = ext_get_or 0 (set_at b 1) (all_places a) (length-set_at b 1 ∙ sym (all_long lists)) (λ k lt.
        let within : k < set_words b = omega (arith, lt, length-set_at b 1) in
        set_word b 1 k 0 within ∙ same k (omega (arith, within, le)));
  }
