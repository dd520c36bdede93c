-- States that are numbered one by one.
use Rattle.std.proofs.Common.{◌≡◌, inl, inr, ℕ, zero, suc, ◌+◌, ◌<◌, ◌≤◌, Bool, true, false, List, [], ◌∷◌, ◌++◌, length, Some, slice_get, get_or, refl, sym, ap, subst, ◌∙◌, arith, true≢false, add-one, if◌then◌else◌}
use Rattle.std.specs.Prelude.{map, not}
use Rattle.std.specs.List.{list_any, position_or_len}
use Rattle.std.proofs.lemmas.Bool.{cases_lt}
use Rattle.std.proofs.lemmas.List.{map-append, ext_get_or}
use Rattle.std.proofs.lemmas.List.Folds.{list_any_at}
use Rattle.std.proofs.lemmas.List.Sums.{passes_at_first}
use Rattle.std.proofs.lemmas.Option.{get_or_from_slice_get}
use Rattle.wheel_types.specs.Edges.{below}
use Rattle.image_layout.specs.Layout.{state_total}
use Rattle.image_layout.specs.Fields.{phase_at}
use Rattle.image_layout.specs.Tables.{KeepsLayout}
use Rattle.place_words.specs.Words.{has_none, IsSet}
use Rattle.place_words.proofs.WordLaws.{zeros_from_test}
use Rattle.position_nfa.specs.declared.pair.Pair.{Pair}
use Rattle.position_nfa.specs.Alphabets.{Alphabet, count}
use Rattle.position_nfa.specs.Step.{same, phase_of}
use Rattle.position_nfa.proofs.States.{same-equal, same-laws}
use Rattle.table_images.specs.Images.{set_at, state_at, table_of}
use Rattle.table_images.specs.Kinds.{AreSets}
use Rattle.image_audit.specs.Agreements.{named, OnceTo}
use Rattle.image_audit.specs.Differences.{IsRepeat}
use Rattle.image_audit.proofs.Listed.{at_map}
use Rattle.image_audit.proofs.Sizes.{length-listed}
use Rattle.image_audit.proofs.SetLaws.{length-set_at, dead_empty}

pub same_pair : (p q : Pair) → p.phase ≡ q.phase → p.set ≡ q.set → p ≡ q
same_pair p q e f = λ i. record { phase = e i; set = f i }

same_self : (p : Pair) → same p p ≡ true
same_self p = same-laws.refl p

-- what an insertion into keys says: whether the key was new, and how many there are
pub none_new : (t x : Bool) → t ≡ not x → t ≡ true → x ≡ false
none_new t true e h = absurd (true≢false (sym h ∙ e))
none_new t false e h = refl

pub first_small : (new old first : ℕ) (t : Bool) → first < new → new ≡ old + (if t then 1 else 0) → first ≤ old
first_small new old first true lt e = omega (arith, lt, e)
first_small new old first false lt e = omega (arith, lt, e)

pub first_below : (new old first : ℕ) (t : Bool) → first < new → new ≡ old + (if t then 1 else 0) → t ≡ false → first < old
first_below new old first true lt e h = absurd (true≢false h)
first_below new old first false lt e h = omega (arith, lt, e)

no_state : Pair
no_state = record { phase = 0; set = [] }

module _ (b : List ℕ) (q : ℕ) (state : Pair) (keys : List Pair) (is : state ≡ named b q) (before : keys ≡ map (named b) (below q)) where
  key : (k : ℕ) → k < q → get_or keys k no_state ≡ named b k
  key k lt = get_or_from_slice_get keys k (named b k) no_state (ap (λ l. slice_get l k) before ∙ at_map (named b) q k lt)

  size : length keys ≡ q
  size = ap length before ∙ length-listed (named b) q

  -- a new one goes last
  pub numbered_more : (new : List Pair) → list_any (same state) keys ≡ false → new ≡ (if list_any (same state) keys then keys else keys ++ state ∷ []) → new ≡ map (named b) (below (q + 1))
  numbered_more new none e =
      e ∙ (ap (λ t. if t then keys else keys ++ state ∷ []) none
      ∙ (ap (λ l. l ++ state ∷ []) before ∙ (ap (λ s. map (named b) (below q) ++ s ∷ []) is
      ∙ (sym (map-append (named b) (below q) (q ∷ [])) ∙ ap (λ n. map (named b) (below n)) (sym (add-one q))))))

  pub once_more : list_any (same state) keys ≡ false → OnceTo b q → OnceTo b (q + 1)
  once_more none once k r lt within e = elim (cases_lt r q) [
    | inl early ↦ once k r lt early e
    | inr late ↦
        let last : r ≡ q = omega (arith, late, within) in
        let there : k < q = omega (arith, lt, last) in
        let equal : get_or keys k no_state ≡ state = key k there ∙ (e ∙ (ap (named b) last ∙ sym is)) in
        let any = list_any_at (same state) keys k no_state (omega (arith, size, there)) (ap (same state) equal ∙ same_self state) in
        true≢false (sym any ∙ none)
  ]

  -- one that is there repeats the first of them
  pub repeats : (first : ℕ) → first ≡ position_or_len (same state) keys → first < length keys → OnceTo b q → q < state_total b → IsRepeat b first q
  repeats first at lt once within =
      let there : first < q = omega (arith, lt, size) in
      let inside : position_or_len (same state) keys < length keys = subst (λ n. n < length keys) at lt in
      let passes = passes_at_first (same state) keys no_state inside in
      let equal : state ≡ get_or keys first no_state = same-equal state (get_or keys first no_state) (ap (λ n. same state (get_or keys n no_state)) at ∙ passes) in
      record {
        before = once;
        within = within;
        earlier = there;
        equal = sym (key first there) ∙ (sym equal ∙ is);
      }

-- one set more
pub sets_more : (a : Alphabet) (keys new : List Pair) (p : Pair) → AreSets a keys → new ≡ keys ++ p ∷ [] → IsSet (count a) p.set → AreSets a new
sets_more a keys new p sets e is q x at = more keys q sets (subst (λ l. slice_get l q ≡ Some x) e at)
  where
    more : (ks : List Pair) (q : ℕ) → AreSets a ks → slice_get (ks ++ p ∷ []) q ≡ Some x → IsSet (count a) x.set
    more [] zero sets h = let one : p ≡ x = cc in subst (λ (s : Pair). IsSet (count a) s.set) one is
    more [] (suc q) sets h = absurd (cc)
    more (k ∷ ks) zero sets h = sets zero x h
    more (k ∷ ks) (suc q) sets h = more ks q (λ i y g. sets (suc i) y g) h

module _ (b : List ℕ) (layout : KeepsLayout b) where
  phase_zero : (t : Bool) (n : ℕ) → n ≡ 0 → (if t then 0 else n) ≡ n
  phase_zero true n e = sym e
  phase_zero false n e = refl

  -- two sets of no places are one
  empty_same : (q : ℕ) → has_none (set_at b q) ≡ true → set_at b q ≡ set_at b 0
  empty_same q none = ext_get_or 0 (set_at b q) (set_at b 0) (length-set_at b q ∙ sym (length-set_at b 0)) (λ i lt.
      zeros_from_test (set_at b q) none i ∙ sym (zeros_from_test (set_at b 0) (dead_empty b layout) i))

  -- where the states are different ones, each is itself
  pub named_is : OnceTo b (state_total b) → (q : ℕ) → q < state_total b → named b q ≡ state_at b q
  named_is once zero lt = same_pair (named b 0) (state_at b 0) (phase_zero (has_none (set_at b 0)) (phase_at b 0) layout.kinds.dead.0) refl
  named_is once (suc q) lt = by (has_none (set_at b (suc q))) refl
    where
      by : (t : Bool) → has_none (set_at b (suc q)) ≡ t → named b (suc q) ≡ state_at b (suc q)
      by false some = same_pair (named b (suc q)) (state_at b (suc q)) (ap (λ t. if t then 0 else phase_at b (suc q)) some) refl
      by true none =
          let set : set_at b (suc q) ≡ set_at b 0 = empty_same (suc q) none in
          let phase : phase_of (phase_at b (suc q)) (set_at b (suc q)) ≡ 0 = ap (λ t. if t then 0 else phase_at b (suc q)) none in
          let first : phase_of (phase_at b 0) (set_at b 0) ≡ 0 = ap (λ t. if t then 0 else phase_at b 0) (dead_empty b layout) in
          absurd (once 0 (suc q) (omega arith) lt (same_pair (named b 0) (named b (suc q)) (first ∙ sym phase) (sym set)))

  pub all_named : OnceTo b (state_total b) → map (named b) (below (state_total b)) ≡ (table_of b).states
  all_named once =
      let long = length-listed (named b) (state_total b) in
      ext_get_or no_state (map (named b) (below (state_total b))) (map (state_at b) (below (state_total b))) (long ∙ sym (length-listed (state_at b) (state_total b))) (λ i lt.
      let within : i < state_total b = omega (arith, lt, long) in
      get_or_from_slice_get (map (named b) (below (state_total b))) i (named b i) no_state (at_map (named b) (state_total b) i within)
      ∙ (named_is once i within ∙ sym (get_or_from_slice_get (map (state_at b) (below (state_total b))) i (state_at b i) no_state (at_map (state_at b) (state_total b) i within))))
