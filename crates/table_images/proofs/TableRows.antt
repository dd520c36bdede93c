-- The rows of a table, as an image wants them.
use Rattle.std.proofs.Common.{◌≡◌, ◌⊎◌, inl, inr, ℕ, zero, suc, ◌+◌, ◌*◌, ◌<◌, Bool, true, false, List, [], ◌∷◌, length, Option, Some, None, slice_get, get_or, refl, sym, ap, subst, ◌∙◌, true≢false, arith, if◌then◌else◌}
use Rattle.std.proofs.lemmas.Bool.Decides.{nat_tests}
use Rattle.std.proofs.lemmas.Map.Keys.{apart_from_distinct}
use Rattle.std.proofs.lemmas.Option.{slice_get_within, get_or_from_slice_get}
use Rattle.std.specs.Prelude.{IsTrue, map}
use Rattle.std.specs.List.{IsDistinct}
use Rattle.image_layout.specs.Letters.{letter_of, leads_to}
use Rattle.place_words.specs.Words.{has_none, set_of}
use Rattle.place_words.proofs.SetOf.{set_of-empty}
use Rattle.position_nfa.specs.declared.pair.Pair.{Pair}
use Rattle.position_nfa.specs.Alphabets.{Alphabet, count, time_classes, ratio_classes}
use Rattle.gap_thresholds.specs.Classes.{times_of, ratios_of}
use Rattle.position_nfa.specs.Letters.{leads}
use Rattle.position_nfa.specs.Sets.{effect}
use Rattle.position_nfa.specs.Sound.{IsDue}
use Rattle.position_nfa.specs.Step.{same, next_state, dead_state, state_if, state_of, phase_of}
use Rattle.position_nfa.proofs.States.{same-laws, dead-stays, effect-is_set, state_of-none}

-- the columns of both tables lead alike
same_letters : (times ratios phase column to : ℕ) → leads (times + 1) (2 * ratios + 1) phase column ≡ Some to → IsTrue (leads_to (letter_of times ratios column) phase to)
same_letters times ratios phase column to h = grind (arith, nat_tests, h)

-- a list of what a function makes of each
pub map_at : {X Y : Type 0} (f : X → Y) (xs : List X) (n : ℕ) (x : X) (d : Y) → slice_get xs n ≡ Some x → get_or (map f xs) n d ≡ f x
map_at f [] n x d h = absurd (cc)
map_at f (y ∷ xs) zero x d h = let e : y ≡ x = cc in ap f e
map_at f (y ∷ xs) (suc n) x d h = map_at f xs n x d h

module _ (a : Alphabet) (states : List Pair) (once : IsDistinct same states) (first : slice_get states 0 ≡ Some (dead_state a)) where
  -- only state 0 is the empty set
  pub number_once : (n : ℕ) → slice_get states n ≡ Some (dead_state a) → n ≡ 0
  number_once zero h = refl
  number_once (suc n) h =
      let dead = dead_state a in
      let apart : same (get_or states 0 dead) (get_or states (suc n) dead) ≡ false = apart_from_distinct same states 0 (suc n) dead once (omega arith) (slice_get_within states (suc n) dead h) in
      let here : get_or states 0 dead ≡ dead = get_or_from_slice_get states 0 dead dead first in
      let there : get_or states (suc n) dead ≡ dead = get_or_from_slice_get states (suc n) dead dead h in
      absurd (true≢false (sym (same-laws.refl dead) ∙ (ap (λ q. same q dead) (sym here) ∙ (ap (same (get_or states 0 dead)) (sym there) ∙ apart))))

  -- its letters lead to itself
  pub dead_row : (column n : ℕ) → IsDue states (next_state a (dead_state a) column) n → n ≡ 0
  dead_row column n h = by (next_state a (dead_state a) column) refl h
    where
      by : (o : Option Pair) → next_state a (dead_state a) column ≡ o → IsDue states o n → n ≡ 0
      by None e due = due
      by (Some p) e due = number_once n (due ∙ ap Some (dead-stays a column p e))

  -- each entry is a state
  pub due_range : (o : Option Pair) (n : ℕ) → IsDue states o n → n < length states
  due_range None n h = let some = slice_get_within states 0 (dead_state a) first in omega (arith, some, h)
  due_range (Some p) n h = slice_get_within states n p h

  -- of the phase that its column leads to
  pub due_leads : (phases : List ℕ) (p : Pair) (column n : ℕ) → phases ≡ map (λ (q : Pair). q.phase) states → IsDue states (next_state a p column) n
      → (n ≡ 0) ⊎ IsTrue (leads_to (letter_of (length (times_of a.cuts)) (length (ratios_of a.cuts)) column) p.phase (get_or phases n 0))
  due_leads phases p column n is h = by (leads (time_classes a) (ratio_classes a) p.phase column) refl h
    where
      full : (to : ℕ) (b : Bool) → has_none (effect a column p.set) ≡ b → leads (time_classes a) (ratio_classes a) p.phase column ≡ Some to → slice_get states n ≡ Some (state_of (record { phase = to; set = effect a column p.set })) → (n ≡ 0) ⊎ IsTrue (leads_to (letter_of (length (times_of a.cuts)) (length (ratios_of a.cuts)) column) p.phase (get_or phases n 0))
      full to true none e at =
          let nothing : effect a column p.set ≡ set_of (count a) (λ i. false) = set_of-empty (count a) (effect a column p.set) (effect-is_set a column p.set) none in
          inl (number_once n (at ∙ ap Some (state_of-none a (record { phase = to; set = effect a column p.set }) nothing)))
      full to false some e at =
          let phase : phase_of to (effect a column p.set) ≡ to = ap (λ b. if b then 0 else to) some in
          let entry : get_or phases n 0 ≡ to = ap (λ (l : List ℕ). get_or l n 0) is ∙ (map_at (λ (q : Pair). q.phase) states n (state_of (record { phase = to; set = effect a column p.set })) 0 at ∙ phase) in
          inr (subst (λ m. IsTrue (leads_to (letter_of (length (times_of a.cuts)) (length (ratios_of a.cuts)) column) p.phase m)) (sym entry) (same_letters (length (times_of a.cuts)) (length (ratios_of a.cuts)) p.phase column to e))

      by : (o : Option ℕ) → leads (time_classes a) (ratio_classes a) p.phase column ≡ o → IsDue states (state_if a (leads (time_classes a) (ratio_classes a) p.phase column) column p) n → (n ≡ 0) ⊎ IsTrue (leads_to (letter_of (length (times_of a.cuts)) (length (ratios_of a.cuts)) column) p.phase (get_or phases n 0))
      by None e due = inl (subst (λ o. IsDue states (state_if a o column p) n) e due)
      by (Some to) e due = full to (has_none (effect a column p.set)) refl e (subst (λ o. IsDue states (state_if a o column p) n) e due)
