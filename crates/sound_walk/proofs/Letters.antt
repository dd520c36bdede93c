-- Where single letters lead from the states of a sound image.
use Rattle.std.proofs.Common.{◌≡◌, ◌≢◌, ◌⊎◌, inl, inr, ℕ, ◌+◌, ◌-◌, ◌%◌, ◌<◌, ◌≤◌, Bool, true, false, List, [], ◌∷◌, length, Some}
use Rattle.std.proofs.Common.{slice_get, refl, sym, ap, subst, ◌∙◌, true≢false, if◌then◌else◌, arith}
use Rattle.std.proofs.lemmas.Bool.{and_parts, lt-ltb, le-ltb, le-leb, eq-eqb, ne_eqb, cond-true, cond-false}
use Rattle.std.proofs.lemmas.Option.{slice_get_within}
use Rattle.std.specs.Prelude.{◌&&◌}
use Rattle.image_layout.specs.Layout.{state_total}
use Rattle.image_layout.specs.Fields.{phase_at, entry_at}
use Rattle.image_format.specs.Walk.{state_after}
use Rattle.image_format.proofs.Walking.{after_zero, after_on, after_all}
use Rattle.place_words.specs.Words.{has, has_none, set_of}
use Rattle.place_words.proofs.SetOf.{set_of-empty, set_of-has, has_none-set_of, fits_all, true-has}
use Rattle.place_words.proofs.WordLaws.{IsEmpty, has_none_tests}
use Rattle.position_nfa.specs.declared.pair.Pair.{Pair}
use Rattle.position_nfa.specs.Alphabets.{Alphabet, wheel, count, place, width, time_classes, ratio_classes}
use Rattle.position_nfa.specs.Letters.{leads}
use Rattle.position_nfa.specs.Sets.{kept, any_below, shape_ends, walk_end, is_end, time_kept, ratio_kept, effect}
use Rattle.position_nfa.specs.Sound.{IsDue}
use Rattle.position_nfa.specs.Step.{dead_state, state_of, state_if, phase_of}
use Rattle.position_nfa.proofs.States.{effect-is_set, state_of-none}
use Rattle.position_nfa.proofs.Filters.{any_below_to}
use Rattle.table_images.specs.Images.{state_at, set_at, table_of}
use Rattle.table_images.proofs.TableRows.{number_once}
use Rattle.sound_walk.specs.Alphabet.{IsSoundOver}
use Rattle.sound_walk.proofs.Tables.{state_is, state_many, entry_due}

-- where a letter of each kind leads
module _ (t r column : ℕ) where
  pub leads_first : column < t → leads t r 1 column ≡ Some 3
  leads_first lt = rw (lt-ltb column t lt) refl

  pub leads_later : column < t → leads t r 2 column ≡ Some 4
  leads_later lt = rw (lt-ltb column t lt) refl

  pub leads_ratio : t ≤ column → column < t + r → leads t r 4 column ≡ Some 5
  leads_ratio from lt = rw (le-ltb column t from, lt-ltb column (t + r) lt) refl

  module _ (from : t + r ≤ column) where
    pub leads_cam : (phase : ℕ) → phase ≤ 2 → (column - (t + r) + 1) % 3 ≡ 0 → leads t r phase column ≡ Some phase
    leads_cam phase low cam =
        rw (le-ltb column t (omega (arith, from)), le-ltb column (t + r) from, eq-eqb _ _ cam, le-leb phase 2 low) refl

    module _ (turns : (column - (t + r) + 1) % 3 ≡ 0 → ⊥) where
      pub leads_begun : leads t r 0 column ≡ Some 1
      leads_begun = rw (le-ltb column t (omega (arith, from)), le-ltb column (t + r) from, ne_eqb _ _ turns) refl

      pub leads_second : leads t r 3 column ≡ Some 2
      leads_second = rw (le-ltb column t (omega (arith, from)), le-ltb column (t + r) from, ne_eqb _ _ turns) refl

      pub leads_third : leads t r 5 column ≡ Some 2
      leads_third = rw (le-ltb column t (omega (arith, from)), le-ltb column (t + r) from, ne_eqb _ _ turns) refl

-- what the letters make of a set
module _ (a : Alphabet) (set : List ℕ) where
  pub effect_time : (class : ℕ) → class < time_classes a → effect a class set ≡ time_kept a class set
  effect_time class lt = cond-true _ _ _ (lt-ltb class (time_classes a) lt)

  pub effect_ratio : (class : ℕ) → class < ratio_classes a → effect a (time_classes a + class) set ≡ ratio_kept a class set
  effect_ratio class lt =
      let back : time_classes a + class - time_classes a ≡ class = omega arith in
      cond-false _ _ _ (le-ltb (time_classes a + class) (time_classes a) (omega arith))
      ∙ (cond-true _ _ _ (lt-ltb (time_classes a + class) (time_classes a + ratio_classes a) (omega (arith, lt)))
      ∙ ap (λ n. ratio_kept a n set) back)

  pub effect_shape : (column shape : ℕ) → 1 ≤ shape → column ≡ time_classes a + ratio_classes a + (shape - 1)
      → effect a column set ≡ shape_ends a shape set
  effect_shape column shape some e =
      let back : column - (time_classes a + ratio_classes a) + 1 ≡ shape = omega (arith, e, some) in
      cond-false _ _ _ (le-ltb column (time_classes a) (omega (arith, e)))
      ∙ (cond-false _ _ _ (le-ltb column (time_classes a + ratio_classes a) (omega (arith, e))) ∙ ap (λ n. shape_ends a n set) back)

  -- they make nothing of no place
  pub kept_empty : (n : ℕ) (test : ℕ → Bool) → IsEmpty set → IsEmpty (kept n test set)
  kept_empty n test none k h = none k (true-has set k (and_parts (has set k) (test k) (set_of-has n (λ i. has set i && test i) k h).1).0)

  pub ends_empty : (shape : ℕ) → IsEmpty set → IsEmpty (shape_ends a shape set)
  ends_empty shape none k h =
      let ends : ℕ → ℕ → Bool = λ k i. has set i && is_end (walk_end (wheel a) shape (place a i)) (place a k) in
      let r = any_below_to (count a) (ends k) (set_of-has (count a) (λ k. any_below (count a) (ends k)) k h).1 in
      none r.0 (true-has set r.0 (and_parts (has set r.0) (is_end (walk_end (wheel a) shape (place a r.0)) (place a k)) r.2).0)

-- a state past state 0 has the phase and these places, of which there are some
pub record IsState (b : List ℕ) (q to : ℕ) (places : List ℕ) : Type 0 where
  pub alive : q ≢ 0
  pub there : q < state_total b
  pub phase : phase_at b q ≡ to
  pub set : set_at b q ≡ places
  pub some : IsEmpty places → ⊥

-- the state is state 0, where there are no places, or such a state
abbrev pub IsReached : List ℕ → ℕ → ℕ → List ℕ → Type 0
IsReached b q to places = ((q ≡ 0) × IsEmpty places) ⊎ IsState b q to places

module _ (b : List ℕ) where
  -- the walk of letters, one at a time
  pub chain : (q letter : ℕ) (rest : List ℕ) (mid to : ℕ) (set final : List ℕ) → IsReached b (entry_at b q letter) mid set
      → (IsEmpty set → IsEmpty final) → ((r : ℕ) → IsState b r mid set → IsReached b (state_after b r rest) to final)
      → IsReached b (state_after b q (letter ∷ rest)) to final
  chain q letter rest mid to set final (inl dead) empty on = inl (after_zero b q letter rest dead.0, empty dead.1)
  chain q letter rest mid to set final (inr s) empty on =
      subst (λ n. IsReached b n to final) (sym (after_on b q letter rest s.alive)) (on (entry_at b q letter) s)

  pub last : (q letter to : ℕ) (set : List ℕ) → IsReached b (entry_at b q letter) to set
      → IsReached b (state_after b q (letter ∷ [])) to set
  last q letter to set r =
      chain q letter [] to to set set r (λ e. e) (λ n s. subst (λ m. IsReached b m to set) (sym (after_all b n)) (inr s))

  module _ (a : Alphabet) (sound : IsSoundOver b a) where
    pub one_letter : (q column to : ℕ) → q < state_total b → column < width a
        → leads (time_classes a) (ratio_classes a) (phase_at b q) column ≡ Some to
        → IsReached b (entry_at b q column) to (effect a column (set_at b q))
    one_letter q column to lt within e =
        by (has_none set) refl
        (subst (λ o. IsDue states (state_if a o column (state_at b q)) n) e (entry_due b a sound q column lt within))
      where
        states : List Pair
        states = (table_of b).states

        n : ℕ
        n = entry_at b q column

        set : List ℕ
        set = effect a column (set_at b q)

        raw : Pair
        raw = record { phase = to; set = effect a column (set_at b q) }

        tests : (has_none set ≡ true → IsEmpty set) × (IsEmpty set → has_none set ≡ true)
        tests = has_none_tests set (fits_all set (effect-is_set a column (set_at b q)).fits)

        by : (v : Bool) → has_none set ≡ v → slice_get states n ≡ Some (state_of raw) → IsReached b n to set
        by true none at =
            let nothing : set ≡ set_of (count a) (λ i. false) = set_of-empty (count a) set (effect-is_set a column (set_at b q)) none in
            inl (number_once a states sound.table.family.once sound.table.dead n (at ∙ ap Some (state_of-none a raw nothing)), tests.0 none)
        by false some at =
            let long : length states ≡ state_total b = state_many b a sound in
            let inside : n < state_total b = omega (arith, slice_get_within states n (state_of raw) at, long) in
            let both : Some (state_at b n) ≡ Some (state_of raw) = sym (state_is b a sound n inside) ∙ at in
            let same : state_at b n ≡ state_of raw = cc in
            let phase : phase_of to set ≡ to = ap (λ v. if v then 0 else to) some in
            inr (record {
              alive = λ z.
                  let dead : Some (dead_state a) ≡ Some (state_of raw) = sym sound.table.dead ∙ (ap (slice_get states) (sym z) ∙ at) in
                  let is_dead : dead_state a ≡ state_of raw = cc in
                  true≢false (sym (has_none-set_of (count a)) ∙ (ap (λ (p : Pair). has_none p.set) is_dead ∙ some));
              there = inside;
              phase = ap (λ (p : Pair). p.phase) same ∙ phase;
              set = ap (λ (p : Pair). p.set) same;
              some = λ empty. true≢false (sym (tests.1 empty) ∙ some);
            })
