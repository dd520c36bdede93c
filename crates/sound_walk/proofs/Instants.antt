-- Where the letters of an instant lead: to the set after the gap's classes and the shape.
use Rattle.std.proofs.Common.{◌≡◌, inl, inr, ℕ, ◌+◌, ◌-◌, ◌%◌, ◌<◌, ◌≤◌, true, List, [], ◌∷◌, ℤ, refl, sym, ap, subst, ◌∙◌, arith}
use Rattle.std.proofs.lemmas.Bool.{and_parts, cases_lt}
use Rattle.std.specs.Prelude.{Option, Some, None, is_some, ◌&&◌}
use Rattle.wheel_types.specs.declared.channel.Pol.{Pol}
use Rattle.wheel_types.specs.declared.instant.Instant.{Instant}
use Rattle.wheel_types.specs.Shapes.{shape_number}
use Rattle.wheel_types.specs.Speeds.{time_between}
use Rattle.wheel_types.specs.Steps.{time_if}
use Rattle.gap_thresholds.specs.Classes.{times_of, ratios_of, time_class_of, ratio_class_of}
use Rattle.image_layout.specs.Layout.{state_total}
use Rattle.image_layout.specs.Fields.{phase_at, entry_at, wheel_parts_of}
use Rattle.image_format.specs.Walk.{Stand, letters, shape_letter, ratio_letter, state_after, end_state}
use Rattle.image_format.proofs.Phases.{IsShape, shapes}
use Rattle.place_words.specs.Words.{has}
use Rattle.place_words.proofs.SetOf.{set_of-has}
use Rattle.place_words.proofs.WordLaws.{IsEmpty}
use Rattle.position_nfa.specs.Alphabets.{Alphabet, count, place, width, time_classes, ratio_classes}
use Rattle.position_nfa.specs.Laws.{gaps_kept_if}
use Rattle.position_nfa.specs.Letters as alphabet
use Rattle.position_nfa.specs.Sets.{next_gap, keeps_time, keeps_ratio, shape_ends, time_kept, ratio_kept, effect}
use Rattle.position_nfa.proofs.Gaps.{next_is_gap}
use Rattle.position_nfa.proofs.Legal.{time_classes_are_limits}
use Rattle.table_images.specs.Images.{set_at}
use Rattle.sound_walk.specs.Alphabet.{IsSoundOver, longest_gap, time_column, ratio_column, IsShort}
use Rattle.sound_walk.specs.Holding.{phase_of, last_of, before_last}
use Rattle.sound_walk.proofs.Counting.{time_class_most, ratio_class_most}
use Rattle.sound_walk.proofs.Tables.{kept_short}
use Rattle.sound_walk.proofs.Letters.{leads_first, leads_later, leads_ratio, leads_cam, leads_begun, leads_second, leads_third}
use Rattle.sound_walk.proofs.Letters.{effect_time, effect_ratio, effect_shape, kept_empty, ends_empty}
use Rattle.sound_walk.proofs.Letters.{IsState, IsReached, chain, last, one_letter}
use Rattle.sound_walk.proofs.Columns.{shape_is, without_crank, first_crank, second_crank, third_crank, ratio_is}

phase_low : (ts : List ℤ) → phase_of ts ≤ 2
phase_low [] = omega arith
phase_low (t ∷ []) = omega arith
phase_low (t ∷ u ∷ ts) = omega arith

module _ (b : List ℕ) (a : Alphabet) (sound : IsSoundOver b a) where
  -- where the alphabet's columns lead
  abbrev leads : ℕ → ℕ → Option ℕ
  leads phase column = alphabet.leads (time_classes a) (ratio_classes a) phase column

  -- the places that the class of the gap from u to t keeps, and that of its ratio to the gap from v
  abbrev timely : ℤ → ℤ → List ℕ → List ℕ
  timely t u set = time_kept a (time_class_of (times_of a.cuts) (time_between u t)) set

  abbrev rated : ℤ → ℤ → ℤ → List ℕ → List ℕ
  rated t u v set = ratio_kept a (ratio_class_of (ratios_of a.cuts) (time_between v u) (time_between u t)) set

  timely_empty : (t u : ℤ) (set : List ℕ) → IsEmpty set → IsEmpty (timely t u set)
  timely_empty t u set = kept_empty a set (count a) (keeps_time a (time_class_of (times_of a.cuts) (time_between u t)))

  rated_empty : (t u v : ℤ) (set : List ℕ) → IsEmpty set → IsEmpty (rated t u v set)
  rated_empty t u v set =
      kept_empty a set (count a) (keeps_ratio a (ratio_class_of (ratios_of a.cuts) (time_between v u) (time_between u t)))

  -- where a time's class keeps a place, the time is not cut down
  timely_short : (t u : ℤ) (set : List ℕ) → (IsEmpty (timely t u set) → ⊥) → time_between u t ≤ longest_gap
  timely_short t u set some = elim (cases_lt longest_gap (time_between u t)) [
    | inl long ↦ absurd (some (λ k h.
        let class : ℕ = time_class_of (times_of a.cuts) (time_between u t) in
        let member = (set_of-has (count a) (λ i. has set i && keeps_time a class i) k h).1 in
        let keeps : keeps_time a class k ≡ true = (and_parts (has set k) (keeps_time a class k) member).1 in
        let w = wheel_parts_of b in
        let le : time_between u t ≤ longest_gap =
        kept_short b a sound (next_gap w (place a k)) (time_between u t) (next_is_gap w (place a k))
        ((time_classes_are_limits w a k (time_between u t) sound.wheel).0 keeps) in
        omega (arith, long, le)))
    | inr le ↦ le
  ]

  -- so after an instant the last gap is not cut down, where some place is left
  pub short_after : (o : Option Pol) (t : ℤ) (ts : List ℤ) (set : List ℕ) → IsShort ts
      → (IsEmpty (gaps_kept_if o a t ts set) → ⊥) → IsShort (time_if o t ts)
  short_after None t ts set short some = short
  short_after (Some p) t [] set short some = tt
  short_after (Some p) t (u ∷ []) set short some = timely_short t u set some
  short_after (Some p) t (u ∷ v ∷ ts) set short some =
      timely_short t u set (λ none. some (rated_empty t u v (timely t u set) none))

  module _ (i : Instant) where
    -- the ends of the walks from places that pass the instant's edges
    abbrev shaped : List ℕ → List ℕ
    shaped set = shape_ends a (shape_number i.crank i.cam1 i.cam2) set

    is_shape : IsShape i.crank (shape_number i.crank i.cam1 i.cam2)
    is_shape = shapes i.crank i.cam1 i.cam2 i.some_edge

    column_from : time_classes a + ratio_classes a ≤ shape_letter b i
    column_from = let e = shape_is b a sound i in omega (arith, e)

    column_within : shape_letter b i < width a
    column_within =
        let e = shape_is b a sound i in
        let most = is_shape.most in
        let some = is_shape.some in
        omega (arith, e, most, some)

    column_shape : shape_letter b i - (time_classes a + ratio_classes a) + 1 ≡ shape_number i.crank i.cam1 i.cam2
    column_shape = let e = shape_is b a sound i in let some = is_shape.some in omega (arith, e, some)

    turned : is_some i.crank ≡ true → (shape_letter b i - (time_classes a + ratio_classes a) + 1) % 3 ≡ 0 → ⊥
    turned crank e = is_shape.turns crank (ap (λ n. n % 3) (sym column_shape) ∙ e)

    -- the shape's letter, from a state of a phase
    by_shape : (q from to : ℕ) (set : List ℕ) → q < state_total b → phase_at b q ≡ from → set_at b q ≡ set
        → leads from (shape_letter b i) ≡ Some to → IsReached b (state_after b q (shape_letter b i ∷ [])) to (shaped set)
    by_shape q from to set there phase is_set e =
        let column = shape_letter b i in
        let made : effect a column (set_at b q) ≡ shaped set =
        effect_shape a (set_at b q) column (shape_number i.crank i.cam1 i.cam2) is_shape.some (shape_is b a sound i)
        ∙ ap (λ x. shape_ends a (shape_number i.crank i.cam1 i.cam2) x) is_set in
        let lead : leads (phase_at b q) column ≡ Some to = subst (λ p. leads p column ≡ Some to) (sym phase) e in
        subst (IsReached b (state_after b q (column ∷ [])) to) made
        (last b q column to (effect a column (set_at b q)) (one_letter b a sound q column to there column_within lead))

    -- the letter of a ratio's class
    by_ratio : (q : ℕ) (u v : ℤ) (set : List ℕ) → IsState b q 4 set
        → IsReached b (entry_at b q (ratio_column a i.time u v)) 5 (rated i.time u v set)
    by_ratio q u v set st =
        let class : ℕ = ratio_class_of (ratios_of a.cuts) (time_between v u) (time_between u i.time) in
        let most = ratio_class_most (ratios_of a.cuts) (time_between v u) (time_between u i.time) in
        let lt : class < ratio_classes a = omega (arith, most) in
        let column : ℕ = time_classes a + class in
        let five : leads 4 column ≡ Some 5 = leads_ratio (time_classes a) (ratio_classes a) column (omega arith) (omega (arith, lt)) in
        subst (IsReached b (entry_at b q column) 5) (effect_ratio a (set_at b q) class lt ∙ ap (ratio_kept a class) st.set)
        (one_letter b a sound q column 5 st.there (omega (arith, lt)) (subst (λ p. leads p column ≡ Some 5) (sym st.phase) five))

    module _ (s : Stand) (there : s.state < state_total b) where
      -- the state that the letters lead to, after crank edges at these times
      abbrev LeadsTo : Option Pol → List ℤ → Type 0
      LeadsTo o ts = IsReached b (end_state b s i) (phase_of (time_if o i.time ts)) (shaped (gaps_kept_if o a i.time ts (set_at b s.state)))

      -- the letter of a time's class
      by_time : (u : ℤ) (from to : ℕ) → phase_at b s.state ≡ from → ((c : ℕ) → c < time_classes a → leads from c ≡ Some to)
          → IsReached b (entry_at b s.state (time_column a i.time u)) to (timely i.time u (set_at b s.state))
      by_time u from to phase e =
          let c : ℕ = time_column a i.time u in
          let most = time_class_most (times_of a.cuts) (time_between u i.time) in
          let lt : c < time_classes a = omega (arith, most) in
          let lead : leads (phase_at b s.state) c ≡ Some to = subst (λ p. leads p c ≡ Some to) (sym phase) (e c lt) in
          subst (IsReached b (entry_at b s.state c) to) (effect_time a (set_at b s.state) c lt)
          (one_letter b a sound s.state c to there (omega (arith, lt)) lead)

      shape_only : (from to : ℕ) → letters b s i ≡ shape_letter b i ∷ [] → phase_at b s.state ≡ from
          → leads from (shape_letter b i) ≡ Some to → IsReached b (end_state b s i) to (shaped (set_at b s.state))
      shape_only from to one phase e =
          subst (λ l. IsReached b (state_after b s.state l) to (shaped (set_at b s.state))) (sym one)
          (by_shape s.state from to (set_at b s.state) there phase refl e)

      -- an instant without a crank edge
      cam_instant : (ts : List ℤ) → i.crank ≡ None → phase_at b s.state ≡ phase_of ts → LeadsTo None ts
      cam_instant ts none phase =
          let cam = ap (λ n. n % 3) column_shape ∙ is_shape.cam (ap is_some none) in
          shape_only (phase_of ts) (phase_of ts) (without_crank b a sound s i none) phase
          (leads_cam (time_classes a) (ratio_classes a) (shape_letter b i) column_from (phase_of ts) (phase_low ts) cam)

      module _ (p : Pol) (some : i.crank ≡ Some p) where
        turns : (shape_letter b i - (time_classes a + ratio_classes a) + 1) % 3 ≡ 0 → ⊥
        turns = turned (ap is_some some)

        -- a window's first crank edge
        first_instant : phase_at b s.state ≡ 0 → LeadsTo (Some p) []
        first_instant phase =
            shape_only 0 1 (first_crank b a sound s i phase) phase
            (leads_begun (time_classes a) (ratio_classes a) (shape_letter b i) column_from turns)

        -- the first gap
        second_instant : (u : ℤ) → phase_at b s.state ≡ 1 → s.crank ≡ Some u → LeadsTo (Some p) (u ∷ [])
        second_instant u phase crank =
            let set : List ℕ = timely i.time u (set_at b s.state) in
            let lead = leads_second (time_classes a) (ratio_classes a) (shape_letter b i) column_from turns in
            let taken = second_crank b a sound s i p u some phase crank in
            subst (λ l. IsReached b (state_after b s.state l) 2 (shaped set)) (sym taken)
            (chain b s.state (time_column a i.time u) (shape_letter b i ∷ []) 3 2 set (shaped set)
            (by_time u 1 3 phase (leads_first (time_classes a) (ratio_classes a)))
            (ends_empty a set (shape_number i.crank i.cam1 i.cam2))
            (λ r st. by_shape r 3 2 set st.there st.phase st.set lead))

        -- a later gap
        later_instant : (u v : ℤ) (ts : List ℤ) → phase_at b s.state ≡ 2 → s.crank ≡ Some u → s.crank_before ≡ Some v
            → time_between v u ≤ longest_gap → LeadsTo (Some p) (u ∷ v ∷ ts)
        later_instant u v ts phase crank before short =
            let first : List ℕ = timely i.time u (set_at b s.state) in
            let second : List ℕ = rated i.time u v first in
            let lead = leads_third (time_classes a) (ratio_classes a) (shape_letter b i) column_from turns in
            let none_left : IsEmpty second → IsEmpty (shaped second) = ends_empty a second (shape_number i.crank i.cam1 i.cam2) in
            let taken = third_crank b a sound s i p u some phase crank in
            subst (λ l. IsReached b (state_after b s.state l) 2 (shaped second)) (sym taken)
            (chain b s.state (time_column a i.time u) (ratio_letter b s i ∷ (shape_letter b i ∷ [])) 4 2 first (shaped second)
            (by_time u 2 4 phase (leads_later (time_classes a) (ratio_classes a)))
            (λ none. none_left (rated_empty i.time u v first none))
            (λ r st.
            let now = timely_short i.time u (set_at b s.state) st.some in
            let ratio = ratio_is b a sound s i u v crank before short now in
            subst (λ n. IsReached b (state_after b r (n ∷ (shape_letter b i ∷ []))) 2 (shaped second)) (sym ratio)
            (chain b r (ratio_column a i.time u v) (shape_letter b i ∷ []) 5 2 second (shaped second) (by_ratio r u v first st) none_left
            (λ q five. by_shape q 5 2 second five.there five.phase five.set lead))))

      by_times : (o : Option Pol) (ts : List ℤ) → i.crank ≡ o → phase_at b s.state ≡ phase_of ts → s.crank ≡ last_of ts
          → s.crank_before ≡ before_last ts → IsShort ts → LeadsTo o ts
      by_times None ts none phase crank before short = cam_instant ts none phase
      by_times (Some p) [] some phase crank before short = first_instant p some phase
      by_times (Some p) (u ∷ []) some phase crank before short = second_instant p some u phase crank
      by_times (Some p) (u ∷ v ∷ ts) some phase crank before short = later_instant p some u v ts phase crank before short

      -- an instant's letters lead to its set, and to its phase
      pub instant_leads : (ts : List ℤ) → phase_at b s.state ≡ phase_of ts → s.crank ≡ last_of ts
          → s.crank_before ≡ before_last ts → IsShort ts
          → IsReached b (end_state b s i) (phase_of (time_if i.crank i.time ts))
          (shape_ends a (shape_number i.crank i.cam1 i.cam2) (gaps_kept_if i.crank a i.time ts (set_at b s.state)))
      instant_leads ts = by_times i.crank ts refl
