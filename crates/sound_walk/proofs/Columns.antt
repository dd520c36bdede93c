-- The letters of an instant's walk are the columns of the alphabet.
use Rattle.std.proofs.Common.{◌≡◌, ℕ, ◌≤◌, false, List, [], ◌∷◌, ◌++◌, ℤ, refl, ap, ◌∙◌, arith}
use Rattle.std.proofs.lemmas.Bool.{or_left, or_right, or_from, eq-eqb, ne_eqb, cond-true, cond-false}
use Rattle.std.specs.Prelude.{min, Option, Some, None, is_none, ◌||◌, ◌==◌}
use Rattle.wheel_types.specs.declared.channel.Pol.{Pol}
use Rattle.wheel_types.specs.declared.instant.Instant.{Instant}
use Rattle.wheel_types.specs.Shapes.{shape_number}
use Rattle.wheel_types.specs.Speeds.{time_between}
use Rattle.gap_thresholds.specs.Classes.{ratios_of, ratio_class_of}
use Rattle.image_layout.specs.Fields.{phase_at}
use Rattle.image_format.specs.Walk as walk
use Rattle.image_format.specs.Walk.{Stand, gap, last_gap, letters, shape_letter, ratio_letter}
use Rattle.position_nfa.specs.Alphabets.{Alphabet}
use Rattle.sound_walk.specs.Alphabet.{IsSoundOver, HasAlphabet, longest_gap, IsShort, IsWhole}
use Rattle.sound_walk.specs.Alphabet.{time_column, ratio_column, column_of_shape, gap_columns_if}
use Rattle.sound_walk.specs.Holding.{phase_of, last_of, before_last}
use Rattle.sound_walk.proofs.Tables.{has_alphabet}

short_is : (t : ℕ) → t ≤ longest_gap → min t longest_gap ≡ t
short_is t le = omega (arith, le)

module _ (b : List ℕ) (a : Alphabet) (sound : IsSoundOver b a) where
  own : HasAlphabet b a
  own = has_alphabet b a sound

  pub shape_is : (i : Instant) → shape_letter b i ≡ column_of_shape a (shape_number i.crank i.cam1 i.cam2)
  shape_is i = let t = own.times in let r = own.ratios in omega (arith, t, r)

  module _ (s : Stand) (i : Instant) where
    -- a shape without a crank edge, and a window's first crank edge
    pub without_crank : i.crank ≡ None → letters b s i ≡ shape_letter b i ∷ []
    without_crank none = cond-true _ _ _ (or_left (is_none i.crank) (phase_at b s.state == 0) (ap is_none none))

    pub first_crank : phase_at b s.state ≡ 0 → letters b s i ≡ shape_letter b i ∷ []
    first_crank phase = cond-true _ _ _ (or_right (is_none i.crank) (phase_at b s.state == 0) (eq-eqb _ _ phase))

    later_crank : (p : Pol) (phase : ℕ) → i.crank ≡ Some p → phase_at b s.state ≡ phase → 1 ≤ phase
        → (is_none i.crank || (phase_at b s.state == 0)) ≡ false
    later_crank p phase some at least = or_from _ _ (ap is_none some) (ne_eqb (phase_at b s.state) 0 (λ z. omega (arith, z, at, least)))

    gap_class : (u : ℤ) → s.crank ≡ Some u → walk.time_class_of b (gap s.crank i.time) ≡ time_column a i.time u
    gap_class u crank = ap (λ o. walk.time_class_of b (gap o i.time)) crank ∙ own.time (time_between u i.time)

    -- the first gap
    pub second_crank : (p : Pol) (u : ℤ) → i.crank ≡ Some p → phase_at b s.state ≡ 1 → s.crank ≡ Some u
        → letters b s i ≡ time_column a i.time u ∷ (shape_letter b i ∷ [])
    second_crank p u some phase crank =
        cond-false _ _ _ (later_crank p 1 some phase (omega arith))
        ∙ (cond-false _ _ _ (ne_eqb (phase_at b s.state) 2 (λ z. omega (arith, z, phase)))
        ∙ ap (λ n. n ∷ (shape_letter b i ∷ [])) (gap_class u crank))

    -- a later gap
    pub third_crank : (p : Pol) (u : ℤ) → i.crank ≡ Some p → phase_at b s.state ≡ 2 → s.crank ≡ Some u
        → letters b s i ≡ time_column a i.time u ∷ (ratio_letter b s i ∷ (shape_letter b i ∷ []))
    third_crank p u some phase crank =
        cond-false _ _ _ (later_crank p 2 some phase (omega arith))
        ∙ (cond-true _ _ _ (eq-eqb _ _ phase)
        ∙ ap (λ n. n ∷ (ratio_letter b s i ∷ (shape_letter b i ∷ []))) (gap_class u crank))

    -- the class of a gap's ratio to the gap before, where neither is cut down
    pub ratio_is : (u v : ℤ) → s.crank ≡ Some u → s.crank_before ≡ Some v → time_between v u ≤ longest_gap
        → time_between u i.time ≤ longest_gap → ratio_letter b s i ≡ ratio_column a i.time u v
    ratio_is u v crank before short now =
        let t0 : ℕ = time_between v u in
        let t1 : ℕ = time_between u i.time in
        let last_is : last_gap s ≡ t0 =
        ap (λ o. elim o [ None ↦ 1 | Some time ↦ gap s.crank_before time ]) crank ∙ (ap (λ o. gap o u) before ∙ short_is t0 short) in
        let gap_is : gap s.crank i.time ≡ t1 = ap (λ o. gap o i.time) crank ∙ short_is t1 now in
        let class : walk.ratio_class_of b (last_gap s) (gap s.crank i.time) ≡ ratio_class_of (ratios_of a.cuts) t0 t1 =
        ap (λ t. walk.ratio_class_of b t (gap s.crank i.time)) last_is ∙ (ap (walk.ratio_class_of b t0) gap_is ∙ own.ratio t0 t1) in
        let t = own.times in
        omega (arith, class, t)

    by_times : (o : Option Pol) (ts : List ℤ) → i.crank ≡ o → phase_at b s.state ≡ phase_of ts → s.crank ≡ last_of ts
        → s.crank_before ≡ before_last ts → IsShort ts → IsWhole i.time ts
        → letters b s i ≡ gap_columns_if o a i.time ts ++ shape_letter b i ∷ []
    by_times None ts none phase crank before short whole = without_crank none
    by_times (Some p) [] some phase crank before short whole = first_crank phase
    by_times (Some p) (u ∷ []) some phase crank before short whole = second_crank p u some phase crank
    by_times (Some p) (u ∷ v ∷ ts) some phase crank before short whole =
        third_crank p u some phase crank
        ∙ ap (λ n. time_column a i.time u ∷ (n ∷ (shape_letter b i ∷ []))) (ratio_is u v crank before short whole)

    pub letters_by : (ts : List ℤ) → phase_at b s.state ≡ phase_of ts → s.crank ≡ last_of ts → s.crank_before ≡ before_last ts
        → IsShort ts → IsWhole i.time ts
        → letters b s i ≡ gap_columns_if i.crank a i.time ts ++ column_of_shape a (shape_number i.crank i.cam1 i.cam2) ∷ []
    letters_by ts phase crank before short whole =
        by_times i.crank ts refl phase crank before short whole ∙ ap (λ n. gap_columns_if i.crank a i.time ts ++ n ∷ []) (shape_is i)
