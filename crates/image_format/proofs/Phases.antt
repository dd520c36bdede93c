-- In a verified image no gap is asked for that is not there.
use Rattle.std.proofs.Common.{◌≡◌, ℕ, zero, suc, ◌+◌, ◌-◌, ◌*◌, ◌%◌, ◌<◌, ◌≤◌, ◌||◌, ◌==◌, Bool, true, false, cond, List, [], ◌∷◌, Option, None, Some, refl, sym, ap, subst, ◌∙◌, arith, ◌⊎◌, inl, inr, eqb-true}
use Rattle.std.specs.Prelude.{nat_lt, nat_le, is_some, is_none, ℤ}
use Rattle.std.proofs.lemmas.Bool.{or_left, or_right, or_from, and_parts, or_cases, ltb-true, le-ltb, lt-ltb, ne_eqb, eq-eqb, cond-true, cond-false, cases_Bool, cases_eq, true≢false}
use Rattle.wheel_types.specs.declared.channel.Pol.{Pol}
use Rattle.wheel_types.specs.declared.channel.Pol.TheVariants.{Rise, Fall}
use Rattle.wheel_types.specs.declared.instant.Instant.{Instant}
use Rattle.wheel_types.specs.Edges.{below}
use Rattle.wheel_types.specs.Shapes.{digit_of, shape_number}
use Rattle.image_layout.specs.Layout.{state_total, time_total, ratio_total, row_width}
use Rattle.image_layout.specs.Fields.{phase_at, entry_at, time_cut_at, ratio_top_at, ratio_bottom_at}
use Rattle.image_layout.specs.Letters.{TimeClass, RatioClass, CrankShape, CamShape, letter_of, leads_to, shape_columns, shape_column}
use Rattle.image_layout.specs.Rules.{IsImage}
use Rattle.image_layout.specs.Keeps.{AreCounts}
use Rattle.image_format.specs.Walk.{Stand, count_below, state_after, shape_letter, joined, letters, time_class_of, ratio_class_of, ratio_letter, gap, last_gap, end_state, next, begun, fresh, stand_after}
use Rattle.image_format.specs.Phases.{TellsCrank}
use Rattle.image_layout.proofs.Images.{entry_kept, entry_below, no_fault}
use Rattle.image_format.proofs.Tables.{layout_tells}
use Rattle.image_format.proofs.Walking.{after_zero, after_on, after_all}
use Rattle.image_layout.proofs.Below.{filter_push}

none_or_some : (o : Option Pol) → ((is_some o ≡ false) × (is_none o ≡ true)) ⊎ ((is_some o ≡ true) × (is_none o ≡ false))
none_or_some None = inl (refl, refl)
none_or_some (Some x) = inr (refl, refl)

-- what a letter that leads on says of the phases
cam_leads : (f t : ℕ) → leads_to CamShape f t ≡ true → (f ≡ t) × (f < 3)
cam_leads f t e = let p = and_parts _ _ e in (eqb-true _ _ p.0, ltb-true _ _ p.1)

crank_leads : (f t : ℕ) → leads_to CrankShape f t ≡ true → ((f ≡ 0) × (t ≡ 1)) ⊎ (((f ≡ 3) ⊎ (f ≡ 5)) × (t ≡ 2))
crank_leads f t e =
    elim (or_cases _ _ e) [
      | inl front ↦ elim (or_cases _ _ front) [
        | inl a ↦ let p = and_parts _ _ a in inl (eqb-true _ _ p.0, eqb-true _ _ p.1)
        | inr a ↦ let p = and_parts _ _ a in inr (inl (eqb-true _ _ p.0), eqb-true _ _ p.1)
      ]
      | inr a ↦ let p = and_parts _ _ a in inr (inr (eqb-true _ _ p.0), eqb-true _ _ p.1)
    ]

time_leads : (f t : ℕ) → leads_to TimeClass f t ≡ true → ((f ≡ 1) × (t ≡ 3)) ⊎ ((f ≡ 2) × (t ≡ 4))
time_leads f t e =
    elim (or_cases _ _ e) [
      | inl a ↦ let p = and_parts _ _ a in inl (eqb-true _ _ p.0, eqb-true _ _ p.1)
      | inr a ↦ let p = and_parts _ _ a in inr (eqb-true _ _ p.0, eqb-true _ _ p.1)
    ]

ratio_leads : (f t : ℕ) → leads_to RatioClass f t ≡ true → (f ≡ 4) × (t ≡ 5)
ratio_leads f t e = let p = and_parts _ _ e in (eqb-true _ _ p.0, eqb-true _ _ p.1)

-- the letter of a column
letter_time : (times ratios column : ℕ) → column < times + 1 → letter_of times ratios column ≡ TimeClass
letter_time times ratios column lt = cond-true _ _ _ (lt-ltb _ _ lt)

letter_ratio : (times ratios column : ℕ) → times + 1 ≤ column → column < times + 1 + (2 * ratios + 1) → letter_of times ratios column ≡ RatioClass
letter_ratio times ratios column from lt = cond-false _ _ _ (le-ltb _ _ from) ∙ cond-true _ _ _ (lt-ltb _ _ lt)

letter_shape : (times ratios shape : ℕ) → 1 ≤ shape → letter_of times ratios (shape_column times ratios shape) ≡ cond (shape % 3 == 0) CamShape CrankShape
letter_shape times ratios shape some =
    let from : times + 1 ≤ shape_column times ratios shape = omega arith in
    let past : times + 1 + (2 * ratios + 1) ≤ shape_column times ratios shape = omega arith in
    let same : shape_column times ratios shape - shape_columns times ratios + 1 ≡ shape = omega (arith, some) in
    cond-false _ _ _ (le-ltb _ _ from) ∙ cond-false _ _ _ (le-ltb _ _ past) ∙ ap (λ (n : ℕ). cond (n % 3 == 0) CamShape CrankShape) same

-- the digits of a shape
digit_low : (e : Option Pol) → digit_of e ≤ 2
digit_low None = omega arith
digit_low (Some Rise) = omega arith
digit_low (Some Fall) = omega arith

digit_none : (e : Option Pol) → is_some e ≡ false → digit_of e ≡ 0
digit_none None h = refl
digit_none (Some x) h = absurd (true≢false h)

digit_some : (e : Option Pol) → is_some e ≡ true → 1 ≤ digit_of e
digit_some None h = absurd (true≢false (sym h))
digit_some (Some Rise) h = omega arith
digit_some (Some Fall) h = omega arith

-- a shape is from 1 to 26, and a multiple of 3 exactly without a crank edge
pub record IsShape (crank : Option Pol) (shape : ℕ) : Type 0 where
  pub some : 1 ≤ shape
  pub most : shape ≤ 26
  pub cam : is_some crank ≡ false → shape % 3 ≡ 0
  pub turns : is_some crank ≡ true → shape % 3 ≡ 0 → ⊥

some_of : (a c d : Option Pol) → (is_some a || (is_some c || is_some d)) ≡ true → 1 ≤ digit_of a + 3 * digit_of c + 9 * digit_of d
some_of a c d e =
    elim (or_cases _ _ e) [
      | inl x ↦ let s = digit_some a x in omega (arith, s)
      | inr rest ↦ elim (or_cases _ _ rest) [ inl x ↦ let s = digit_some c x in omega (arith, s) | inr x ↦ let s = digit_some d x in omega (arith, s) ]
    ]

pub shapes : (a c d : Option Pol) → (is_some a || (is_some c || is_some d)) ≡ true → IsShape a (shape_number a c d)
shapes a c d e =
    let la = digit_low a in
    let lc = digit_low c in
    let ld = digit_low d in
    let s = some_of a c d e in
    record {
      some = s;
      most = omega (arith, la, lc, ld);
      cam = λ none. let z = digit_none a none in omega (arith, z);
      turns = λ there zero. let o = digit_some a there in omega (arith, o, la, zero);
    }

most_one : (x : Bool) → cond x 1 0 ≤ (suc zero)
most_one true = omega arith
most_one false = omega arith

count_most : (n : ℕ) (p : ℕ → Bool) → count_below n p ≤ n
unfolding count_below
count_most zero p = omega arith
count_most (suc n) p =
    let rest = count_most n p in
    let push = filter_push p (below n) n in
    let one = most_one (p n) in
    omega (arith, rest, push, one)

not_both : (x y : Bool) → (x ≡ true → y ≡ true → ⊥) → cond x 1 0 + cond y 1 0 ≤ (suc zero)
not_both true true h = absurd (h refl refl)
not_both true false h = omega arith
not_both false true h = omega arith
not_both false false h = omega arith

count_apart : (n : ℕ) (p q : ℕ → Bool) → ((k : ℕ) → p k ≡ true → q k ≡ true → ⊥) → count_below n p + count_below n q ≤ n
unfolding count_below
count_apart zero p q h = omega arith
count_apart (suc n) p q h =
    let rest = count_apart n p q h in
    let push1 = filter_push p (below n) n in
    let push2 = filter_push q (below n) n in
    let one = not_both (p n) (q n) (h n) in
    omega (arith, rest, push1, push2, one)

module _ (b : List ℕ) (h : IsImage b) (counts : AreCounts b) where
  -- an entry that leads on
  led : (q column : ℕ) → q < state_total b → column < row_width b → (entry_at b q column ≡ 0 → ⊥) → leads_to (letter_of (time_total b) (ratio_total b) column) (phase_at b q) (phase_at b (entry_at b q column)) ≡ true
  led q column there lt on =
      elim (or_cases _ _ (entry_kept b h q column there lt)) [
        | inl none ↦ absurd (on (eqb-true _ _ none))
        | inr parts ↦ (and_parts _ _ parts).1
      ]

  -- the first letter of a walk that leads on
  first_on : (q to letter : ℕ) (rest : List ℕ) → state_after b q (letter ∷ rest) ≡ to → (to ≡ 0 → ⊥) → (entry_at b q letter ≡ 0 → ⊥) × (state_after b (entry_at b q letter) rest ≡ to)
  first_on q to letter rest e on =
      elim (cases_eq (entry_at b q letter) 0) [
        | inl z ↦ absurd (on (sym e ∙ after_zero b q letter rest z))
        | inr n ↦ (n, sym (after_on b q letter rest n) ∙ e)
      ]

  module _ (s : Stand) (i : Instant) (at : TellsCrank b s) where
    shape : ℕ
    shape = shape_number i.crank i.cam1 i.cam2

    is_shape : IsShape i.crank (shape_number i.crank i.cam1 i.cam2)
    is_shape = shapes i.crank i.cam1 i.cam2 i.some_edge

    shape_within : shape_letter b i < row_width b
    shape_within = let some = is_shape.some in let most = is_shape.most in omega (arith, some, most)

    shape_cam : is_some i.crank ≡ false → letter_of (time_total b) (ratio_total b) (shape_letter b i) ≡ CamShape
    shape_cam none = letter_shape (time_total b) (ratio_total b) (shape_number i.crank i.cam1 i.cam2) is_shape.some ∙ cond-true _ _ _ (eq-eqb _ _ (is_shape.cam none))

    shape_turns : is_some i.crank ≡ true → letter_of (time_total b) (ratio_total b) (shape_letter b i) ≡ CrankShape
    shape_turns there = letter_shape (time_total b) (ratio_total b) (shape_number i.crank i.cam1 i.cam2) is_shape.some ∙ cond-false _ _ _ (ne_eqb _ _ (is_shape.turns there))

    -- a shape without a crank edge
    cam_step : (to : ℕ) → is_some i.crank ≡ false → state_after b s.state (shape_letter b i ∷ []) ≡ to → (to ≡ 0 → ⊥) → TellsCrank b (joined s.crank s.crank_before i to)
    cam_step to none e on =
        let first = first_on s.state to (shape_letter b i) [] e on in
        let same : entry_at b s.state (shape_letter b i) ≡ to = sym (after_all b (entry_at b s.state (shape_letter b i))) ∙ first.1 in
        let lead = cam_leads (phase_at b s.state) (phase_at b to) (rw (shape_cam none, same) at (led s.state (shape_letter b i) at.there shape_within first.0)) in
        let below = entry_below b h counts s.state (shape_letter b i) at.there shape_within in
        let low = at.low in
        record {
          there = rw same at below;
          low = rw (← lead.0) low;
          one = λ k. ap is_some (cond-false (is_some i.crank) (Some i.time) s.crank none) ∙ at.one (rw lead.0 k);
          two = λ k. ap is_some (cond-false (is_some i.crank) s.crank s.crank_before none) ∙ at.two (lead.0 ∙ k);
        }

    -- a window's first crank edge
    first_step : (to : ℕ) → is_some i.crank ≡ true → phase_at b s.state ≡ 0 → state_after b s.state (shape_letter b i ∷ []) ≡ to → (to ≡ 0 → ⊥) → TellsCrank b (joined s.crank s.crank_before i to)
    first_step to there none e on =
        let first = first_on s.state to (shape_letter b i) [] e on in
        let same : entry_at b s.state (shape_letter b i) ≡ to = sym (after_all b (entry_at b s.state (shape_letter b i))) ∙ first.1 in
        let lead = crank_leads (phase_at b s.state) (phase_at b to) (rw (shape_turns there, same) at (led s.state (shape_letter b i) at.there shape_within first.0)) in
        let below = entry_below b h counts s.state (shape_letter b i) at.there shape_within in
        let one : phase_at b to ≡ 1 = elim lead [ inl a ↦ a.1 | inr a ↦ absurd (elim a.0 [ inl x ↦ omega (arith, x, none) | inr x ↦ omega (arith, x, none) ]) ] in
        record {
          there = rw same at below;
          low = omega (arith, one);
          one = λ k. ap is_some (cond-true (is_some i.crank) (Some i.time) s.crank there);
          two = λ k. absurd (omega (arith, one, k));
        }

    -- the shape after the classes
    last_step : (q to : ℕ) → q < state_total b → (phase_at b q ≡ 0 → ⊥) → is_some i.crank ≡ true → 1 ≤ phase_at b s.state → state_after b q (shape_letter b i ∷ []) ≡ to → (to ≡ 0 → ⊥) → TellsCrank b (joined s.crank s.crank_before i to)
    last_step q to here some there before e on =
        let first = first_on q to (shape_letter b i) [] e on in
        let same : entry_at b q (shape_letter b i) ≡ to = sym (after_all b (entry_at b q (shape_letter b i))) ∙ first.1 in
        let lead = crank_leads (phase_at b q) (phase_at b to) (rw (shape_turns there, same) at (led q (shape_letter b i) here shape_within first.0)) in
        let below = entry_below b h counts q (shape_letter b i) here shape_within in
        let two : phase_at b to ≡ 2 = elim lead [ inl a ↦ absurd (some a.0) | inr a ↦ a.1 ] in
        record {
          there = rw same at below;
          low = omega (arith, two);
          one = λ k. ap is_some (cond-true (is_some i.crank) (Some i.time) s.crank there);
          two = λ k. ap is_some (cond-true (is_some i.crank) s.crank s.crank_before there) ∙ at.one before;
        }

    time_within : time_class_of b (gap s.crank i.time) < time_total b + 1
    time_within = let most = count_most (time_total b) (λ k. nat_le (time_cut_at b k) (gap s.crank i.time)) in omega (arith, most)

    -- the first gap
    second_step : (to : ℕ) → is_some i.crank ≡ true → phase_at b s.state ≡ 1 → state_after b s.state (time_class_of b (gap s.crank i.time) ∷ (shape_letter b i ∷ [])) ≡ to → (to ≡ 0 → ⊥) → TellsCrank b (joined s.crank s.crank_before i to)
    second_step to there phase e on =
        let t : ℕ = time_class_of b (gap s.crank i.time) in
        let within : t < row_width b = omega (arith, time_within) in
        let first = first_on s.state to t (shape_letter b i ∷ []) e on in
        let q : ℕ = entry_at b s.state t in
        let lead = time_leads (phase_at b s.state) (phase_at b q) (rw (letter_time (time_total b) (ratio_total b) t time_within) at (led s.state t at.there within first.0)) in
        let three : phase_at b q ≡ 3 = elim lead [ inl a ↦ a.1 | inr a ↦ absurd (let two = a.0 in omega (arith, two, phase)) ] in
        last_step q to (entry_below b h counts s.state t at.there within) (λ z. omega (arith, z, three)) there (omega (arith, phase)) first.1 on

    ratio_within : ratio_class_of b (last_gap s) (gap s.crank i.time) ≤ 2 * ratio_total b
    ratio_within =
        let apart = count_apart (ratio_total b) (λ k. nat_lt (ratio_top_at b k * last_gap s) (gap s.crank i.time * ratio_bottom_at b k)) (λ k. ratio_top_at b k * last_gap s == gap s.crank i.time * ratio_bottom_at b k)
        (λ k x y. let less = ltb-true _ _ x in let same = eqb-true _ _ y in omega (arith, less, same)) in
        omega (arith, apart)

    -- a later gap
    later_step : (to : ℕ) → is_some i.crank ≡ true → phase_at b s.state ≡ 2 → state_after b s.state (time_class_of b (gap s.crank i.time) ∷ (ratio_letter b s i ∷ (shape_letter b i ∷ []))) ≡ to → (to ≡ 0 → ⊥) → TellsCrank b (joined s.crank s.crank_before i to)
    later_step to there phase e on =
        let t : ℕ = time_class_of b (gap s.crank i.time) in
        let within : t < row_width b = omega (arith, time_within) in
        let first = first_on s.state to t (ratio_letter b s i ∷ (shape_letter b i ∷ [])) e on in
        let q : ℕ = entry_at b s.state t in
        let below = entry_below b h counts s.state t at.there within in
        let lead = time_leads (phase_at b s.state) (phase_at b q) (rw (letter_time (time_total b) (ratio_total b) t time_within) at (led s.state t at.there within first.0)) in
        let four : phase_at b q ≡ 4 = elim lead [ inl a ↦ absurd (let one = a.0 in omega (arith, one, phase)) | inr a ↦ a.1 ] in
        let r : ℕ = ratio_letter b s i in
        let from : time_total b + 1 ≤ r = omega arith in
        let past : r < time_total b + 1 + (2 * ratio_total b + 1) = omega (arith, ratio_within) in
        let wide : r < row_width b = omega (arith, past) in
        let second = first_on q to r (shape_letter b i ∷ []) first.1 on in
        let q2 : ℕ = entry_at b q r in
        let lead2 = ratio_leads (phase_at b q) (phase_at b q2) (rw (letter_ratio (time_total b) (ratio_total b) r from past) at (led q r below wide second.0)) in
        let five = lead2.1 in
        last_step q2 to (entry_below b h counts q r below wide) (λ z. omega (arith, z, five)) there (omega (arith, phase)) second.1 on

    -- the window goes on
    goes_on : (to : ℕ) → end_state b s i ≡ to → (to ≡ 0 → ⊥) → TellsCrank b (joined s.crank s.crank_before i to)
    goes_on to e on =
        elim (none_or_some i.crank) [
          | inl a ↦
              let one : letters b s i ≡ shape_letter b i ∷ [] = cond-true _ _ _ (or_left (is_none i.crank) (phase_at b s.state == 0) a.1) in
              cam_step to a.0 (ap (state_after b s.state) (sym one) ∙ e) on
          | inr a ↦
              elim (cases_eq (phase_at b s.state) 0) [
                | inl z ↦
                    let one : letters b s i ≡ shape_letter b i ∷ [] = cond-true _ _ _ (or_right (is_none i.crank) (phase_at b s.state == 0) (eq-eqb _ _ z)) in
                    first_step to a.0 z (ap (state_after b s.state) (sym one) ∙ e) on
                | inr n ↦
                    let crank : (is_none i.crank || (phase_at b s.state == 0)) ≡ false = or_from _ _ a.1 (ne_eqb _ _ n) in
                    elim (cases_eq (phase_at b s.state) 2) [
                      | inl two ↦
                          let three : letters b s i ≡ time_class_of b (gap s.crank i.time) ∷ (ratio_letter b s i ∷ (shape_letter b i ∷ [])) = cond-false _ _ _ crank ∙ cond-true _ _ _ (eq-eqb _ _ two) in
                          later_step to a.0 two (ap (state_after b s.state) (sym three) ∙ e) on
                      | inr other ↦
                          let pair : letters b s i ≡ time_class_of b (gap s.crank i.time) ∷ (shape_letter b i ∷ []) = cond-false _ _ _ crank ∙ cond-false _ _ _ (ne_eqb _ _ other) in
                          let low = at.low in
                          second_step to a.0 (omega (arith, low, n, other)) (ap (state_after b s.state) (sym pair) ∙ e) on
                    ]
              ]
        ]

  start_phase : phase_at b 1 ≡ 0
  start_phase = (layout_tells b (no_fault _ h)).kinds.start

  fresh_tells : (time : Option ℤ) → TellsCrank b (fresh time)
  fresh_tells time =
      let two = counts.states.0 in
      record {
        there = omega (arith, two);
        low = omega (arith, start_phase);
        one = λ k. absurd (omega (arith, start_phase, k));
        two = λ k. absurd (omega (arith, start_phase, k));
      }

  begun_tells : (i : Instant) → TellsCrank b (begun b i)
  begun_tells i =
      elim (cases_eq (entry_at b 1 (shape_letter b i)) 0) [
        | inl z ↦ subst (TellsCrank b) (sym (cond-true _ _ _ (eq-eqb _ _ z))) (fresh_tells (Some i.time))
        | inr n ↦
            let one : letters b (fresh None) i ≡ shape_letter b i ∷ [] = cond-true _ _ _ (or_right (is_none i.crank) (phase_at b 1 == 0) (eq-eqb _ _ start_phase)) in
            let end : end_state b (fresh None) i ≡ entry_at b 1 (shape_letter b i) = ap (state_after b 1) one ∙ after_on b 1 (shape_letter b i) [] n ∙ after_all b (entry_at b 1 (shape_letter b i)) in
            subst (TellsCrank b) (sym (cond-false _ _ _ (ne_eqb _ _ n))) (goes_on (fresh None) i (fresh_tells None) (entry_at b 1 (shape_letter b i)) end n)
      ]

  next_tells : (s : Stand) (i : Instant) → TellsCrank b s → TellsCrank b (next b s i)
  next_tells s i at =
      elim (cases_eq (end_state b s i) 0) [
        | inl z ↦ subst (TellsCrank b) (sym (cond-true _ _ _ (eq-eqb _ _ z)))
            (elim (cases_Bool s.started) [
              | inl begun_yet ↦ subst (TellsCrank b) (sym (cond-true _ _ _ begun_yet)) (begun_tells i)
              | inr not_yet ↦ subst (TellsCrank b) (sym (cond-false _ _ _ not_yet)) (fresh_tells (Some i.time))
            ])
        | inr n ↦ subst (TellsCrank b) (sym (cond-false _ _ _ (ne_eqb _ _ n))) (goes_on s i at (end_state b s i) refl n)
      ]

  -- wherever the walk stands
  pub walk_tells : (past : List Instant) → TellsCrank b (stand_after b past)
  walk_tells [] = fresh_tells None
  walk_tells (i ∷ past) = next_tells (stand_after b past) i (walk_tells past)
