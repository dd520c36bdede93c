-- The laws of the walk: what its states hold, what its kinds say, and its report.
use Rattle.std.proofs.Common.{◌≡◌, ◌≢◌, ◌↔◌, inl, inr, ℕ, ◌<◌, ◌≤◌, Bool, true, false, cond, List, [], ◌∷◌, reverse, refl, sym, ap, subst}
use Rattle.std.proofs.Common.{◌∙◌, arith}
use Rattle.std.proofs.lemmas.Bool.{cases_Bool, cases_eq, eqb-true, cond-true, cond-false}
use Rattle.std.proofs.lemmas.List.{reverse-reverse}
use Rattle.std.proofs.lemmas.Int.{ints}
use Rattle.std.specs.Prelude.{◌==◌, ◌≤ℤ◌, ◌<ℤ◌, ℤ, None, if◌then◌else◌}
use Rattle.wheel_types.specs.declared.channel.Channel.TheVariants.{Crank}
use Rattle.wheel_types.specs.declared.place.Place.{Place}
use Rattle.wheel_types.specs.declared.instant.Instant.{Instant}
use Rattle.wheel_types.specs.declared.verdict.Verdict.TheVariants as verdict
use Rattle.wheel_types.specs.Edges.{edge_count}
use Rattle.wheel_types.specs.Verdicts.{Leads, EndsAt, AreGiven, IsBefore, IsLeast, IsVerdict, IsNextWindow, AreVerdicts, IsRising}
use Rattle.wheel_types.proofs.RisingTimes.{RisesTo, rises_to-reverse}
use Rattle.wheel_types.proofs.StartsAndEnds.{leads_from_start}
use Rattle.wheel_types.proofs.Standing.{PlaceStands, place_stands as motion_stands}
use Rattle.wheel_types.specs.declared.parts.WheelParts.{WheelParts}
use Rattle.wheel_types.specs.Starts.{start_of}
use Rattle.cam_ranges.proofs.SmallPlaces.{place_small, place_stands}
use Rattle.image_layout.specs.declared.kind.Kind.{Kind}
use Rattle.image_layout.specs.declared.kind.Kind.TheVariants.{Dead, At, Open}
use Rattle.image_layout.specs.Fields.{place_at, entry_at, kind_at, wheel_parts_of}
use Rattle.image_format.specs.Walk.{Stand, shape_letter, end_state, answer, stand_after}
use Rattle.cam_ranges.specs.Places.{IsLess}
use Rattle.place_words.specs.Words.{IsSet}
use Rattle.place_words.proofs.WordLaws.{IsEmpty}
use Rattle.position_nfa.specs.Alphabets.{Alphabet, count, place}
use Rattle.position_nfa.specs.Laws.{HasPlace, instant_set}
use Rattle.position_nfa.specs.Sound.{AreSoundOver, SetSays, Nothing}
use Rattle.position_nfa.specs.Sound as sets
use Rattle.table_images.specs.Kinds.{says_of}
use Rattle.table_images.specs.Images.{set_at}
use Rattle.sound_walk.specs.Alphabet.{IsSoundOver, HasAlphabet}
use Rattle.sound_walk.specs.Holding.{HasMember, StandsIn, SaysEnds, some_instant}
use Rattle.sound_walk.specs.Laws.{LettersAreTheWheels, StatesHoldEnds, StateZeroIsLost, KindsSayEnds}
use Rattle.sound_walk.specs.Laws.{StartsAreSmall, IsRightAt, EachIsRight, ReportIsRight}
use Rattle.sound_walk.specs.Laws.{CompiledAreSound, CompiledReportIsRight}
use Rattle.position_nfa.specs.Alphabets.{IsAlphabetOf}
use Rattle.image_format.proofs.Wheels.{is_wheel}
use Rattle.sound_walk.specs.Windows.{window_next, window_after, reported, verdicts_of}
use Rattle.sound_walk.proofs.Tables.{sound_over, has_alphabet, state_says}
use Rattle.sound_walk.proofs.Letters.{IsState}
use Rattle.sound_walk.proofs.Holding.{HasEnds, IsInside, LeadsTo, LeadsOnTo, leads_on, some_crank, state_set, ends_after}
use Rattle.sound_walk.proofs.Holding.{letters_are, reached, fresh_inside, begun_reached, walk_inside}
use Rattle.sound_walk.proofs.Rising.{window_rises}

-- a place that is less is before
less_before : (p q : Place) → IsLess p q → IsBefore p q
less_before p q (inl lt) = inl lt
less_before p q (inr (same, inl lt)) = inr (same, inl lt)
less_before p q (inr (same, inr (e, lt))) = inr (same, inr (e, weak lt))
  where
    weak : {m n : ℤ} → m <ℤ n → m ≤ℤ n
    weak h = omega (arith, ints, h)

itself : (p : Place) → IsBefore p p
itself p = inr (refl, inr (refl, omega (arith, ints)))

-- a motion begins where it stands
start_stands : (w : WheelParts) (since : List Instant) (from to : Place) → 0 < edge_count w Crank → Leads w since from to
    → PlaceStands w from
start_stands w since from to some l =
    let m = l.motion in
    subst (PlaceStands w) l.starts (motion_stands w m.angle m.start some l.permitted.motion.standing)

goes_on : (w : WheelParts) (b : List ℕ) (i : Instant) (before : List Instant) (k : Kind) → (k ≡ Dead → ⊥)
    → IsNextWindow w i before (reported b (i ∷ before) k) (i ∷ before)
goes_on w b i before Dead alive = absurd (alive refl)
goes_on w b i before (At j) alive = refl
goes_on w b i before (Open e f) alive = refl

module _ (b : List ℕ) (a : Alphabet) (sound : IsSoundOver b a) where
  own : HasAlphabet b a
  own = has_alphabet b a sound

  -- places by their numbers are in order
  in_order : (k m : ℕ) → m < count a → k ≤ m → IsBefore (place a k) (place a m)
  in_order k m lt le = elim (cases_eq k m) [
    | inl e ↦ subst (λ n. IsBefore (place a k) (place a n)) e (itself (place a k))
    | inr apart ↦ less_before (place a k) (place a m) (sound.wheel.ascend k m _ (omega (arith, le, apart)) lt)
  ]

  members_of : (q : ℕ) (p : Place) → HasMember b q p ↔ HasPlace a (set_at b q) p
  members_of q p =
      let many = own.many in (
        λ h. let lt : h.0 < count a = omega (arith, many, h.1.0) in (h.0, (lt, (h.1.1.0, sym (own.places h.0 lt) ∙ h.1.1.1))),
        λ h. (h.0, (omega (arith, many, h.1.0), (h.1.1.0, own.places h.0 h.1.0 ∙ h.1.1.1))),
      )

  stands_by : (s : Stand) (since : List Instant) → IsInside b a s since → StandsIn b s since
  stands_by s since at = record {
    holds = record {
      alive = at.alive;
      there = at.there;
      phase = at.phase;
      members = λ p. (λ h. (at.ends p).0 ((members_of s.state p).0 h), λ e. (members_of s.state p).1 ((at.ends p).1 e));
    };
    started = at.started;
    crank = at.crank;
    crank_before = at.before;
  }

  -- a set that has the end places says where they are
  module _ (set : List ℕ) (since : List Instant) (ends : HasEnds b a since set) where
    end_of : (k : ℕ) → sets.IsMember a set k → EndsAt (wheel_parts_of b) since (place a k)
    end_of k m = (ends (place a k)).0 (k, (m.0, (m.1, refl)))

    least_end : (e : ℕ) → sets.IsLeast (sets.IsMember a set) e → IsLeast (EndsAt (wheel_parts_of b) since) (place a e)
    least_end e says = record {
      holds = end_of e says.holds;
      least = λ p end.
          let h = (ends p).1 end in
          subst (IsBefore (place a e)) h.1.1.1 (in_order e h.0 h.1.0 (says.least h.0 (h.1.0, h.1.1.0)));
    }

    least_elsewhere : (j f : ℕ) → sets.IsLeast (sets.IsElsewhere a set j) f
        → IsLeast (λ p. EndsAt (wheel_parts_of b) since p × (p.j ≢ j)) (place a f)
    least_elsewhere j f says = record {
      holds = (end_of f says.holds.0, says.holds.1);
      least = λ p end.
          let h = (ends p).1 end.0 in
          let other : (place a h.0).j ≢ j = λ same. end.1 (ap (λ (x : Place). x.j) (sym h.1.1.1) ∙ same) in
          subst (IsBefore (place a f)) h.1.1.1 (in_order f h.0 h.1.0 (says.least h.0 ((h.1.0, h.1.1.0), other)));
    }

    says_by : (kind : Kind) → SetSays a set (says_of kind) → SaysEnds b since kind
    says_by Dead none = λ given. let h = (ends given.0).1 given.1 in none h.0 (h.1.0, h.1.1.0)
    says_by (At j) says = (
      (place a says.0.0, end_of says.0.0 says.0.1),
      λ p e. let h = (ends p).1 e in ap (λ (x : Place). x.j) (sym h.1.1.1) ∙ says.1 h.0 (h.1.0, h.1.1.0),
    )
    says_by (Open e f) says =
        let w = wheel_parts_of b in
        let place_e : place a e ≡ place_at b e = sym (own.places e says.0.holds.0) in
        let place_f : place a f ≡ place_at b f = sym (own.places f says.1.holds.0.0) in (
          subst (IsLeast (EndsAt w since)) place_e (least_end e says.0),
          subst (λ x. IsLeast (λ p. EndsAt w since p × (p.j ≢ x.j)) (place_at b f)) place_e
              (subst (IsLeast (λ p. EndsAt w since p × (p.j ≢ (place a e).j))) place_f (least_elsewhere (place a e).j f says.1)),
        )

    none_given : IsEmpty set → ¬ AreGiven (wheel_parts_of b) since
    none_given none given = let h = (ends given.0).1 given.1 in none h.0 h.1.1.0

    given_none : IsSet (count a) set → (¬ AreGiven (wheel_parts_of b) since) → IsEmpty set
    given_none is_set none k h = none (place a k, end_of k (is_set.inside k h, h))

    -- and so does the kind of its state
    module _ (q to : ℕ) (st : IsState b q to set) where
      state_kind : SaysEnds b since (kind_at b q)
      state_kind =
          says_by (kind_at b q) (subst (λ s. SetSays a s (says_of (kind_at b q))) st.set (state_says b a sound q st.there))

      not_dead : kind_at b q ≡ Dead → ⊥
      not_dead e =
          let is_set : IsSet (count a) set = subst (IsSet (count a)) st.set (state_set b a sound q st.there) in
          st.some (given_none is_set (subst (SaysEnds b since) e state_kind))

      given_by : AreGiven (wheel_parts_of b) since
      given_by = by (kind_at b q) not_dead state_kind
        where
          by : (k : Kind) → (k ≡ Dead → ⊥) → SaysEnds b since k → AreGiven (wheel_parts_of b) since
          by Dead alive says = absurd (alive refl)
          by (At j) alive says = says.0
          by (Open e f) alive says = (place_at b e, says.0.holds)

  -- a kind that says where motions end is the verdict
  verdict_by : (since : List Instant) (k : Kind) → SaysEnds b since k → IsVerdict (wheel_parts_of b) since (reported b since k)
  verdict_by since Dead says = λ p e. says (p, e)
  verdict_by since (At j) says = (says.0, says.1, refl)
  verdict_by since (Open e f) says =
      let w = wheel_parts_of b in
      let some = some_crank b a sound in (
        place_at b e,
        place_at b f,
        says.0,
        says.1,
        leads_from_start w since (place_at b e) some says.0.holds,
        leads_from_start w since (place_at b f) some says.1.holds.0,
      )

  -- where the next window begins after a loss
  begun_ends : (i : Instant) → HasEnds b a (i ∷ []) (instant_set a [] i (set_at b 1))
  begun_ends i = let fresh = fresh_inside b a sound None in ends_after b a sound 1 [] i fresh.there fresh.ends (tt, tt)

  none_begun : (i : Instant) → (entry_at b 1 (shape_letter b i) == 0) ≡ true
      → LeadsTo b a [] i (set_at b 1) (entry_at b 1 (shape_letter b i)) → IsVerdict (wheel_parts_of b) (i ∷ []) verdict.Lost
  none_begun i z (inl dead) = λ p e. none_given (instant_set a [] i (set_at b 1)) (i ∷ []) (begun_ends i) dead.1 (p, e)
  none_begun i z (inr st) = absurd (st.alive (eqb-true _ _ z))

  next_begun : (i h : Instant) (rest : List Instant) (v : Bool) → (entry_at b 1 (shape_letter b i) == 0) ≡ v
      → IsNextWindow (wheel_parts_of b) i (h ∷ rest) verdict.Lost (cond v [] (i ∷ []))
  next_begun i h rest true z = inr (none_begun i z (begun_reached b a sound i), refl)
  next_begun i h rest false on =
      let st = leads_on b a [] i (set_at b 1) (entry_at b 1 (shape_letter b i)) (begun_reached b a sound i) on in
      inl (given_by (instant_set a [] i (set_at b 1)) (i ∷ []) (begun_ends i) (entry_at b 1 (shape_letter b i)) _ st, refl)

  next_lost : (i : Instant) (before : List Instant) (started : Bool) → started ≡ some_instant before
      → IsNextWindow (wheel_parts_of b) i before verdict.Lost
      (if started then (if entry_at b 1 (shape_letter b i) == 0 then [] else i ∷ []) else [])
  next_lost i [] started e = cond-false _ _ _ e
  next_lost i (h ∷ rest) started e =
      subst (IsNextWindow (wheel_parts_of b) i (h ∷ rest) verdict.Lost) (sym (cond-true _ _ _ e))
      (next_begun i h rest (entry_at b 1 (shape_letter b i) == 0) refl)

  module _ (s : Stand) (since : List Instant) (i : Instant) (at : IsInside b a s since) (rise : RisesTo (i ∷ since)) where
    abbrev set : List ℕ
    set = instant_set a since i (set_at b s.state)

    ends : HasEnds b a (i ∷ since) (instant_set a since i (set_at b s.state))
    ends = ends_after b a sound s.state since i at.there at.ends rise

    leads : LeadsTo b a since i (set_at b s.state) (end_state b s i)
    leads = reached b a sound s since i at

    on : (end_state b s i == 0) ≡ false → LeadsOnTo b a since i (set_at b s.state) (end_state b s i)
    on = leads_on b a since i (set_at b s.state) (end_state b s i) leads

    zero_lost : (end_state b s i ≡ 0) ↔ (¬ AreGiven (wheel_parts_of b) (i ∷ since))
    zero_lost = by leads
      where
        by : LeadsTo b a since i (set_at b s.state) (end_state b s i)
            → (end_state b s i ≡ 0) ↔ (¬ AreGiven (wheel_parts_of b) (i ∷ since))
        by (inl dead) = (λ z. none_given set (i ∷ since) ends dead.1, λ none. dead.0)
        by (inr st) =
            (λ z. absurd (st.alive z), λ none. absurd (none (given_by set (i ∷ since) ends (end_state b s i) _ st)))

    answer_says : SaysEnds b (i ∷ since) (answer b s i)
    answer_says = elim (cases_Bool (end_state b s i == 0)) [
      | inl z ↦ subst (SaysEnds b (i ∷ since)) (sym (cond-true _ _ _ z)) (zero_lost.0 (eqb-true _ _ z))
      | inr e ↦
          subst (SaysEnds b (i ∷ since)) (sym (cond-false _ _ _ e)) (state_kind set (i ∷ since) ends (end_state b s i) _ (on e))
    ]

    next_by : IsNextWindow (wheel_parts_of b) i since (reported b (i ∷ since) (answer b s i)) (window_next b s i since)
    next_by = by (end_state b s i == 0) refl
      where
        by : (v : Bool) → (end_state b s i == 0) ≡ v
            → IsNextWindow (wheel_parts_of b) i since
            (reported b (i ∷ since) (if v then Dead else kind_at b (end_state b s i)))
            (if v then (if s.started then (if entry_at b 1 (shape_letter b i) == 0 then [] else i ∷ []) else []) else i ∷ since)
        by true z = next_lost i since s.started at.started
        by false e =
            goes_on (wheel_parts_of b) b i since (kind_at b (end_state b s i))
            (not_dead set (i ∷ since) ends (end_state b s i) _ (on e))

  module _ (past : List Instant) (i : Instant) (rise : RisesTo (i ∷ past)) where
    inside : IsInside b a (stand_after b past) (window_after b past)
    inside = walk_inside b a sound past rise.1

    pub zero_by : (end_state b (stand_after b past) i ≡ 0) ↔ (¬ AreGiven (wheel_parts_of b) (i ∷ window_after b past))
    zero_by = zero_lost (stand_after b past) (window_after b past) i inside (window_rises b i past rise)

    pub kind_by : SaysEnds b (i ∷ window_after b past) (answer b (stand_after b past) i)
    kind_by = answer_says (stand_after b past) (window_after b past) i inside (window_rises b i past rise)

    pub right_by : IsRightAt b past i
    right_by = record {
      verdict = verdict_by (i ∷ window_after b past) (answer b (stand_after b past) i) kind_by;
      window = next_by (stand_after b past) (window_after b past) i inside (window_rises b i past rise);
    }

  pub holds_by : (past : List Instant) → RisesTo past → StandsIn b (stand_after b past) (window_after b past)
  holds_by past rise = stands_by (stand_after b past) (window_after b past) (walk_inside b a sound past rise)

  pub verdicts_by : (past : List Instant) → RisesTo past
      → AreVerdicts (wheel_parts_of b) past (verdicts_of b past) (window_after b past)
  verdicts_by [] rise = refl
  verdicts_by (i ∷ past) rise =
      let r = right_by past i rise in
      (window_after b past, verdicts_by past rise.1, r.verdict, r.window)

pub rises : (i : Instant) (past : List Instant) → IsRising (reverse (i ∷ past)) → RisesTo (i ∷ past)
rises i past rising = subst RisesTo (reverse-reverse (i ∷ past)) (rises_to-reverse (reverse (i ∷ past)) rising)

pub letters_are_the_wheels : LettersAreTheWheels
letters_are_the_wheels b a past i sound rising =
    letters_are b a sound (stand_after b past) (window_after b past) i (walk_inside b a sound past (rises i past rising).1)

pub states_hold_ends : StatesHoldEnds
states_hold_ends b is sound rising =
    let over = sound_over b sound in
    holds_by b over.0 over.1 (reverse is) (rises_to-reverse is rising)

pub state_zero_is_lost : StateZeroIsLost
state_zero_is_lost b past i sound rising = let over = sound_over b sound in zero_by b over.0 over.1 past i (rises i past rising)

pub kinds_say_ends : KindsSayEnds
kinds_say_ends b past i sound rising = let over = sound_over b sound in kind_by b over.0 over.1 past i (rises i past rising)

pub each_is_right : EachIsRight
each_is_right b past i sound rising = let over = sound_over b sound in right_by b over.0 over.1 past i (rises i past rising)

pub report_is_right : ReportIsRight
report_is_right b is sound rising =
    let over = sound_over b sound in
    verdicts_by b over.0 over.1 (reverse is) (rises_to-reverse is rising)

pub starts_are_small : StartsAreSmall
starts_are_small b since e image ends =
    let w = wheel_parts_of b in
    let wheel = is_wheel b image in
    let start : Place = start_of w since e in
    let edge = wheel.crank_edge in
    let some : 0 < edge_count w Crank = omega (arith, edge) in
    let stands = start_stands w since start e some (leads_from_start w since e some ends) in
    let small = place_small w start wheel ((place_stands w start).0 stands) in
    (stands.edge, small.first, small.second)

pub compiled_are_sound : CompiledAreSound
compiled_are_sound w limit b compiled = record {
  layout = compiled.layout;
  sound = (compiled.alphabet, (subst (λ v. IsAlphabetOf v compiled.alphabet) (sym compiled.wheel) compiled.of_wheel, compiled.sound));
}

pub compiled_report_is_right : CompiledReportIsRight
compiled_report_is_right w limit b is compiled rising =
    let past : List Instant = reverse is in
    subst (λ v. AreVerdicts v past (verdicts_of b past) (window_after b past)) compiled.wheel
    (report_is_right b is (compiled_are_sound w limit b compiled) rising)
