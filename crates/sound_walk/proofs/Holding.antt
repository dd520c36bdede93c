-- What the walk's state holds of its window, instant by instant.
use Rattle.std.proofs.Common.{◌≡◌, ◌≢◌, ◌↔◌, ℕ, ◌<◌, Bool, true, false, cond, List, [], ◌∷◌, Contains, ℤ, pos, refl, sym, ap, subst, ◌∙◌}
use Rattle.std.proofs.Common.{arith, inl, inr}
use Rattle.std.proofs.lemmas.Bool.{cases_eq, eq-eqb, true≢false}
use Rattle.std.proofs.lemmas.List.{get_or_default}
use Rattle.std.proofs.lemmas.List.Elements.{Contains-get_or}
use Rattle.std.specs.Prelude.{Option, Some, None, is_some, ◌==◌, if◌then◌else◌}
use Rattle.wheel_types.specs.declared.channel.Channel.TheVariants.{Crank}
use Rattle.wheel_types.specs.declared.channel.Pol.{Pol}
use Rattle.wheel_types.specs.declared.place.Place.{Place}
use Rattle.wheel_types.specs.declared.instant.Instant.{Instant}
use Rattle.wheel_types.specs.Edges.{edge_count}
use Rattle.wheel_types.specs.Shapes.{shape_number}
use Rattle.wheel_types.specs.Steps.{time_if, crank_times}
use Rattle.wheel_types.specs.Verdicts.{EndsAt}
use Rattle.wheel_types.proofs.BothWays.{ends_are_steps}
use Rattle.wheel_types.proofs.RisingTimes.{RisesTo}
use Rattle.wheel_types.proofs.Standing.{ends_of_none}
use Rattle.image_layout.specs.Layout.{state_total}
use Rattle.image_layout.specs.Fields.{phase_at, entry_at, wheel_parts_of}
use Rattle.image_format.specs.Walk.{Stand, fresh, joined, letters, shape_letter, state_after, end_state, next, stand_after}
use Rattle.image_format.proofs.Walking.{after_zero, after_on, after_all}
use Rattle.place_words.specs.Words.{IsSet}
use Rattle.place_words.proofs.SetOf.{is_set, has-set_of}
use Rattle.position_nfa.specs.declared.pair.Pair.{Pair}
use Rattle.position_nfa.specs.Alphabets.{Alphabet, count, place}
use Rattle.position_nfa.specs.Families.{IsReached as IsFamilyMember}
use Rattle.position_nfa.specs.Laws.{HasPlace, gaps_kept_if, instant_set}
use Rattle.position_nfa.specs.Sets.{all_places}
use Rattle.position_nfa.specs.Step.{start_state}
use Rattle.position_nfa.proofs.States.{next-is_set}
use Rattle.position_nfa.proofs.Steps.{letters_are_steps}
use Rattle.cam_ranges.specs.Places.{IsPlace}
use Rattle.table_images.specs.Images.{state_at, set_at}
use Rattle.sound_walk.specs.Holding.{phase_of, last_of, before_last, some_instant}
use Rattle.sound_walk.specs.Windows.{window_next, window_after}
use Rattle.sound_walk.proofs.Tables.{state_is, state_there}
use Rattle.sound_walk.proofs.Letters.{IsState, IsReached, ends_empty}
use Rattle.sound_walk.proofs.Columns.{first_crank, letters_by}
use Rattle.sound_walk.proofs.Instants.{instant_leads, short_after}
use Rattle.sound_walk.specs.Alphabet.{IsSoundOver, IsShort, IsWhole, columns_of}
use Rattle.sound_walk.proofs.Rising.{rising_from, window_rises}

join_last : (o : Option Pol) (t : ℤ) (ts : List ℤ) (crank : Option ℤ) → crank ≡ last_of ts
    → (if is_some o then Some t else crank) ≡ last_of (time_if o t ts)
join_last None t ts crank e = e
join_last (Some p) t ts crank e = refl

join_before : (o : Option Pol) (t : ℤ) (ts : List ℤ) (crank before : Option ℤ) → crank ≡ last_of ts → before ≡ before_last ts
    → (if is_some o then crank else before) ≡ before_last (time_if o t ts)
join_before None t ts crank before e f = f
join_before (Some p) t ts crank before e f = e

-- what holds of both arms of two choices by one test
of_conds : (P : Stand → List Instant → Type 0) (v : Bool) (x y : Stand) (is js : List Instant) → (v ≡ true → P x is)
    → (v ≡ false → P y js) → P (cond v x y) (cond v is js)
of_conds P true x y is js f g = f refl
of_conds P false x y is js f g = g refl

not_zero : (n : ℕ) → (n == 0) ≡ false → n ≡ 0 → ⊥
not_zero n e z = true≢false (sym (eq-eqb n 0 z) ∙ e)

-- the set has exactly the places where the motions end that give the instants
abbrev pub HasEnds : List ℕ → Alphabet → List Instant → List ℕ → Type 0
HasEnds b a since set = (p : Place) → HasPlace a set p ↔ EndsAt (wheel_parts_of b) since p

-- the walk stands in a window with these instants, as the alphabet has it
pub record IsInside (b : List ℕ) (a : Alphabet) (s : Stand) (since : List Instant) : Type 0 where
  pub alive : s.state ≢ 0
  pub there : s.state < state_total b
  pub phase : phase_at b s.state ≡ phase_of (crank_times since)
  pub ends : HasEnds b a since (set_at b s.state)
  pub started : s.started ≡ some_instant since
  pub crank : s.crank ≡ last_of (crank_times since)
  pub before : s.crank_before ≡ before_last (crank_times since)
  pub short : IsShort (crank_times since)

-- the letters of an instant lead from the set to the state, in a window with these instants
abbrev pub LeadsTo : List ℕ → Alphabet → List Instant → Instant → List ℕ → ℕ → Type 0
LeadsTo b a since i set q = IsReached b q (phase_of (crank_times (i ∷ since))) (instant_set a since i set)

-- and not to state 0
abbrev pub LeadsOnTo : List ℕ → Alphabet → List Instant → Instant → List ℕ → ℕ → Type 0
LeadsOnTo b a since i set q = IsState b q (phase_of (crank_times (i ∷ since))) (instant_set a since i set)

-- a state that is not state 0
pub leads_on : (b : List ℕ) (a : Alphabet) (since : List Instant) (i : Instant) (set : List ℕ) (q : ℕ) → LeadsTo b a since i set q
    → (q == 0) ≡ false → LeadsOnTo b a since i set q
leads_on b a since i set q (inl dead) e = absurd (not_zero q e dead.0)
leads_on b a since i set q (inr st) e = st

module _ (b : List ℕ) (a : Alphabet) (sound : IsSoundOver b a) where
  pub some_crank : 0 < edge_count (wheel_parts_of b) Crank
  some_crank = let edge = sound.layout.slots.crank_edge in omega (arith, edge)

  -- each state's set is a set of places
  member_set : (p : Pair) → IsFamilyMember a p → IsSet (count a) p.set
  member_set p ([], e) = subst (λ (x : Pair). IsSet (count a) x.set) (sym e) (is_set (count a) (λ i. true))
  member_set p (c ∷ word, (q, r, lt, h)) = next-is_set a q p c h

  pub state_set : (q : ℕ) → q < state_total b → IsSet (count a) (set_at b q)
  state_set q lt = member_set (state_at b q) (sound.table.family.sound (state_at b q) (state_there b a sound q lt))

  -- the set after an instant has the places where motions end that give it too
  pub ends_after : (q : ℕ) (since : List Instant) (i : Instant) → q < state_total b → HasEnds b a since (set_at b q)
      → RisesTo (i ∷ since) → HasEnds b a (i ∷ since) (instant_set a since i (set_at b q))
  ends_after q since i there ends rise p =
      let w = wheel_parts_of b in
      let steps = letters_are_steps w a since i (set_at b q) sound.wheel (state_set q there) (rising_from (i ∷ since) rise) p in
      let motions = ends_are_steps w i since p some_crank rise.0 in (
        λ h. let r = steps.0 h in motions.1 (r.0, (ends r.0).0 r.1.0, r.1.1),
        λ h. let r = motions.0 h in steps.1 (r.0, ((ends r.0).1 r.1, r.2)),
      )

  -- where an instant's letters lead
  pub reached : (s : Stand) (since : List Instant) (i : Instant) → IsInside b a s since
      → LeadsTo b a since i (set_at b s.state) (end_state b s i)
  reached s since i at = instant_leads b a sound i s at.there (crank_times since) at.phase at.crank at.before at.short

  -- they are the alphabet's, where the gap is not cut down
  pub letters_are : (s : Stand) (since : List Instant) (i : Instant) → IsInside b a s since → IsWhole i.time (crank_times since)
      → letters b s i ≡ columns_of a since i
  letters_are s since i at = letters_by b a sound s i (crank_times since) at.phase at.crank at.before at.short

  -- the window goes on
  joined_inside : (s : Stand) (since : List Instant) (i : Instant) (to : ℕ) → IsInside b a s since → RisesTo (i ∷ since)
      → LeadsOnTo b a since i (set_at b s.state) to → IsInside b a (joined s.crank s.crank_before i to) (i ∷ since)
  joined_inside s since i to at rise st =
      let shape : ℕ = shape_number i.crank i.cam1 i.cam2 in
      let kept : List ℕ = gaps_kept_if i.crank a i.time (crank_times since) (set_at b s.state) in
      record {
        alive = st.alive;
        there = st.there;
        phase = st.phase;
        ends = subst (HasEnds b a (i ∷ since)) (sym st.set) (ends_after s.state since i at.there at.ends rise);
        started = refl;
        crank = join_last i.crank i.time (crank_times since) s.crank at.crank;
        before = join_before i.crank i.time (crank_times since) s.crank s.crank_before at.crank at.before;
        short = short_after b a sound i.crank i.time (crank_times since) (set_at b s.state) at.short
            (λ none. st.some (ends_empty a kept shape none));
      }

  start_is : state_at b 1 ≡ start_state a
  start_is =
      let two = sound.layout.header.counts.states.0 in
      let both : Some (state_at b 1) ≡ Some (start_state a) =
      sym (state_is b a sound 1 (omega (arith, two))) ∙ sound.table.start in
      cc

  all_ends : HasEnds b a [] (all_places a)
  all_ends p =
      let w = wheel_parts_of b in
      let d : Place = record { j = 0; n1 = pos 0; n2 = pos 0 } in
      let none = ends_of_none w p some_crank in (
        λ h.
            let at : IsPlace w (place a h.0) = (sound.wheel.places (place a h.0)).0 (Contains-get_or a.places h.0 d h.1.0) in
            let at_p : IsPlace w p = subst (IsPlace w) h.1.1.1 at in
            none.1 (record { edge = at_p.edge; standing = at_p.stands }),
        λ e.
            let stands = none.0 e in
            let c : Contains a.places p = (sound.wheel.places p).1 (record { edge = stands.edge; stands = stands.standing }) in
            (c.0, (c.1, (has-set_of (count a) (λ i. true) c.0 c.1 refl, get_or_default a.places c.0 d p c.1 ∙ c.2))),
      )

  -- a window with no instant
  pub fresh_inside : (time : Option ℤ) → IsInside b a (fresh time) []
  fresh_inside time =
      let two = sound.layout.header.counts.states.0 in
      record {
        alive = λ z. omega (arith, z);
        there = omega (arith, two);
        phase = sound.layout.kinds.start;
        ends = subst (HasEnds b a []) (sym (ap (λ (q : Pair). q.set) start_is)) all_ends;
        started = refl;
        crank = refl;
        before = refl;
        short = tt;
      }

  -- the letters of a window's first instant
  begun_state : (time : Option ℤ) (i : Instant) → end_state b (fresh time) i ≡ entry_at b 1 (shape_letter b i)
  begun_state time i =
      let one : letters b (fresh time) i ≡ shape_letter b i ∷ [] = first_crank b a sound (fresh time) i sound.layout.kinds.start in
      ap (state_after b 1) one ∙ elim (cases_eq (entry_at b 1 (shape_letter b i)) 0) [
        | inl z ↦ after_zero b 1 (shape_letter b i) [] z ∙ sym z
        | inr n ↦ after_on b 1 (shape_letter b i) [] n ∙ after_all b (entry_at b 1 (shape_letter b i))
      ]

  pub begun_reached : (i : Instant) → LeadsTo b a [] i (set_at b 1) (entry_at b 1 (shape_letter b i))
  begun_reached i = subst (LeadsTo b a [] i (set_at b 1)) (begun_state None i) (reached (fresh None) [] i (fresh_inside None))

  begun_inside : (i : Instant) → (entry_at b 1 (shape_letter b i) == 0) ≡ false
      → IsInside b a (joined None None i (entry_at b 1 (shape_letter b i))) (i ∷ [])
  begun_inside i some =
      let to : ℕ = entry_at b 1 (shape_letter b i) in
      joined_inside (fresh None) [] i to (fresh_inside None) (tt, tt) (leads_on b a [] i (set_at b 1) to (begun_reached i) some)

  next_inside : (s : Stand) (since : List Instant) (i : Instant) → IsInside b a s since → RisesTo (i ∷ since)
      → IsInside b a (next b s i) (window_next b s i since)
  next_inside s since i at rise =
      of_conds (IsInside b a) (end_state b s i == 0) _ _ _ _
      (λ lost. of_conds (IsInside b a) s.started _ _ _ _
      (λ begun. of_conds (IsInside b a) (entry_at b 1 (shape_letter b i) == 0) _ _ _ _
      (λ none. fresh_inside (Some i.time)) (begun_inside i))
      (λ first. fresh_inside (Some i.time)))
      (λ on. joined_inside s since i (end_state b s i) at rise
      (leads_on b a since i (set_at b s.state) (end_state b s i) (reached s since i at) on))

  -- wherever the walk stands
  pub walk_inside : (past : List Instant) → RisesTo past → IsInside b a (stand_after b past) (window_after b past)
  walk_inside [] rise = fresh_inside None
  walk_inside (i ∷ past) rise =
      next_inside (stand_after b past) (window_after b past) i (walk_inside past rise.1) (window_rises b i past rise)
