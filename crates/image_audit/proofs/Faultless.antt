-- A sound table has no first difference.
use Rattle.std.proofs.Common.{◌≡◌, ◌≢◌, ℕ, ◌+◌, ◌*◌, ◌<◌, Bool, true, false, List, length, Option, Some, None, slice_get, get_or, refl, sym, ap, subst, ◌∙◌, arith, true≢false, if◌then◌else◌}
use Rattle.std.proofs.lemmas.Map.Keys.{apart_from_distinct}
use Rattle.std.proofs.lemmas.Option.{get_or_from_slice_get}
use Rattle.image_layout.specs.declared.kind.Kind.{Kind}
use Rattle.image_layout.specs.declared.kind.Kind.TheVariants as kinds
use Rattle.image_layout.specs.Layout.{state_total, row_width}
use Rattle.image_layout.specs.Fields.{entry_at, kind_at, row_number_at}
use Rattle.image_layout.specs.Tables.{KeepsLayout}
use Rattle.place_words.specs.Words.{has_none}
use Rattle.position_nfa.specs.declared.pair.Pair.{Pair}
use Rattle.position_nfa.specs.Alphabets.{Alphabet, place, width}
use Rattle.position_nfa.specs.Families.{IsReached}
use Rattle.position_nfa.specs.Sets.{all_places}
use Rattle.position_nfa.specs.Sound.{Says, Nothing, At, Open, IsDue, IsMember, IsElsewhere, IsLeast, SetSays, AreSoundOver}
use Rattle.position_nfa.specs.Step.{same, next_state, dead_state, start_state, state_of}
use Rattle.position_nfa.proofs.States.{same-laws}
use Rattle.subset_build.proofs.FamilyLaws.{Contains-slice_get}
use Rattle.table_images.specs.Images.{set_at, state_at, table_of}
use Rattle.table_images.specs.Kinds.{says_of}
use Rattle.table_images.proofs.StateFacts.{reached_low}
use Rattle.audit_faults.specs.declared.fault.AuditFault.{AuditFault}
use Rattle.audit_faults.specs.declared.fault.AuditFault.TheVariants as faults
use Rattle.image_audit.specs.Agreements.{AgreesInKinds}
use Rattle.image_audit.specs.Differences.{DifferFirst, IsRepeat, IsOtherKind, IsOtherEntry, IsFirst}
use Rattle.image_audit.proofs.Listed.{at_map}
use Rattle.image_audit.proofs.Sizes.{length-listed, width_same}
use Rattle.image_audit.proofs.Numbering.{same_pair}
use Rattle.image_audit.proofs.Firsts.{state_listed, one_number}
use Rattle.image_audit.proofs.SoundTables.{row_inside}

module _ (a : Alphabet) (set : List ℕ) where
  at_open : (j e f : ℕ) → SetSays a set (At j) → SetSays a set (Open e f) → ⊥
  at_open j e f h g = g.1.holds.1 (h.1 f g.1.holds.0 ∙ sym (h.1 e g.0.holds))

  same_least : (P : ℕ → Type 0) (m n : ℕ) → IsLeast P m → IsLeast P n → m ≡ n
  same_least P m n h g = let le = h.least n g.holds in let ge = g.least m h.holds in omega (arith, le, ge)

  -- a set says one thing
  pub says_one : (x y : Says) → SetSays a set x → SetSays a set y → x ≡ y
  says_one Nothing Nothing h g = refl
  says_one Nothing (At j) h g = absurd (h g.0.0 g.0.1)
  says_one Nothing (Open e f) h g = absurd (h e g.0.holds)
  says_one (At j) Nothing h g = absurd (g h.0.0 h.0.1)
  says_one (At j) (At k) h g = ap At (sym (h.1 h.0.0 h.0.1) ∙ g.1 h.0.0 h.0.1)
  says_one (At j) (Open e f) h g = absurd (at_open j e f h g)
  says_one (Open e f) Nothing h g = absurd (g e h.0.holds)
  says_one (Open e f) (At k) h g = absurd (at_open k e f g h)
  says_one (Open e f) (Open d g) h k =
      let first : e ≡ d = same_least (IsMember a set) e d h.0 k.0 in
      let other : IsLeast (IsElsewhere a set (place a d).j) f = subst (λ n. IsLeast (IsElsewhere a set (place a n).j) f) first h.1 in
      let second : f ≡ g = same_least (IsElsewhere a set (place a d).j) f g other k.1 in
      λ i. Open (first i) (second i)

one_kind : (x y : Kind) → says_of x ≡ says_of y → x ≡ y
one_kind kinds.Dead kinds.Dead e = refl
one_kind kinds.Dead (kinds.At j) e = absurd (cc)
one_kind kinds.Dead (kinds.Open f g) e = absurd (cc)
one_kind (kinds.At j) kinds.Dead e = absurd (cc)
one_kind (kinds.At j) (kinds.At k) e = let s : j ≡ k = cc in ap kinds.At s
one_kind (kinds.At j) (kinds.Open f g) e = absurd (cc)
one_kind (kinds.Open d f) kinds.Dead e = absurd (cc)
one_kind (kinds.Open d f) (kinds.At k) e = absurd (cc)
one_kind (kinds.Open d f) (kinds.Open e g) h = let s : d ≡ e = cc in let t : f ≡ g = cc in λ i. kinds.Open (s i) (t i)

differ_not : {X : Type 0} (xs ys : List X) (at : ℕ) (f d : Option X) → xs ≡ ys → DifferFirst X xs ys at f d → ⊥
differ_not xs ys at f d e h = h.differ (h.found ∙ (ap (λ l. slice_get l at) e ∙ sym h.due))

-- a reached state is itself
reached_self : (a : Alphabet) (p : Pair) → IsReached a p → state_of p ≡ p
reached_self a p h = by (has_none p.set) refl
  where
    by : (t : Bool) → has_none p.set ≡ t → state_of p ≡ p
    by false some = same_pair (state_of p) p (ap (λ t. if t then 0 else p.phase) some) refl
    by true none =
        let dead : p ≡ dead_state a = (reached_low a p h).1 none in
        let phase : p.phase ≡ 0 = ap (λ (s : Pair). s.phase) dead in
        same_pair (state_of p) p (ap (λ t. if t then 0 else p.phase) none ∙ sym phase) refl

module _ (a : Alphabet) (b : List ℕ) (layout : KeepsLayout b) (sound : AreSoundOver a (table_of b)) where
  abbrev states : List Pair
  states = (table_of b).states

  reached : (q : ℕ) → q < state_total b → IsReached a (state_at b q)
  reached q lt = sound.family.sound (state_at b q) (Contains-slice_get states q (state_at b q) (state_listed b q lt))

  start_same : set_at b 1 ≡ all_places a
  start_same =
      let some = layout.header.counts.states.0 in
      let one : Some (state_at b 1) ≡ Some (start_state a) = sym (state_listed b 1 (omega (arith, some))) ∙ sound.start in
      let e : state_at b 1 ≡ start_state a = cc in
      ap (λ (p : Pair). p.set) e

  no_repeat : (first state : ℕ) → IsRepeat b first state → ⊥
  no_repeat first state r =
      let before : first < state_total b = omega (arith, r.earlier, r.within) in
      let equal : state_at b first ≡ state_at b state = sym (reached_self a (state_at b first) (reached first before)) ∙ (r.equal ∙ reached_self a (state_at b state) (reached state r.within)) in
      let d = state_at b state in
      let apart = apart_from_distinct same states first state d sound.family.once r.earlier (omega (arith, r.within, length-listed (state_at b) (state_total b))) in
      let one = get_or_from_slice_get states first (state_at b first) d (state_listed b first before) in
      let two = get_or_from_slice_get states state d d (state_listed b state r.within) in
      true≢false (sym (same-laws.refl d) ∙ (ap (λ x. same x d) (sym (one ∙ equal)) ∙ (ap (same (get_or states first d)) (sym two) ∙ apart)))

  no_other_kind : (q : ℕ) (f d : Kind) → IsOtherKind a b q f d → ⊥
  no_other_kind q f d h =
      let says : SetSays a (set_at b q) (get_or (table_of b).says q Nothing) = sound.says q (state_at b q) (state_listed b q h.within) in
      let at : get_or (table_of b).says q Nothing ≡ says_of (kind_at b q) = get_or_from_slice_get (table_of b).says q (says_of (kind_at b q)) Nothing (at_map (λ k. says_of (kind_at b k)) (state_total b) q h.within) in
      let own : SetSays a (set_at b q) (says_of (kind_at b q)) = subst (SetSays a (set_at b q)) at says in
      h.differ (h.found ∙ one_kind (kind_at b q) d (says_one a (set_at b q) (says_of (kind_at b q)) (says_of d) own h.due))

  entry_due : AgreesInKinds a b → (q c : ℕ) → q < state_total b → c < row_width b → IsDue states (next_state a (state_at b q) c) (entry_at b q c)
  entry_due agrees q c there lt =
      let wide : row_width b ≡ width a = width_same a b agrees.states.started.lists in
      let inside : q * row_width b + c < state_total b * row_width b = row_inside q c (row_width b) (state_total b) lt there in
      let size : length (table_of b).rows ≡ state_total b * row_width b = length-listed (row_number_at b) (state_total b * row_width b) in
      let within : q * row_width b + c < length (table_of b).rows = omega (arith, inside, size) in
      let own : c < width a = omega (arith, lt, wide) in
      let due : IsDue states (next_state a (state_at b q) c) (get_or (table_of b).rows (q * width a + c) 0) = sound.due q c (state_at b q) (state_listed b q there) own (subst (λ w. q * w + c < length (table_of b).rows) wide within) in
      let at : get_or (table_of b).rows (q * row_width b + c) 0 ≡ entry_at b q c = get_or_from_slice_get (table_of b).rows (q * row_width b + c) (entry_at b q c) 0 (at_map (row_number_at b) (state_total b * row_width b) (q * row_width b + c) inside) in
      subst (IsDue states (next_state a (state_at b q) c)) (ap (λ w. get_or (table_of b).rows (q * w + c) 0) (sym wide) ∙ at) due

  one_due : AgreesInKinds a b → (o : Option Pair) (n m : ℕ) → IsDue states o n → IsDue states o m → n ≡ m
  one_due agrees None n m h g = h ∙ sym g
  one_due agrees (Some p) n m h g = one_number b layout agrees.states.once n m p h g

  no_other_entry : AgreesInKinds a b → (q c f : ℕ) (d : Option ℕ) → IsOtherEntry a b q c f d → ⊥
  no_other_entry agrees q c f None h = h.due (entry_at b q c) (entry_due agrees q c h.within h.column)
  no_other_entry agrees q c f (Some n) h = h.differ (ap Some (h.found ∙ one_due agrees (next_state a (state_at b q) c) (entry_at b q c) n (entry_due agrees q c h.within h.column) h.due))

  pub no_difference : (f : AuditFault) → f ≢ faults.Memory → IsFirst a b f → ⊥
  no_difference faults.TooManyPlaces other h = h
  no_difference (faults.Places at f d) other h = differ_not (table_of b).places a.places at f d sound.places h
  no_difference (faults.TimeCut at f d) other h = differ_not (table_of b).time_cuts _ at f d sound.time_cuts h.1
  no_difference (faults.RatioCut at f d) other h = differ_not (table_of b).ratio_cuts _ at f d sound.ratio_cuts h.2
  no_difference (faults.Start word f d) other h = differ_not (set_at b 1) (all_places a) word (Some f) (Some d) start_same h.1
  no_difference (faults.Twice first state) other h = no_repeat first state h.1
  no_difference (faults.Kind state f d) other h = no_other_kind state f d h.1
  no_difference (faults.Mismatch state letter f d) other h = no_other_entry h.0 state letter f d h.1
  no_difference (faults.Unreached state) other h = h.1.unreached (reached state h.1.within)
  no_difference faults.Memory other h = other refl
