-- What the numbering and the limit say of the family.
use Rattle.std.proofs.Common.{◌≡◌, ◌∷◌, ◌++◌, ℕ, zero, suc, ◌+◌, ◌<◌, ◌≤◌, inl, inr, true, false, List, [], length, Option, Some, None, position, slice_get, get_or, Contains, refl, sym, ap, subst, ◌∙◌, arith, length-append, if◌then◌else◌}
use Rattle.std.specs.List.{list_any}
use Rattle.std.proofs.lemmas.List.Quantifiers.{position-Some}
use Rattle.std.proofs.lemmas.Option.{slice_get-get_or}
use Rattle.std.proofs.lemmas.Map.Views.{list_any-from_Contains}
use Rattle.place_words.specs.Words.{IsSet, set_of}
use Rattle.place_words.proofs.SetOf.{is_set}
use Rattle.position_nfa.specs.declared.pair.Pair.{Pair}
use Rattle.position_nfa.specs.Alphabets.{Alphabet, width, count, time_classes, ratio_classes}
use Rattle.position_nfa.specs.Step.{same, next_state, dead_state, start_state}
use Rattle.position_nfa.proofs.States.{same-equal, same-laws, dead-stays, next-is_set, effect-is_set, state_of-none}
use Rattle.std.proofs.lemmas.List.Elements.{Contains-push}
use Rattle.place_words.specs.Words.{has_none}
use Rattle.place_words.proofs.SetOf.{set_of-empty}
use Rattle.position_nfa.specs.Letters.{leads}
use Rattle.position_nfa.specs.Sets.{effect}
use Rattle.position_nfa.specs.Step.{state_if}
use Rattle.position_nfa.specs.Family.{IsMember, IsPart, taken_if}
use Rattle.subset_build.proofs.FamilyLaws.{length-taken, taken_keeps, Contains-kept, numbered_keeps, Contains-slice_get, family_of_numbering, explored_part, taken_part, member_next, nothing, part_push}
use Rattle.position_nfa.specs.Families.{IsNumbering, explored, taken, numbered, numbered_if}
use Rattle.subset_build.specs.Families.{IsFamily, IsPastLimit, IsFull, LeadsToFull, FillsUp}

pub found_number : (ks : List Pair) (i : ℕ) (p : Pair) → position (same p) ks ≡ Some i → slice_get ks i ≡ Some p
found_number ks i p h =
    let (within, equal, before) = position-Some (same p) ks i p h in
    slice_get-get_or ks i p within ∙ ap Some (sym (same-equal p (get_or ks i p) equal))

module _ (nfa : Alphabet) where
  abbrev Member : Pair → Type 0
  Member = IsMember same (next_state nfa) (width nfa) (dead_state nfa) (start_state nfa)

  abbrev Part : List Pair → Type 0
  Part = IsPart same (next_state nfa) (width nfa) (dead_state nfa) (start_state nfa)

  pub family : (states : List Pair) → IsNumbering nfa states → IsFamily nfa states
  family states all = family_of_numbering same same-laws same-equal (next_state nfa) (width nfa) (dead_state nfa) (start_state nfa) (dead-stays nfa) states all

  pub explored-part : (n : ℕ) → Part (explored nfa n)
  explored-part n = explored_part same same-laws same-equal (next_state nfa) (width nfa) (dead_state nfa) (start_state nfa) (dead-stays nfa) n

  -- each member's set is a set of places
  pub member-is_set : (p : Pair) → Member p → IsSet (count nfa) p.set
  member-is_set p (inl e) = subst (λ (q : Pair). IsSet (count nfa) q.set) (sym e) (is_set (count nfa) (λ i. false))
  member-is_set p (inr ([], e)) = subst (λ (q : Pair). IsSet (count nfa) q.set) (sym e) (is_set (count nfa) (λ i. true))
  member-is_set p (inr (c ∷ word, (q, r, lt, h))) = next-is_set nfa q p c h

  pub explored-is_set : (n i : ℕ) (p : Pair) → slice_get (explored nfa n) i ≡ Some p → IsSet (count nfa) p.set
  explored-is_set n i p h = member-is_set p ((explored-part n).sound p (Contains-slice_get (explored nfa n) i p h))

  pub past_limit : (ks : List Pair) (limit : ℕ) (p : Pair) → Part ks → Member p → IsFull ks limit p → IsPastLimit nfa limit
  past_limit ks limit p part member full =
      let more : Part (ks ++ p ∷ []) = part_push same same-laws same-equal (next_state nfa) (width nfa) (dead_state nfa) (start_state nfa) ks p part member full.absent in
      (ks ++ p ∷ [], more, omega (arith, length-append ks (p ∷ []), full.full))

  pub fills_past : (n i limit : ℕ) (q : Pair) → slice_get (explored nfa n) i ≡ Some q → FillsUp nfa (explored nfa n) limit q → IsPastLimit nfa limit
  fills_past n i limit q h fills =
      let member : Member q = (explored-part n).sound q (Contains-slice_get (explored nfa n) i q h) in
      let part : Part (taken nfa (explored nfa n) q fills.column) = taken_part same same-laws same-equal (next_state nfa) (width nfa) (dead_state nfa) (start_state nfa) (dead-stays nfa) (explored nfa n) q fills.column (omega (arith, fills.within)) (explored-part n) member in
      past_limit (taken nfa (explored nfa n) q fills.column) limit fills.full.next part
      (member_next same same-laws same-equal (next_state nfa) (width nfa) (dead_state nfa) (start_state nfa) (dead-stays nfa) q fills.full.next fills.column member fills.within fills.full.leads)
      fills.full.full

  pub dead-full : (limit : ℕ) → IsFull [] limit (dead_state nfa) → IsPastLimit nfa limit
  dead-full limit full = past_limit [] limit (dead_state nfa) (record { once = nothing same same-laws same-equal (next_state nfa) (width nfa) (dead_state nfa) (start_state nfa) (dead-stays nfa); sound = λ p h. absurd (omega (arith, h.1)) }) (inl refl) full

  pub start-full : (limit : ℕ) → IsFull (dead_state nfa ∷ []) limit (start_state nfa) → IsPastLimit nfa limit
  start-full limit full = past_limit (dead_state nfa ∷ []) limit (start_state nfa) dead_part (inr ([], refl)) full
    where
      dead_part : Part (dead_state nfa ∷ [])
      dead_part = part_push same same-laws same-equal (next_state nfa) (width nfa) (dead_state nfa) (start_state nfa) [] (dead_state nfa)
          (record { once = nothing same same-laws same-equal (next_state nfa) (width nfa) (dead_state nfa) (start_state nfa) (dead-stays nfa); sound = λ p h. absurd (omega (arith, h.1)) }) (inl refl) refl

  pub grows : (ks new : List Pair) (q : Pair) (c : ℕ) → new ≡ taken nfa ks q c → length ks ≤ length new
  grows ks new q c e =
      let h : length ks ≤ length (taken nfa ks q c) = length-taken same same-laws same-equal (next_state nfa) (width nfa) (dead_state nfa) (start_state nfa) ks q c in
      let l : length new ≡ length (taken nfa ks q c) = ap length e in
      omega arith

  pub dead_past : (ks : List Pair) (p : Pair) (limit : ℕ) → ks ≡ [] → p ≡ dead_state nfa → IsFull ks limit p → IsPastLimit nfa limit
  dead_past ks p limit ek ep full = dead-full limit (subst (λ q. IsFull [] limit q) ep (subst (λ l. IsFull l limit p) ek full))

  pub start_past : (ks0 ks : List Pair) (d p : Pair) (limit : ℕ) → ks0 ≡ [] → d ≡ dead_state nfa → ks ≡ numbered nfa ks0 d → p ≡ start_state nfa → IsFull ks limit p → IsPastLimit nfa limit
  start_past ks0 ks d p limit e0 ed ek ep full =
      let is : ks ≡ dead_state nfa ∷ [] = ek ∙ (ap (λ l. numbered nfa l d) e0 ∙ ap (λ v. numbered nfa [] v) ed) in
      start-full limit (subst (λ q. IsFull (dead_state nfa ∷ []) limit q) ep (subst (λ l. IsFull l limit p) is full))

  pub state-is_set : (ks : List Pair) (n : ℕ) (p : Pair) → ks ≡ explored nfa n → slice_get ks n ≡ Some p → IsSet (count nfa) p.set
  state-is_set ks n p e h = explored-is_set n n p (subst (λ l. slice_get l n ≡ Some p) e h)

  pub state_past : (ks : List Pair) (n limit : ℕ) (p : Pair) → ks ≡ explored nfa n → slice_get ks n ≡ Some p → FillsUp nfa ks limit p → IsPastLimit nfa limit
  state_past ks n limit p e h fills = fills_past n n limit p (subst (λ l. slice_get l n ≡ Some p) e h) (subst (λ l. FillsUp nfa l limit p) e fills)

  pub fills_at : (ks keys : List Pair) (q : Pair) (limit column : ℕ) → column < width nfa → keys ≡ taken nfa ks q column → LeadsToFull nfa keys limit q column → FillsUp nfa ks limit q
  fills_at ks keys q limit column lt e full = record { column = column; within = lt; full = subst (λ l. LeadsToFull nfa l limit q column) e full }

  pub dead_kept : (ks : List Pair) (q : Pair) (c : ℕ) → Contains ks (dead_state nfa) → Contains (taken nfa ks q c) (dead_state nfa)
  dead_kept ks q c h = Contains-kept ks (taken nfa ks q c) (dead_state nfa) (taken_keeps same same-laws same-equal (next_state nfa) (width nfa) (dead_state nfa) (start_state nfa) ks q c) h

  -- the empty set has a number
  pub Contains-dead : (n : ℕ) → Contains (explored nfa n) (dead_state nfa)
  Contains-dead zero = Contains-kept (dead_state nfa ∷ []) (numbered nfa (dead_state nfa ∷ []) (start_state nfa)) (dead_state nfa) (numbered_keeps same same-laws same-equal (next_state nfa) (width nfa) (dead_state nfa) (start_state nfa) (dead_state nfa ∷ []) (start_state nfa)) (Contains-push [] (dead_state nfa))
  Contains-dead (suc n) = by (slice_get (explored nfa n) n) refl (Contains-dead n)
    where
      by : (o : Option Pair) → slice_get (explored nfa n) n ≡ o → Contains (explored nfa n) (dead_state nfa) → Contains (explored nfa (suc n)) (dead_state nfa)
      by None e h = subst (λ (l : List Pair). Contains l (dead_state nfa)) (sym (ap (taken_if same (next_state nfa) (width nfa) (dead_state nfa) (start_state nfa) (explored nfa n)) e)) h
      by (Some q) e h = subst (λ (l : List Pair). Contains l (dead_state nfa)) (sym (ap (taken_if same (next_state nfa) (width nfa) (dead_state nfa) (start_state nfa) (explored nfa n)) e)) (dead_kept (explored nfa n) q (width nfa) h)

  pub dead-at : (ks : List Pair) (n : ℕ) → ks ≡ explored nfa n → Contains ks (dead_state nfa)
  dead-at ks n e = subst (λ (l : List Pair). Contains l (dead_state nfa)) (sym e) (Contains-dead n)

  pub dead-taken : (ks keys : List Pair) (q : Pair) (c : ℕ) → keys ≡ taken nfa ks q c → Contains ks (dead_state nfa) → Contains keys (dead_state nfa)
  dead-taken ks keys q c e h = subst (λ (l : List Pair). Contains l (dead_state nfa)) (sym e) (dead_kept ks q c h)

  -- a letter that leads to it adds nothing
  pub dead-numbered : (ks : List Pair) (q : Pair) (column to : ℕ) → Contains ks (dead_state nfa) → leads (time_classes nfa) (ratio_classes nfa) q.phase column ≡ Some to → has_none (effect nfa column q.set) ≡ true → ks ≡ numbered_if nfa ks (next_state nfa q column)
  dead-numbered ks q column to there l none =
      let s = effect nfa column q.set in
      let nothing : s ≡ set_of (count nfa) (λ i. false) = set_of-empty (count nfa) s (effect-is_set nfa column q.set) none in
      let next : next_state nfa q column ≡ Some (dead_state nfa) = ap (λ o. state_if nfa o column q) l ∙ ap Some (state_of-none nfa (record { phase = to; set = s }) nothing) in
      let any : list_any (same (dead_state nfa)) ks ≡ true = list_any-from_Contains same-laws (dead_state nfa) ks there in
      sym (ap (numbered_if nfa ks) next ∙ ap (λ b. if b then ks else ks ++ dead_state nfa ∷ []) any)
