-- The walk over the rows of an image finds the states that words of letters reach.
use Rattle.std.proofs.Common.{◌≡◌, ◌⊎◌, inl, inr, ℕ, zero, suc, ◌+◌, ◌<◌, ◌≤◌, Bool, true, false, List, [], ◌∷◌, ◌++◌, length, Option, Some, None, slice_get, get_or, Contains, refl, sym, ap, subst, ◌∙◌, arith, nat_eq, eqb-true, if◌then◌else◌}
use Rattle.std.specs.Prelude.{◌↔◌, IsTrue}
use Rattle.std.specs.List.{list_any, IsDistinct}
use Rattle.std.proofs.lemmas.Bool.{cases_lt}
use Rattle.std.proofs.lemmas.Option.{slice_get_within, slice_get-get_or}
use Rattle.std.proofs.lemmas.Cmp.{nat_eq_equiv}
use Rattle.std.proofs.lemmas.List.Elements.{Contains-get_or}
use Rattle.std.proofs.lemmas.Map.Views.{list_any-from_Contains}
use Rattle.std.proofs.lemmas.Map.Steps.{length-le_from_distinct_below}
use Rattle.indexmap.proofs.CallerLemmas.{Contains-list_any, Contains-insert_key}
use Rattle.indexmap.specs.IndexSet.{insert_key}
use Rattle.image_layout.specs.Layout.{state_total, row_width}
use Rattle.image_layout.specs.Fields.{entry_at}
use Rattle.image_layout.specs.Tables.{KeepsLayout}
use Rattle.subset_build.proofs.FamilyLaws.{Contains-slice_get, slice_get-Contains, slice_get-None}
use Rattle.image_audit.specs.Walks.{Keeps, AddsOne, HasRowTo, IsEntryTo, AddsRowTo, AtFirst, AtEntry, AreFound, AreAllFound}

pub contains_kept : (old new : List ℕ) (x : ℕ) → Keeps old new → Contains old x → Contains new x
contains_kept old new x keeps h = Contains-slice_get new h.0 x (keeps h.0 x (slice_get-Contains old x h))

same_number : (x y : ℕ) → nat_eq x y ≡ true → x ≡ y
same_number x y e = eqb-true x y e

kept_front : (xs ys : List ℕ) (i x : ℕ) → slice_get xs i ≡ Some x → slice_get (xs ++ ys) i ≡ Some x
kept_front [] ys i x h = absurd (cc)
kept_front (y ∷ xs) ys zero x h = h
kept_front (y ∷ xs) ys (suc i) x h = kept_front xs ys i x h

pushed : (xs : List ℕ) (v n : ℕ) → Contains (xs ++ v ∷ []) n → Contains xs n ⊎ (n ≡ v)
pushed xs v n h = by xs h.0 (slice_get-Contains (xs ++ v ∷ []) n h) (λ i e. Contains-slice_get xs i n e)
  where
    by : (ys : List ℕ) (i : ℕ) → slice_get (ys ++ v ∷ []) i ≡ Some n → ((i : ℕ) → slice_get ys i ≡ Some n → Contains xs n) → Contains xs n ⊎ (n ≡ v)
    by [] zero e there = let one : v ≡ n = cc in inr (sym one)
    by [] (suc i) e there = absurd (cc)
    by (y ∷ ys) zero e there = inl (there zero e)
    by (y ∷ ys) (suc i) e there = by ys i e (λ j g. there (suc j) g)

-- what an insertion does
insert_keeps : (xs : List ℕ) (v : ℕ) → Keeps xs (insert_key nat_eq xs v)
insert_keeps xs v i x h = by (list_any (nat_eq v) xs)
  where
    by : (t : Bool) → slice_get (if t then xs else xs ++ v ∷ []) i ≡ Some x
    by true = h
    by false = kept_front xs (v ∷ []) i x h

insert_only : (xs : List ℕ) (v n : ℕ) → Contains (insert_key nat_eq xs v) n → Contains xs n ⊎ (n ≡ v)
insert_only xs v n h = by (list_any (nat_eq v) xs) h
  where
    by : (t : Bool) → Contains (if t then xs else xs ++ v ∷ []) n → Contains xs n ⊎ (n ≡ v)
    by true h = inl h
    by false h = pushed xs v n h

-- one state more, or none where it is there
pub inserted : (old new : List ℕ) (v : ℕ) → new ≡ insert_key nat_eq old v → AddsOne old v new
inserted old new v e = subst (AddsOne old v) (sym e) (record { keeps = insert_keeps old v; has = Contains-insert_key nat_eq same_number old v; only = insert_only old v })

pub there_before : (old : List ℕ) (v : ℕ) → Contains old v → AddsOne old v old
there_before old v h = record { keeps = λ i x e. e; has = h; only = λ n e. inl e }

module _ (b : List ℕ) where
  pub none_added : (q : ℕ) (found : List ℕ) → AddsRowTo b q 0 found found
  none_added q found = record {
    keeps = λ i x h. h;
    row = λ c lt. absurd (omega (arith, lt));
    only = λ n h. inl h;
  }

  pub one_added : (q c v : ℕ) (old found new : List ℕ) → v ≡ entry_at b q c → AddsOne found v new → AddsRowTo b q c old found → AddsRowTo b q (c + 1) old new
  one_added q c v old found new is one adds = record {
    keeps = λ i x h. one.keeps i x (adds.keeps i x h);
    row = λ d lt. elim (cases_lt d c) [
      | inl early ↦ contains_kept found new (entry_at b q d) one.keeps (adds.row d early)
      | inr late ↦
          let last : c ≡ d = omega (arith, late, lt) in
          subst (Contains new) (is ∙ ap (entry_at b q) last) one.has
    ];
    only = λ n h. more n (one.only n h);
  }
    where
      old_or : (n : ℕ) → Contains old n ⊎ IsEntryTo b q c n → Contains old n ⊎ IsEntryTo b q (c + 1) n
      old_or n (inl h) = inl h
      old_or n (inr (d, (lt, e))) = inr (d, (omega (arith, lt), e))

      more : (n : ℕ) → Contains found n ⊎ (n ≡ v) → Contains old n ⊎ IsEntryTo b q (c + 1) n
      more n (inl h) = old_or n (adds.only n h)
      more n (inr same) = inr (c, (omega arith, same ∙ is))

  -- the first two states
  pub first_found : (found : List ℕ) → 2 ≤ state_total b → found ≡ 0 ∷ 1 ∷ [] → AreFound b 0 found
  first_found found some e = subst (AreFound b 0) (sym e) (record {
    dead = (0, omega arith, refl);
    start = (1, omega arith, refl);
    within = λ q h. elim (two q h) [ inl first ↦ omega (arith, first, some) | inr second ↦ omega (arith, second, some) ];
    sound = λ q h. AtFirst q (two q h);
    rows = λ i q lt h. absurd (omega (arith, lt));
  })
    where
      two : (q : ℕ) → Contains (0 ∷ 1 ∷ []) q → (q ≡ 0) ⊎ (q ≡ 1)
      two q (zero, lt, e) = inl (sym e)
      two q (suc zero, lt, e) = inr (sym e)
      two q (suc (suc i), lt, e) = absurd (omega (arith, lt))

  -- the row of one state more
  pub row_found : (layout : KeepsLayout b) (i q : ℕ) (old new : List ℕ) → slice_get old i ≡ Some q → AddsRowTo b q (row_width b) old new → AreFound b i old → AreFound b (i + 1) new
  row_found layout i q old new at adds are = record {
    dead = contains_kept old new 0 adds.keeps are.dead;
    start = contains_kept old new 1 adds.keeps are.start;
    within = λ n h. elim (adds.only n h) [
      | inl before ↦ are.within n before
      | inr entry ↦ let range = layout.rows.range q entry.0 there entry.1.0 in omega (arith, range, entry.1.1)
    ];
    sound = λ n h. elim (adds.only n h) [
      | inl before ↦ are.sound n before
      | inr entry ↦ AtEntry q n there (are.sound q here) entry
    ];
    rows = λ j r lt h. rows j r lt h;
  }
    where
      here : Contains old q
      here = Contains-slice_get old i q at

      there : q < state_total b
      there = are.within q here

      was : (j r : ℕ) (o : Option ℕ) → j < length old → slice_get old j ≡ o → slice_get new j ≡ Some r → slice_get old j ≡ Some r
      was j r None lt e h = absurd (let past = slice_get-None old j e in omega (arith, past, lt))
      was j r (Some x) lt e h = e ∙ (sym (adds.keeps j x e) ∙ h)

      rows : (j r : ℕ) → j < i + 1 → slice_get new j ≡ Some r → HasRowTo b new r (row_width b)
      rows j r lt h = elim (cases_lt j i) [
        | inl early ↦
            let long = slice_get_within old i q at in
            let before = was j r (slice_get old j) (omega (arith, early, long)) refl h in
            λ c inside. contains_kept old new (entry_at b r c) adds.keeps (are.rows j r early before c inside)
        | inr late ↦
            let last : j ≡ i = omega (arith, late, lt) in
            let one : Some q ≡ Some r = sym (adds.keeps i q at) ∙ (ap (slice_get new) (sym last) ∙ h) in
            let q_is : q ≡ r = cc in
            subst (λ n. HasRowTo b new n (row_width b)) q_is adds.row
      ]

  pub all_found : (i : ℕ) (found : List ℕ) → length found ≤ i → AreFound b i found → AreAllFound b found
  all_found i found le are = record {
    dead = are.dead;
    start = are.start;
    sound = are.sound;
    rows = λ q h. are.rows h.0 q (omega (arith, h.1, le)) (slice_get-Contains found q h);
  }

  -- there are no more than states
  pub few_found : (i : ℕ) (found : List ℕ) → IsDistinct nat_eq found → AreFound b i found → length found ≤ state_total b
  few_found i found once are = length-le_from_distinct_below found (state_total b) once (λ q any. are.within q (Contains-list_any nat_eq same_number found q any))

-- where a state of the list stands
pub found_within : (b : List ℕ) (n : ℕ) (found slice : List ℕ) (i : ℕ) → slice ≡ found → i < length found → AreFound b n found → get_or slice i 0 < state_total b
found_within b n found slice i e lt are = are.within (get_or slice i 0) (subst (λ l. Contains found (get_or l i 0)) (sym e) (Contains-get_or found i 0 lt))

pub found_at : (found slice : List ℕ) (i : ℕ) → slice ≡ found → i < length found → slice_get found i ≡ Some (get_or slice i 0)
found_at found slice i e lt = slice_get-get_or found i 0 lt ∙ ap (λ l. Some (get_or l i 0)) (sym e)

-- the test whether a state was found
pub found_test : (found : List ℕ) (state : ℕ) (t : Bool) → t ≡ list_any (nat_eq state) found → IsTrue t ↔ Contains found state
found_test found state t e = (λ yes. Contains-list_any nat_eq same_number found state (sym e ∙ yes), λ h. e ∙ list_any-from_Contains nat_eq_equiv state found h)
