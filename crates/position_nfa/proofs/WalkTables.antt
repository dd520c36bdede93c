-- Tables of walks, place by place and shape by shape.
use Rattle.std.proofs.Common.{◌≡◌, ℕ, ◌+◌, ◌/◌, ◌%◌, ◌<◌, inl, inr, true, List, [], ◌∷◌, ◌++◌, length, get_or, replicate, refl, sym, ap, subst, ◌∙◌, arith, ℤ, pos}
use Rattle.std.proofs.lemmas.Bool.{cases_eq, cases_lt}
use Rattle.std.proofs.lemmas.List.{length-replicate, length_push, get_or_append_left, get_or_push}
use Rattle.std.proofs.lemmas.Nat.Bits.{bit_at-zero}
use Rattle.std.specs.Prelude.{Option, Some, None}
use Rattle.std.specs.Int.{bit_at}
use Rattle.wheel_types.specs.declared.channel.Pol.{Pol}
use Rattle.wheel_types.specs.declared.place.Place.{Place}
use Rattle.wheel_types.specs.declared.instant.Instant.{Instant}
use Rattle.wheel_types.specs.declared.parts.WheelParts.{WheelParts}
use Rattle.wheel_types.specs.Shapes.{edge_of}
use Rattle.wheel_types.specs.Motions.{events_at, events_of, orders}
use Rattle.place_words.specs.Words.{Has, IsWith, words_for, has_none}
use Rattle.place_words.proofs.WordLaws.{IsEmpty, empty_zeros, zeros_from_test}
use Rattle.place_words.proofs.SetOf.{has-true, true-has}
use Rattle.position_nfa.specs.declared.walks.Walks.{Walks}
use Rattle.position_nfa.specs.Alphabets.{nth}
use Rattle.legal_steps.specs.TimedSteps.{end_of}
use Rattle.position_nfa.specs.Sets.{walk_end}
use Rattle.position_nfa.specs.Walking.{IsWalkTable, IsWalkTableTo, instant_end}
use Rattle.position_nfa.specs.Tables.{AreAllWalks}

none_there : (words : List ℕ) → has_none words ≡ true → IsEmpty words
unfolding Has
none_there words h k there =
    let e : bit_at (get_or words (k / 64) 0) (k % 64) ≡ bit_at 0 (k % 64) = ap (λ w. bit_at w (k % 64)) (zeros_from_test words h (k / 64)) in
    omega (arith, e, there, bit_at-zero (k % 64))

module _ (n : ℕ) (end : ℕ → Option Place) (at : ℕ → Place) where
  pub no_walks : (m : ℕ) (sources targets : List ℕ) → m ≡ words_for n → sources ≡ replicate m 0 → targets ≡ [] → IsWalkTableTo n 0 end at sources targets
  no_walks m sources targets e es et =
      let none : (i : ℕ) → Has sources i → ⊥ = λ i h. empty_zeros m i (subst (λ s. Has s i) es h) in
      record {
        words = ap length es ∙ (length-replicate m 0 ∙ e);
        numbers = ap length et;
        whole = λ i q lt h. absurd (omega (arith, lt));
        inside = λ i h. absurd (none i h);
        within = λ i h. absurd (none i h);
        ends = λ i h. absurd (none i h);
      }

  -- a number that is put at the end leaves those before
  kept_number : (targets new : List ℕ) (t i : ℕ) → new ≡ targets ++ t ∷ [] → i < length targets → get_or new i 0 ≡ get_or targets i 0
  kept_number targets new t i e lt = ap (λ l. get_or l i 0) e ∙ get_or_append_left targets (t ∷ []) 0 i lt

  pub more_some : (k t : ℕ) (old new targets more : List ℕ) → IsWalkTableTo n k end at old targets → IsWith old k new → more ≡ targets ++ t ∷ [] → t < n → end k ≡ Some (at t) → length new ≡ length old → IsWalkTableTo n (k + 1) end at new more
  more_some k t old new targets more before with' e lt found len =
      let here : get_or more k 0 ≡ t = ap (λ l. get_or l k 0) e ∙ get_or_push targets t 0 k before.numbers in
      let stays : (i : ℕ) → Has old i → get_or more i 0 ≡ get_or targets i 0 = λ i h. kept_number targets more t i e (omega (arith, before.inside i h, before.numbers)) in
      record {
        words = len ∙ before.words;
        numbers = ap length e ∙ (length_push targets t ∙ ap (λ m. m + 1) before.numbers);
        whole = λ i q within h. elim (cases_eq i k) [
          | inl same ↦ subst (Has new) (sym same) with'.has
          | inr other ↦ with'.keeps i (before.whole i q (omega (arith, within, other)) h)
        ];
        inside = λ i h. elim (with'.only i h) [ inl o ↦ omega (arith, before.inside i o) | inr same ↦ omega (arith, same) ];
        within = λ i h. elim (with'.only i h) [
          | inl o ↦ omega (arith, before.within i o, stays i o)
          | inr same ↦ let f : get_or more i 0 ≡ t = ap (λ j. get_or more j 0) same ∙ here in omega (arith, f, lt)
        ];
        ends = λ i h. elim (with'.only i h) [
          | inl o ↦ before.ends i o ∙ ap (λ j. Some (at j)) (sym (stays i o))
          | inr same ↦ ap end same ∙ (found ∙ ap (λ j. Some (at j)) (sym (ap (λ j. get_or more j 0) same ∙ here)))
        ];
      }

  pub more_none : (k : ℕ) (sources targets more : List ℕ) → IsWalkTableTo n k end at sources targets → more ≡ targets ++ 0 ∷ [] → end k ≡ None → IsWalkTableTo n (k + 1) end at sources more
  more_none k sources targets more before e none =
      let stays : (i : ℕ) → Has sources i → get_or more i 0 ≡ get_or targets i 0 = λ i h. kept_number targets more 0 i e (omega (arith, before.inside i h, before.numbers)) in
      record {
        words = before.words;
        numbers = ap length e ∙ (length_push targets 0 ∙ ap (λ m. m + 1) before.numbers);
        whole = λ i q within h. elim (cases_eq i k) [
          | inl same ↦ let f : None ≡ Some q = sym none ∙ (ap end (sym same) ∙ h) in absurd (cc)
          | inr other ↦ before.whole i q (omega (arith, within, other)) h
        ];
        inside = λ i h. omega (arith, before.inside i h);
        within = λ i h. omega (arith, before.within i h, stays i h);
        ends = λ i h. before.ends i h ∙ ap (λ j. Some (at j)) (sym (stays i h));
      }

  pub all_walked : (k : ℕ) (sources targets : List ℕ) → k ≡ n → IsWalkTableTo n k end at sources targets → IsWalkTable n end at sources targets
  all_walked k sources targets e t = record {
    words = t.words;
    whole = λ i q lt h. has-true sources i (t.whole i q (omega (arith, lt, e)) h);
    inside = λ i h. let lt = t.inside i (true-has sources i h) in (omega (arith, lt, e), omega (arith, lt, t.numbers));
    within = λ i h. t.within i (true-has sources i h);
    ends = λ i h. t.ends i (true-has sources i h);
  }

  -- where no place has a walk no numbers are needed
  pub none_walked : (k : ℕ) (sources targets other : List ℕ) → k ≡ n → has_none sources ≡ true → IsWalkTableTo n k end at sources targets → IsWalkTable n end at sources other
  none_walked k sources targets other e none t = record {
    words = t.words;
    whole = λ i q lt h. has-true sources i (t.whole i q (omega (arith, lt, e)) h);
    inside = λ i h. absurd (none_there sources none i (true-has sources i h));
    within = λ i h. absurd (none_there sources none i (true-has sources i h));
    ends = λ i h. absurd (none_there sources none i (true-has sources i h));
  }

  pub same_ends : (other : ℕ → Option Place) (sources targets : List ℕ) → ((i : ℕ) → end i ≡ other i) → IsWalkTable n end at sources targets → IsWalkTable n other at sources targets
  same_ends other sources targets same t = record {
    words = t.words;
    whole = λ i q lt h. t.whole i q lt (same i ∙ h);
    inside = t.inside;
    within = t.within;
    ends = λ i h. sym (same i) ∙ t.ends i h;
  }

  pub same_table : (sources other targets numbers : List ℕ) → other ≡ sources → numbers ≡ targets → IsWalkTable n end at sources targets → IsWalkTable n end at other numbers
  same_table sources other targets numbers es et t = subst (λ s. IsWalkTable n end at s numbers) (sym es) (subst (IsWalkTable n end at sources) (sym et) t)

-- the time of an instant does not matter
any_time : (w : WheelParts) (t u : ℤ) (a b c : Option Pol) (p : Place) → end_of w (orders (events_at t a b c)) p ≡ end_of w (orders (events_at u a b c)) p
any_time w t u None None None p = refl
any_time w t u None None (Some c) p = refl
any_time w t u None (Some b) None p = refl
any_time w t u None (Some b) (Some c) p = refl
any_time w t u (Some a) None None p = refl
any_time w t u (Some a) None (Some c) p = refl
any_time w t u (Some a) (Some b) None p = refl
any_time w t u (Some a) (Some b) (Some c) p = refl

-- an instant of a shape ends where the shape does
pub shape_end : (w : WheelParts) (i : Instant) (shape : ℕ) (p : Place) → i.crank ≡ edge_of (shape % 3) → i.cam1 ≡ edge_of (shape / 3 % 3) → i.cam2 ≡ edge_of (shape / 9) → end_of w (orders (events_of i)) p ≡ walk_end w shape p
shape_end w i shape p ea eb ec =
    any_time w i.time (pos 0) i.crank i.cam1 i.cam2 p
    ∙ (ap (λ a. end_of w (orders (events_at (pos 0) a i.cam1 i.cam2)) p) ea
    ∙ (ap (λ b. end_of w (orders (events_at (pos 0) (edge_of (shape % 3)) b i.cam2)) p) eb
    ∙ ap (λ c. end_of w (orders (events_at (pos 0) (edge_of (shape % 3)) (edge_of (shape / 3 % 3)) c)) p) ec))

-- one more shape
pub one_more_shape : (w : WheelParts) (ps : List Place) (walks new : List Walks) (m : Walks) → AreAllWalks w ps walks → new ≡ walks ++ m ∷ [] → IsWalkTable (length ps) (λ i. walk_end w (length walks + 1) (nth ps i)) (nth ps) m.sources m.targets → AreAllWalks w ps new
one_more_shape w ps walks new m before e table s d lt = elim (cases_lt s (length walks)) [
  | inl earlier ↦
      let at : get_or new s d ≡ get_or walks s d = ap (λ l. get_or l s d) e ∙ get_or_append_left walks (m ∷ []) d s earlier in
      subst (λ (x : Walks). IsWalkTable (length ps) (λ i. walk_end w (s + 1) (nth ps i)) (nth ps) x.sources x.targets) (sym at) (before s d earlier)
  | inr past ↦
      let last : s ≡ length walks = let l : length new ≡ length walks + 1 = ap length e ∙ length_push walks m in omega (arith, l, lt, past) in
      let at : get_or new s d ≡ m = ap (λ l. get_or l s d) e ∙ get_or_push walks m d s (sym last) in
      subst (λ (x : Walks). IsWalkTable (length ps) (λ i. walk_end w (s + 1) (nth ps i)) (nth ps) x.sources x.targets) (sym at)
      (subst (λ k. IsWalkTable (length ps) (λ i. walk_end w (k + 1) (nth ps i)) (nth ps) m.sources m.targets) (sym last) table)
]

-- the walks of an instant are those of its shape
pub shape_walks : (w : WheelParts) (ps : List Place) (i : Instant) (shape number : ℕ) (sources targets : List ℕ) → shape ≡ number → i.crank ≡ edge_of (shape % 3) → i.cam1 ≡ edge_of (shape / 3 % 3) → i.cam2 ≡ edge_of (shape / 9)
    → IsWalkTable (length ps) (instant_end w ps i) (nth ps) sources targets → IsWalkTable (length ps) (λ k. walk_end w number (nth ps k)) (nth ps) sources targets
shape_walks w ps i shape number sources targets e ea eb ec t =
    same_ends (length ps) (instant_end w ps i) (nth ps) (λ k. walk_end w number (nth ps k)) sources targets (λ k. shape_end w i shape (nth ps k) ea eb ec ∙ ap (λ s. walk_end w s (nth ps k)) e) t
