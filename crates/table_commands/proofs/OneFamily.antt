-- A wheel has one table: its places, cuts and states are the same, however they are found.
use Rattle.std.proofs.Common.{◌≡◌, ℕ, ◌+◌, ◌-◌, ◌*◌, ◌<◌, ◌≤◌, ◌&&◌, if◌then◌else◌, nat_lt, List, [], ◌∷◌, length, Contains, Option, Some, None, refl, sym, ap, subst, ◌∙◌, arith}
use Rattle.std.specs.Prelude.{All}
use Rattle.wheel_types.specs.declared.parts.WheelParts.{WheelParts}
use Rattle.cam_ranges.specs.Places.{IsLess}
use Rattle.cam_ranges.proofs.FewPlaces.{not_both_before}
use Rattle.gap_thresholds.specs.declared.cut.Cut.{Cut}
use Rattle.gap_thresholds.specs.Fractions.{Ascend}
use Rattle.gap_thresholds.specs.Classes.{wheel_of, times_of, ratios_of, time_class_of, ratio_class_of}
use Rattle.motion_bounds.specs.Times.{least_of, greatest_of}
use Rattle.place_words.specs.Words.{has, set_of}
use Rattle.gap_thresholds.proofs.Parted.{Less, rises}
use Rattle.position_nfa.specs.declared.pair.Pair.{Pair}
use Rattle.position_nfa.specs.Alphabets.{Alphabet, IsAlphabetOf, nth, time_classes, ratio_classes, width}
use Rattle.position_nfa.specs.Letters.{leads}
use Rattle.position_nfa.specs.Sets.{next_gap, last_gap, is_from, walk_end, is_end, any_below, time_kept, ratio_kept, shape_ends, effect}
use Rattle.position_nfa.specs.Step.{same, next_state, state_if, state_of, dead_state, start_state}
use Rattle.position_nfa.specs.Family.{Reaches}
use Rattle.subset_build.specs.Families.{HasMore}
use Rattle.subset_build.specs.Limit.{effective_limit}
use Rattle.run_ends.specs.declared.cause.Cause.{Cause}
use Rattle.run_ends.specs.declared.cause.Cause.TheVariants as cause
use Rattle.run_ends.specs.declared.cause.Limit.TheVariants as limit
use Rattle.table_commands.specs.States.{HasFewStates, FamilyGives, given_limit}
use Rattle.table_commands.proofs.OneList.{rising, one_list}

not_both : (m n : ℕ) → m < n → n < m → ⊥
not_both m n h k = omega (arith, h, k)

not_both_below : (c e : Cut) → Less c e → Less e c → ⊥
not_both_below c e h k = not_both (c.top * e.bottom) (e.top * c.bottom) h k

one_cuts : (cs es : List Cut) → Ascend cs → Ascend es → All (λ c. 1 ≤ c.bottom) cs → All (λ c. 1 ≤ c.bottom) es → ((c : Cut) → Contains cs c → Contains es c) → ((c : Cut) → Contains es c → Contains cs c) → cs ≡ es
one_cuts cs es up on low least to from = one_list Less not_both_below cs es (rising Less cs (rises cs up low)) (rising Less es (rises es on least)) to from

-- what two alphabets have of one wheel
pub record IsSameAs (a b : Alphabet) : Type 0 where
  pub places : a.places ≡ b.places
  pub wheel : wheel_of a.cuts ≡ wheel_of b.cuts
  pub times : times_of a.cuts ≡ times_of b.cuts
  pub ratios : ratios_of a.cuts ≡ ratios_of b.cuts

pub one_alphabet : (w : WheelParts) (a b : Alphabet) → IsAlphabetOf w a → IsAlphabetOf w b → IsSameAs a b
one_alphabet w a b is own = record {
  places = one_list IsLess not_both_before a.places b.places (rising IsLess a.places is.ascend) (rising IsLess b.places own.ascend)
      (λ p h. (own.places p).1 ((is.places p).0 h)) (λ p h. (is.places p).1 ((own.places p).0 h));
  wheel = is.cuts.wheel ∙ sym own.cuts.wheel;
  times = one_cuts (times_of a.cuts) (times_of b.cuts) is.cuts.times_ascend own.cuts.times_ascend (λ k d lt. (a.cuts.times.lowest k d lt).0) (λ k d lt. (b.cuts.times.lowest k d lt).0)
      (λ c h. (own.cuts.times c).1 ((is.cuts.times c).0 h)) (λ c h. (is.cuts.times c).1 ((own.cuts.times c).0 h));
  ratios = one_cuts (ratios_of a.cuts) (ratios_of b.cuts) is.cuts.ratios_ascend own.cuts.ratios_ascend (λ k d lt. (a.cuts.ratios.lowest k d lt).0) (λ k d lt. (b.cuts.ratios.lowest k d lt).0)
      (λ c h. (own.cuts.ratios c).1 ((is.cuts.ratios c).0 h)) (λ c h. (is.cuts.ratios c).1 ((own.cuts.ratios c).0 h));
}

same_width : (a b : Alphabet) → IsSameAs a b → width a ≡ width b
same_width a b s = λ t. (length (s.times t) + 1) + (2 * length (s.ratios t) + 1) + 26

same_start : (a b : Alphabet) → IsSameAs a b → start_state a ≡ start_state b
same_start a b s = rw (s.places) refl

same_limit : (a b : Alphabet) → IsSameAs a b → effective_limit a given_limit ≡ effective_limit b given_limit
same_limit a b s = rw (ap length s.places, same_width a b s) refl

same_times : (a b : Alphabet) → IsSameAs a b → (class : ℕ) (set : List ℕ) → time_kept a class set ≡ time_kept b class set
same_times a b s class set = λ t. set_of (length (s.places t)) (λ i.
    has set i && (let gap = next_gap (s.wheel t) (nth (s.places t) i) in
    is_from class (time_class_of (s.times t) (least_of (s.wheel t) gap)) (time_class_of (s.times t) (greatest_of (s.wheel t) gap))))

same_ratios : (a b : Alphabet) → IsSameAs a b → (class : ℕ) (set : List ℕ) → ratio_kept a class set ≡ ratio_kept b class set
same_ratios a b s class set = λ t. set_of (length (s.places t)) (λ i.
    has set i && (let s0 = last_gap (s.wheel t) (nth (s.places t) i) in let s1 = next_gap (s.wheel t) (nth (s.places t) i) in
    is_from class (ratio_class_of (s.ratios t) (s0 * (s.wheel t).rn) (s1 * (s.wheel t).rd)) (ratio_class_of (s.ratios t) (s0 * (s.wheel t).rd) (s1 * (s.wheel t).rn))))

same_ends : (a b : Alphabet) → IsSameAs a b → (shape : ℕ) (set : List ℕ) → shape_ends a shape set ≡ shape_ends b shape set
same_ends a b s shape set = λ t. set_of (length (s.places t)) (λ k.
    any_below (length (s.places t)) (λ i. has set i && is_end (walk_end (s.wheel t) shape (nth (s.places t) i)) (nth (s.places t) k)))

same_effect : (a b : Alphabet) → IsSameAs a b → (column : ℕ) (set : List ℕ) → effect a column set ≡ effect b column set
same_effect a b s column set = λ t.
    let times = length (s.times t) + 1 in
    let ratios = 2 * length (s.ratios t) + 1 in
    if nat_lt column times
    then same_times a b s column set t
    else if nat_lt column (times + ratios)
    then same_ratios a b s (column - times) set t
    else same_ends a b s (column - (times + ratios) + 1) set t

same_next : (a b : Alphabet) → IsSameAs a b → (p : Pair) (column : ℕ) → next_state a p column ≡ next_state b p column
same_next a b s p column = by (leads (time_classes a) (ratio_classes a) p.phase column) ∙ ap (λ o. state_if b o column p) (λ t. leads (length (s.times t) + 1) (2 * length (s.ratios t) + 1) p.phase column)
  where
    by : (o : Option ℕ) → state_if a o column p ≡ state_if b o column p
    by None = refl
    by (Some to) = ap (λ set. Some (state_of (record { phase = to; set = set }))) (same_effect a b s column p.set)

pub reached : (a b : Alphabet) → IsSameAs a b → (word : List ℕ) (p : Pair) → Reaches same (next_state b) (width b) (dead_state b) (start_state b) word p
    → Reaches same (next_state a) (width a) (dead_state a) (start_state a) word p
reached a b s [] p is = is ∙ sym (same_start a b s)
reached a b s (c ∷ word) p (q, r, within, leads) = (q, reached a b s word q r, subst (λ n. c < n) (sym (same_width a b s)) within, same_next a b s q c ∙ leads)

more_of : (a b : Alphabet) (most : ℕ) → IsSameAs a b → HasMore b most → HasMore a most
more_of a b most s more = record {
  states = more.states;
  once = more.once;
  sound = λ p h. let word = more.sound p h in (word.0, reached a b s word.0 p word.1);
  many = more.many;
}

-- a wheel whose family has few enough states gives no cause
pub family_gives_none : (w : WheelParts) → HasFewStates w → (e : Cause) → FamilyGives w e → ⊥
family_gives_none w few (cause.Limit (limit.States most)) m =
    let s = one_alphabet w few.alphabet m.alphabet few.own m.own in
    few.few (subst (HasMore few.alphabet) (m.holds ∙ sym (same_limit few.alphabet m.alphabet s)) (more_of few.alphabet m.alphabet most s m.many))
family_gives_none w few (cause.Limit limit.Places) g = g
family_gives_none w few (cause.Limit limit.File) g = g
family_gives_none w few (cause.Limit limit.Edges) g = g
family_gives_none w few (cause.Refused r) g = g
family_gives_none w few cause.Usage g = g
family_gives_none w few cause.ReadFault g = g
family_gives_none w few cause.WriteFault g = g
family_gives_none w few cause.Memory g = g
