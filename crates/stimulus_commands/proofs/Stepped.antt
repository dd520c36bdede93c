-- Instants that are stepped through a set one after the other, and the counts of their verdicts.
use Rattle.std.proofs.Common.{◌≡◌, ℕ, zero, suc, ◌+◌, ◌<◌, ℤ, ◌<ℤ◌, List, [], ◌∷◌, ◌++◌, length, reverse, take, get_or, refl, sym, ap, ◌∙◌, subst, arith, add-one}
use Rattle.std.proofs.lemmas.List.{reverse-append, length-reverse}
use Rattle.std.proofs.Math.Seq.{take-length, take-suc}
use Rattle.std.specs.Prelude.{Option, Some, IfSome}
use Rattle.wheel_types.specs.declared.parts.WheelParts.{WheelParts}
use Rattle.wheel_types.specs.declared.instant.Instant.{Instant}
use Rattle.wheel_types.specs.declared.verdict.Verdict.{Verdict}
use Rattle.wheel_types.specs.Verdicts.{AreVerdicts, IsRising}
use Rattle.plain_motion.specs.declared.set.PlainSet.{PlainSet}
use Rattle.plain_motion.specs.Memories.{last_time}
use Rattle.plain_motion.specs.Sets.{StandsFor, last_of, wheel_of}
use Rattle.run_files.specs.Models.{IsFreshSet}
use Rattle.stimulus_commands.specs.declared.counts.Counts.{Counts}
use Rattle.stimulus_commands.specs.CountsOf.{AreCounts, counts_of}

-- the set stands, over this wheel, for the instants, and these are their verdicts
pub record StandsOver (w : WheelParts) (set : PlainSet) (past : List Instant) (verdicts : List Verdict) : Type 0 where
  pub wheel : wheel_of set ≡ w
  pub stands : StandsFor set past verdicts

-- the first k instants were stepped, and their verdicts, the last one first, counted
pub record HasStepped (first set : PlainSet) (is : List Instant) (k : ℕ) (counts : Counts) : Type 0 where
  pub verdicts : List Verdict
  pub counted : counts ≡ counts_of (reverse verdicts)
  pub each : length verdicts ≡ k
  pub stands : (w : WheelParts) → IsFreshSet w first → StandsOver w set (reverse (take k is)) verdicts
  pub last : last_of set ≡ last_time (reverse (take k is))

reverse_next : (is : List Instant) (k : ℕ) (d : Instant) → k < length is → reverse (take (suc k) is) ≡ get_or is k d ∷ reverse (take k is)
reverse_next is k d h = ap reverse (take-suc is k d h) ∙ reverse-append (take k is) (get_or is k d ∷ [])

-- the next instant comes later than the last one
pub later_than_last : (is : List Instant) (k : ℕ) (i : Instant) (last : Option ℤ) → IsRising is → k < length is → i ≡ get_or is k i → last ≡ last_time (reverse (take k is)) → IfSome last (λ t. t <ℤ i.time)
later_than_last is zero i last r h here e = subst (λ o. IfSome o (λ t. t <ℤ i.time)) (sym e) tt
later_than_last is (suc k) i last r h here e =
    let before : k + 1 < length is = omega arith in
    let below : k < length is = omega arith in
    let same : last ≡ Some (get_or is k i).time = e ∙ ap last_time (reverse_next is k i below) in
    let rises : (get_or is k i).time <ℤ (get_or is (suc k) i).time = rw add-one at (r k i before) in
    subst (λ o. IfSome o (λ t. t <ℤ i.time)) (sym same) (subst (λ (j : Instant). (get_or is k i).time <ℤ j.time) (sym here) rises)

-- nothing was stepped yet
pub none_stepped : (first : PlainSet) (is : List Instant) (counts : Counts) → counts ≡ counts_of [] → last_of first ≡ last_time [] → HasStepped first first is 0 counts
none_stepped first is counts none last = record { verdicts = []; counted = none; each = refl; stands = λ w f. record { wheel = f.wheel; stands = f.stands }; last = last }

-- so many instants were counted
pub so_many : (first set : PlainSet) (is : List Instant) (k : ℕ) (counts : Counts) → HasStepped first set is k counts → counts.instants ≡ k
so_many first set is k counts s = ap (λ (c : Counts). c.instants) s.counted ∙ length-reverse s.verdicts ∙ s.each

-- one more is stepped, and its verdict counted
pub next_stepped : (first before after : PlainSet) (is : List Instant) (k : ℕ) (i : Instant) (v : Verdict) (counts next : Counts) → k < length is → i ≡ get_or is k i → HasStepped first before is k counts
    → last_of after ≡ Some i.time → wheel_of after ≡ wheel_of before
    → ((past : List Instant) (verdicts : List Verdict) → StandsFor before past verdicts → StandsFor after (i ∷ past) (v ∷ verdicts))
    → ((vs : List Verdict) → counts ≡ counts_of vs → next ≡ counts_of (vs ++ v ∷ [])) → HasStepped first after is (k + 1) next
next_stepped first before after is k i v counts next h here s last wheel step more = rw add-one (record {
  verdicts = v ∷ s.verdicts;
  counted = more (reverse s.verdicts) s.counted ∙ ap counts_of (sym (reverse-append (v ∷ []) s.verdicts));
  each = ap suc s.each;
  stands = λ w f.
      let o = s.stands w f in
      subst (λ past. StandsOver w after past (v ∷ s.verdicts)) (sym one) (record { wheel = wheel ∙ o.wheel; stands = step (reverse (take k is)) s.verdicts o.stands });
  last = last ∙ ap last_time (sym one);
})
  where
    one : reverse (take (suc k) is) ≡ i ∷ reverse (take k is)
    one = reverse_next is k i h ∙ ap (λ (j : Instant). j ∷ reverse (take k is)) (sym here)

-- all were stepped
pub all_stepped : (w : WheelParts) (first set : PlainSet) (is : List Instant) (counts : Counts) → HasStepped first set is (length is) counts → IsFreshSet w first → AreCounts w is counts
all_stepped w first set is counts s f =
    let o = s.stands w f in
    let window = o.stands.kept.window in
    let of_wheel : AreVerdicts w (reverse (take (length is) is)) s.verdicts window = subst (λ u. AreVerdicts u (reverse (take (length is) is)) s.verdicts window) o.wheel o.stands.kept.windows in
    (s.verdicts, (window, (subst (λ l. AreVerdicts w (reverse l) s.verdicts window) (take-length is) of_wheel, s.counted)))
