use Rattle.std.proofs.Common.{◌≡◌, ◌≤◌, ◌<◌, ◌∙◌, ℕ, Bool, cond, List, length, get_or, ap, sym, subst}
use Rattle.std.proofs.lemmas.Bool.Decides.{Decides-eqb, same_from_decides}
use Rattle.std.proofs.lemmas.List.Elements.{All-weaker}
use Rattle.std.specs.Prelude.{All, IsTrue, ◌↔◌}
use Rattle.gap_thresholds.specs.declared.cut.Cut.{Cut}
use Rattle.gap_thresholds.specs.Fractions.{IsLowest, IsEqual, Ascend, count_equal}
use Rattle.gap_thresholds.proofs.Parted.{equal, IsPlace, count_below-is, count_equal-is, count_equal-none}
use Rattle.gap_thresholds.proofs.ascending.Ascending.place.Goals as goal

-- the one that was read at the place tells whether one is equal
at_place : (s cuts : List Cut) (top bottom i : ℕ) (cut : Cut) (t : Bool) → s ≡ cuts → 1 ≤ bottom → All IsLowest cuts → Ascend cuts → IsPlace cuts top bottom i → i < length s → ((d : Cut) → cut ≡ get_or s i d) → IsTrue t ↔ IsEqual cut top bottom → count_equal cuts top bottom ≡ cond t 1 0
at_place s cuts top bottom i cut t e some lowest up place h read same =
    count_equal-is cuts up (All-weaker IsLowest (λ c. 1 ≤ c.bottom) (λ d h. h.0) cuts lowest) top bottom i t some place (subst (λ l. i < length l) e h) (λ d. ap (equal top bottom) (ap (λ l. get_or l i d) (sym e) ∙ sym (read d)) ∙ same_from_decides (equal top bottom cut) t (Decides-eqb _ _) same)

pub returns-in-Some-clause-below : goal.returns-in-Some-clause-below
returns-in-Some-clause-below c = count_below-is _ _ _ _ c.first_from-below.ensures.within c.first_from-below.ensures.parted

pub returns-in-None-clause-below : goal.returns-in-None-clause-below
returns-in-None-clause-below c = count_below-is _ _ _ _ c.first_from-below.ensures.within c.first_from-below.ensures.parted

pub returns-in-Some-clause-equal : goal.returns-in-Some-clause-equal
returns-in-Some-clause-equal c =
    let read = c.in-Some.ensures.lookup.3 in
    at_place _ _ _ _ _ c.in-Some.cut.now _ c.as_slice.ensures.value c.requires c.args.self.now.lowest c.args.self.now.ascend c.first_from-below.ensures.parted read.0 read.1 c.equals-is_equal.ensures

pub returns-in-None-clause-equal : goal.returns-in-None-clause-equal
returns-in-None-clause-equal c = count_equal-none _ _ _ _ (subst (λ l. length l ≤ c.first_from-below.result) c.as_slice.ensures.value c.in-None.ensures.lookup.3) c.first_from-below.ensures.parted
