use Rattle.std.proofs.Common.{◌≡◌, ℕ, ◌↔◌, ◌⊎◌, inl, inr, ◌∙◌, Bool, true, false, cond, List, sym, ap, subst, arith}
use Rattle.std.specs.Prelude.{All, is_ok, if◌then◌else◌}
use Rattle.std.specs.List.{Contains, insert}
use Rattle.gap_thresholds.specs.declared.cut.Cut.{Cut}
use Rattle.gap_thresholds.specs.Fractions.{IsLowest, Ascend}
use Rattle.gap_thresholds.proofs.Inserted.{all_inserted, ascend_inserted, inserted_contains, contains_equal}
use Rattle.gap_thresholds.proofs.ascending.Ascending.insert.Goals as goal

-- what holds of both lists holds of the one that is left
left_by : (P : List Cut → Type 0) (t : Bool) (left more cuts : List Cut) → left ≡ (if t then more else cuts) → P more → P cuts → P left
left_by P true left more cuts e h k = subst P (sym e) h
left_by P false left more cuts e h k = subst P (sym e) k

-- one that is there already adds nothing
nothing_new : (cuts : List Cut) (e c : Cut) → Contains cuts e → Contains cuts c ↔ (Contains cuts c ⊎ (c ≡ e))
nothing_new cuts e c there = ((λ h. inl h), λ h. elim h [ inl k ↦ k | inr same ↦ subst (Contains cuts) (sym same) there ])

pub invariant_of-self : goal.invariant_of-self
invariant_of-self c =
    let now = c.args.self.now in
    let place = c.place-below.ensures in
    let i = c.place-below.result.0 in
    let more = insert now.cuts.items i c.args.cut in
    record {
      lowest = left_by (All IsLowest) (is_ok c.insert.result) _ more now.cuts.items c.insert.ensures.items (all_inserted IsLowest now.cuts.items i c.args.cut now.lowest c.requires) now.lowest;
      ascend = left_by Ascend (is_ok c.insert.result) _ more now.cuts.items c.insert.ensures.items (ascend_inserted now.cuts.items i c.args.cut (omega (arith, place.within)) now.ascend place.parted (place.equal ∙ ap {B = ℕ} (λ t. cond t 1 0) c.if-not-is_equal.true)) now.ascend;
    }

pub returns-in_ok-insert-clause-ok : goal.returns-in_ok-insert-clause-ok
returns-in_ok-insert-clause-ok c =
    subst (λ l. (k : Cut) → Contains l k ↔ (Contains c.args.self.now.cuts.items k ⊎ (k ≡ c.args.cut))) (sym c.in_ok-insert.ensures.items) (inserted_contains c.args.self.now.cuts.items c.place-below.result.0 c.args.cut)

pub returns-else-not-is_equal-clause-ok : goal.returns-else-not-is_equal-clause-ok
returns-else-not-is_equal-clause-ok c =
    let there = contains_equal c.args.self.now.cuts.items c.args.cut c.args.self.now.lowest c.requires (omega (arith, c.place-below.ensures.equal ∙ ap {B = ℕ} (λ t. cond t 1 0) c.if-not-is_equal.false)) in
    λ k. nothing_new c.args.self.now.cuts.items c.args.cut k there
