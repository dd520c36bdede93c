use Rattle.std.proofs.Common.{◌≡◌, ◌≤◌, ℕ, Bool, true, false, List, subst, rules}
use Rattle.std.proofs.lemmas.Bool.Decides.{Decides-ltb, same_from_decides}
use Rattle.std.proofs.lemmas.List.Elements.{All-weaker}
use Rattle.std.proofs.lemmas.List.Sorted.{IsPartitionPoint-from_clause}
use Rattle.std.specs.Prelude.{All, IsTrue, ◌↔◌}
use Rattle.std.specs.List.Sorted.{IsPartitionedBy, IsPartitionPoint}
use Rattle.gap_thresholds.specs.declared.cut.Cut.{Cut}
use Rattle.gap_thresholds.specs.Fractions.{IsLowest, IsBelow, Ascend}
use Rattle.gap_thresholds.proofs.Parted.{parted, below, place_from_tests, IsPlace}
use Rattle.gap_thresholds.proofs.ascending.Ascending.first_from.Goals as goal

-- the closure's answer is the test
same_test : (c : Cut) (top bottom : ℕ) (r : Bool) → IsTrue r ↔ IsBelow c top bottom → r ≡ below top bottom c
same_test c top bottom r h = same_from_decides r (below top bottom c) h (Decides-ltb _ _)

-- where the search ends in the list that it went over
place : (s cuts : List Cut) (top bottom i : ℕ) → s ≡ cuts → All IsLowest cuts → Ascend cuts → (IsPartitionedBy (below top bottom) s → IsPartitionPoint (λ c. below top bottom c ≡ true) (λ c. below top bottom c ≡ false) s i) → IsPlace cuts top bottom i
place s cuts top bottom i e lowest up ends =
    let P : List Cut → Type 0 = λ l. IsPartitionedBy (below top bottom) l → IsPartitionPoint (λ c. below top bottom c ≡ true) (λ c. below top bottom c ≡ false) l i in
    place_from_tests cuts top bottom i (subst P e ends (parted cuts up (All-weaker IsLowest (λ c. 1 ≤ c.bottom) (λ d h. h.0) cuts lowest) top bottom))

pub returns-clause-parted : goal.returns-clause-parted
returns-clause-parted c =
    place _ c.args.self.now.cuts.items c.args.top c.args.bottom _ c.as_slice.ensures.value c.args.self.now.lowest c.args.self.now.ascend (λ p. IsPartitionPoint-from_clause (below c.args.top c.args.bottom) _ _ c.partition_point.ensures.partitioned p (λ a r q k. (same_test a.0.now c.args.top c.args.bottom r (search rules), search rules)))
