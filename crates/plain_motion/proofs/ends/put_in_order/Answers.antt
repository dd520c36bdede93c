use Rattle.std.proofs.lemmas.List.Filters.{dedup_is}
use Rattle.std.proofs.lemmas.List.Kept.{Any-dedup, Contains-from_dedup, IsStrictlySortedBy-dedup}
use Rattle.std.proofs.lemmas.List.Sorted.{Contains-permutation, IsPermutation-sym}
use Rattle.plain_motion.proofs.ends.put_in_order.Goals as goal

pub returns-clause-sorted : goal.returns-clause-sorted
returns-clause-sorted g c = rw (dedup_is _ _ _ c.dedup.ensures.filtered) (IsStrictlySortedBy-dedup g.met.T.Ord.total g.met.T.Ord.matches_eq _ c.sort_unstable.ensures.sorted)

pub returns-clause-none_added : goal.returns-clause-none_added
returns-clause-none_added g c = λ x h. Contains-permutation _ _ x (IsPermutation-sym _ _ c.sort_unstable.ensures.permutation) (Contains-from_dedup _ _ x (rw (dedup_is _ _ _ c.dedup.ensures.filtered) at h))

pub returns-clause-none_lost : goal.returns-clause-none_lost
returns-clause-none_lost g c = λ x h. rw (dedup_is _ _ _ c.dedup.ensures.filtered) (Any-dedup g.met.T.Eq.laws _ x (Contains-permutation _ _ x c.sort_unstable.ensures.permutation h))
