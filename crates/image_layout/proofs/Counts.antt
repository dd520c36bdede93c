-- What the header's rules say of the counts.
use Rattle.std.proofs.Common.{◌≡◌, ℕ, ◌≤◌, List, None, length, arith}
use Rattle.std.proofs.lemmas.Bool.{and_parts, leb-true}
use Rattle.image_layout.specs.Layout.{image_end}
use Rattle.image_layout.specs.HeaderRules.{front_fault, counts_fault, length_fault}
use Rattle.image_layout.specs.Keeps.{AreCounts}
use Rattle.image_layout.proofs.Firsts.{first_none_head, first_none_tail, unless_none}

pub head_kept : (b : List ℕ) → front_fault b ≡ None → 72 ≤ length b
unfolding front_fault
head_kept b e = leb-true _ _ (unless_none _ _ (first_none_head _ _ (first_none_tail _ _ e)))

pub length_kept : (b : List ℕ) → length_fault b ≡ None → length b ≡ image_end b
unfolding length_fault
length_kept b e =
    let short = leb-true _ _ (unless_none _ _ (first_none_head _ _ e)) in
    let extra = leb-true _ _ (unless_none _ _ (first_none_head _ _ (first_none_tail _ _ e))) in
    omega (arith, short, extra)

pub counts_kept : (b : List ℕ) → counts_fault b ≡ None → AreCounts b
unfolding counts_fault
counts_kept b e =
    let e2 = first_none_tail _ _ e in
    let e3 = first_none_tail _ _ e2 in
    let e4 = first_none_tail _ _ e3 in
    let e5 = first_none_tail _ _ e4 in
    let slots = and_parts _ _ (unless_none _ _ (first_none_head _ _ e)) in
    let places = and_parts _ _ (unless_none _ _ (first_none_head _ _ e2)) in
    let states = and_parts _ _ (unless_none _ _ (first_none_head _ _ e5)) in
    let states3 = and_parts _ _ states.0 in
    let states2 = and_parts _ _ states3.0 in
    record {
      slots = (leb-true _ _ slots.0, leb-true _ _ slots.1);
      places = (leb-true _ _ places.0, leb-true _ _ places.1);
      times = leb-true _ _ (unless_none _ _ (first_none_head _ _ e3));
      ratios = leb-true _ _ (unless_none _ _ (first_none_head _ _ e4));
      states = (leb-true _ _ states2.0, leb-true _ _ states2.1);
      members = leb-true _ _ states3.1;
      rows = leb-true _ _ states.1;
    }
