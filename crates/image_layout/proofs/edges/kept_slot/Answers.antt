use Rattle.std.proofs.Common.{◌≡◌, ℕ, ◌∙◌, length, get_or, true, false, sym, ap, arith, add-zero}
use Rattle.std.specs.Prelude.{is_some, filter}
use Rattle.wheel_types.specs.Edges.{edge_at, below}
use Rattle.image_layout.proofs.Kept.{counted_more, next_level, edge_is, picked}
use Rattle.image_layout.proofs.edges.kept_slot.Goals as goal
use Rattle.image_layout.proofs.edges.kept_slot.Goals.{then-is_kept+else-count-j, else-is_kept}

pub loop-k-preserved : goal.loop-k-preserved
loop-k-preserved c =
    let k = c.loop-k.k in
    let inv = c.loop-k.invariant in
    let xs = c.args.slots.now in
    elim c.if-is_kept.branch [
      | then-is_kept+else-count-j w ↦ record {
        few = rw w.count-is (omega arith);
        upto = rw w.count-is (omega arith);
        level = c.level-level.ensures.bit;
        before = λ parts same. next_level parts c.args.channel xs k _ same c.level-level.ensures.level;
        counted = λ parts same keep. w.count-is ∙ counted_more parts c.args.channel k c.loop-k.count true (inv.counted parts same keep) (w.if-is_kept.ensures ∙ edge_is parts c.args.channel xs c.args.keep k c.loop-k.before _ same keep (inv.before parts same) c.level-level.ensures.level);
      }
      | else-is_kept w ↦ record {
        few = rw w.count-is (omega arith);
        upto = rw w.count-is (omega arith);
        level = c.level-level.ensures.bit;
        before = λ parts same. next_level parts c.args.channel xs k _ same c.level-level.ensures.level;
        counted = λ parts same keep. w.count-is ∙ sym (add-zero c.loop-k.count) ∙ counted_more parts c.args.channel k c.loop-k.count false (inv.counted parts same keep) (w.if-is_kept.ensures ∙ edge_is parts c.args.channel xs c.args.keep k c.loop-k.before _ same keep (inv.before parts same) c.level-level.ensures.level);
      }
    ]

pub returns-then-count-j : goal.returns-then-count-j
returns-then-count-j c = λ parts same keep there.
    let k = c.loop-k.k in
    let inv = c.loop-k.invariant in
    let size : length c.args.slots.now ≡ length parts.slots = ap length (sym same) in
    let here = sym (edge_is parts c.args.channel c.args.slots.now c.args.keep k c.loop-k.before _ same keep (inv.before parts same) c.level-level.ensures.level) ∙ sym c.is_kept.ensures ∙ c.if-is_kept.true in
    let count = inv.counted parts same keep in
    let it = picked (λ i. is_some (edge_at parts c.args.channel i)) (length parts.slots) k (omega (arith, size)) here in
    sym it ∙ ap (λ (n : ℕ). get_or (filter (λ i. is_some (edge_at parts c.args.channel i)) (below (length parts.slots))) n 0) (sym count ∙ c.if-count-j.true)
