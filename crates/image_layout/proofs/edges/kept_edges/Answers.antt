use Rattle.std.proofs.Common.{◌≡◌, ℕ, ◌∙◌, length, true, false, sym, ap, arith, add-zero}
use Rattle.image_layout.proofs.Kept.{counted_more, next_level, edge_is, counted_all}
use Rattle.image_layout.proofs.edges.kept_edges.Goals as goal
use Rattle.image_layout.proofs.edges.kept_edges.Goals.{then-is_kept, else-is_kept}

pub loop-slot-preserved : goal.loop-slot-preserved
loop-slot-preserved c =
    let k = c.loop-slot.slot-index in
    let inv = c.loop-slot.invariant in
    let xs = c.args.slots.now in
    elim c.if-is_kept.branch [
      | then-is_kept w ↦ record {
        few = rw w.count-is (omega arith);
        level = rw w.before-is (omega arith);
        before = λ parts same. w.before-is ∙ next_level parts c.args.channel xs k _ same c.level-level.ensures.level;
        counted = λ parts same keep. w.count-is ∙ counted_more parts c.args.channel k c.loop-slot.count true (inv.counted parts same keep) (w.if-is_kept.ensures ∙ edge_is parts c.args.channel xs c.args.keep k c.loop-slot.before _ same keep (inv.before parts same) c.level-level.ensures.level);
      }
      | else-is_kept w ↦ record {
        few = rw w.count-is (omega arith);
        level = rw w.before-is (omega arith);
        before = λ parts same. w.before-is ∙ next_level parts c.args.channel xs k _ same c.level-level.ensures.level;
        counted = λ parts same keep. w.count-is ∙ sym (add-zero c.loop-slot.count) ∙ counted_more parts c.args.channel k c.loop-slot.count false (inv.counted parts same keep) (w.if-is_kept.ensures ∙ edge_is parts c.args.channel xs c.args.keep k c.loop-slot.before _ same keep (inv.before parts same) c.level-level.ensures.level);
      }
    ]

end : (k n m : ℕ) → m ≡ n → k ≡ n → k ≡ m
end k n m e f = cc

pub returns : goal.returns
returns c = λ parts same keep. c.loop-slot.invariant.counted parts same keep ∙ counted_all parts c.args.channel c.loop-slot.slot-index (end c.loop-slot.slot-index _ _ (ap length same) (omega arith))
