use Rattle.std.proofs.Common.{◌≡◌, ◌++◌, take}
use Rattle.std.specs.Prelude.{flat_map}
use Rattle.image_layout.specs.Parts.{words, ratio_words}
use Rattle.image_layout.proofs.write.push_ratios.Given as goal

abbrev pub invariant-loop-cut : goal.invariant-loop-cut
invariant-loop-cut l = l.out.items ≡ l.initial.out.items ++ flat_map (λ cut. words (ratio_words cut)) (take l.cut-index l.cuts)
