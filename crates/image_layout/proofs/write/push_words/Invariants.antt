use Rattle.std.proofs.Common.{◌≡◌, ◌++◌, take}
use Rattle.image_layout.specs.Parts.{words}
use Rattle.image_layout.proofs.write.push_words.Given as goal

abbrev pub invariant-loop-word : goal.invariant-loop-word
invariant-loop-word l = l.out.items ≡ l.initial.out.items ++ words (take l.word-index l.words)
