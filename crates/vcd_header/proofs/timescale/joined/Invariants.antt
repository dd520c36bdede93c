use Rattle.std.proofs.Common.{◌≡◌, ◌++◌, drop}
use Rattle.std.specs.List.{flat_map}
use Rattle.vcd_header.proofs.timescale.joined.Given as goal

abbrev pub invariant-words : goal.invariant-words
invariant-words l = l.text.items ++ flat_map (λ w. w) (drop l.word-index l.words) ≡ flat_map (λ w. w) l.fn.words
