use Rattle.std.proofs.Common.{◌≡◌, ◌<◌, ℕ, get_or, [], false, nat_eq}
use Rattle.std.specs.Cmp.Lexicographic.{pointwise}
use Rattle.mem_io.specs.Named.{names_of}
use Rattle.mem_io.proofs.mem_files.Files.find.Given as goal

abbrev pub invariant-loop-i : goal.invariant-loop-i
invariant-loop-i l = (k : ℕ) → k < l.i → pointwise nat_eq (get_or (names_of l.self.list.items) k []) l.name ≡ false
