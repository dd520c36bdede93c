use Rattle.std.proofs.Common.{◌∷◌, [], sym, ◌∙◌}
use Rattle.vcd_reader.specs.Dumps.{reading_of}
use Rattle.vcd_reader.proofs.Taken.{stands_refused}
use Rattle.vcd_reader.proofs.stream.Stream.byte.Goals as goal

pub returns-in-Some-clause-ok : goal.returns-in-Some-clause-ok
returns-in-Some-clause-ok c = λ wanted watch handed bytes s.
    stands_refused wanted watch handed c.args.self.now bytes (c.args.b ∷ []) _ s (sym (c.fault.ensures watch handed (reading_of wanted bytes) s.tokens) ∙ c.in-Some.is)
