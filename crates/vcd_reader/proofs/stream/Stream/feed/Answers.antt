use Rattle.std.proofs.Common.{ap, sym, ◌∙◌}
use Rattle.vcd_reader.specs.Dumps.{fault_of, reading_of}
use Rattle.vcd_reader.proofs.Pieces.{reading_of-refused}
use Rattle.vcd_reader.proofs.Taken.{first_within, stands_refused}
use Rattle.vcd_reader.proofs.stream.Stream.feed.Goals as goal

pub returns-in-Some-clause-stands : goal.returns-in-Some-clause-stands
returns-in-Some-clause-stands c = λ wanted watch handed bytes s.
    stands_refused wanted watch handed c.args.self.now bytes c.args.piece.now _ s (sym (c.fault.ensures watch handed (reading_of wanted bytes) s.tokens) ∙ c.in-Some.is)

pub returns-in-Some-clause-fault : goal.returns-in-Some-clause-fault
returns-in-Some-clause-fault c = λ wanted watch handed bytes s.
    let is_fault = sym (c.fault.ensures watch handed (reading_of wanted bytes) s.tokens) ∙ c.in-Some.is in
    ap fault_of (reading_of-refused wanted bytes c.args.piece.now _ is_fault) ∙ is_fault

pub returns-in-Err-clause-memory : goal.returns-in-Err-clause-memory
returns-in-Err-clause-memory c = λ same wanted watch handed bytes s.
    first_within wanted watch handed _ bytes c.args.piece.now (c.in-Err.ensures.err wanted watch handed bytes s)
