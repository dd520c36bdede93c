use Rattle.std.proofs.Common.{true}
use Rattle.vcd_reader.proofs.Taken.{reads_taken}
use Rattle.vcd_reader.proofs.stream.Stream.end_last.Goals as goal

pub returns-in-Err-clause-memory : goal.returns-in-Err-clause-memory
returns-in-Err-clause-memory c = λ same watch handed r h next is_next. record {
  early = true;
  instants = rw c.in-Err.ensures.err (reads_taken _ watch handed c.args.self.now.waiting _ _ _ _ r h);
}
