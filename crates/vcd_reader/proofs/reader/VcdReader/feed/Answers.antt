use Rattle.std.proofs.Common.{ap}
use Rattle.vcd_header.specs.Signals.{wanted_by}
use Rattle.vcd_reader.specs.declared.reader.VcdReader.{VcdReader}
use Rattle.vcd_reader.specs.declared.stream.Stream.{Stream}
use Rattle.vcd_reader.proofs.reader.VcdReader.feed.Goals as goal

pub returns-in-Open-clause-refused : goal.returns-in-Open-clause-refused
returns-in-Open-clause-refused c = λ names watch handed bytes s f is_fault.
    let told = c.feed-told.ensures.refused (wanted_by names watch) watch handed bytes s.stream f is_fault in
    let with_stream : Stream → VcdReader = λ x. record { stream = x; progress = c.args.self.now.progress } in
    (ap with_stream told.0, told.1)
