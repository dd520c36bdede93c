use Rattle.std.proofs.Common.{refl}
use Rattle.vcd_reader.proofs.machine.Machine.new.Goals as goal

pub returns-clause-reads : goal.returns-clause-reads
returns-clause-reads c = (c.new.ensures c.args.wanted, record { none = refl; fresh = record { time = c.new-3.ensures.time; levels = c.new-3.ensures.levels; watched = c.new-3.ensures.watched } })
