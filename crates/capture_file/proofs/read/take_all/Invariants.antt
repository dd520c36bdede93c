use Rattle.std.proofs.Common.{◌≡◌, ◌++◌, length}
use Rattle.vcd_reader.specs.Readers.{waiting_in}
use Rattle.capture_file.proofs.read.take_all.Given as goal

abbrev pub invariant-instants : goal.invariant-instants
invariant-instants l = l.all.items ++ waiting_in l.reader ≡ waiting_in l.fn.reader

abbrev pub decreases-instants : goal.decreases-instants
decreases-instants l = length (waiting_in l.reader)
