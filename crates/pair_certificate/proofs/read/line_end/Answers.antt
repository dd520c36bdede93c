use Rattle.std.proofs.Common.{length, arith}
use Rattle.pair_certificate.specs.Lines.{lines_of}
use Rattle.pair_certificate.proofs.TextLines.{line_more, line_found, line_last}
use Rattle.pair_certificate.proofs.read.line_end.Goals as goal

pub returns-then-byte-eq10-clause-line : goal.returns-then-byte-eq10-clause-line
returns-then-byte-eq10-clause-line c = line_found c.args.bytes.now c.loop-k.k (lines_of c.args.bytes.now) c.loop-k-test.true c.if-byte-eq10.true c.loop-k.invariant

pub loop-k-preserved : goal.loop-k-preserved
loop-k-preserved c = line_more c.args.bytes.now c.loop-k.k (lines_of c.args.bytes.now) c.loop-k-test.true c.if-byte-eq10.false c.loop-k.invariant

pub returns-clause-line : goal.returns-clause-line
returns-clause-line c = line_last c.args.bytes.now c.loop-k.k (length c.args.bytes.now) (lines_of c.args.bytes.now) c.requires c.loop-k-test.false (omega arith) c.loop-k.invariant
