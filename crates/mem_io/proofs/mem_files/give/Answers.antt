use Rattle.std.proofs.Common.{arith, length-take}
use Rattle.mem_io.proofs.Names.{given_split, left_cut}
use Rattle.mem_io.proofs.mem_files.give.Goals as goal

pub returns-clause-given : goal.returns-clause-given
returns-clause-given c =
    given_split c.args.at c.min-count.result c.args.bytes.now c.copy_from_slice.new.self c.args.buf.now
    (omega (arith, c.copy_from_slice.ensures.len, length-take c.min-count.result c.args.buf.now)) (left_cut c.args.at c.min-count.result c.args.bytes.now c.copy_from_slice.new.self c.copy_from_slice.ensures.after)
