use Rattle.std.proofs.Common.{append_assoc}
use Rattle.run_ends.proofs.lines.push_three.Goals as goal

pub returns-clause-bytes : goal.returns-clause-bytes
returns-clause-bytes c =
    rw (c.push_number-3.ensures.bytes, c.push_str-2.ensures.bytes, c.push_number-2.ensures.bytes, c.push_str.ensures.bytes, c.push_number.ensures.bytes) (simp append_assoc)
