use Rattle.std.proofs.Common.{append_assoc}
use Rattle.run_ends.proofs.lines.mismatch_with_due.Goals as goal

pub returns : goal.returns
returns c =
    rw (c.push_str-3.ensures.bytes, c.push_number.ensures.bytes, c.push_str-2.ensures.bytes, c.push_three.ensures.bytes, c.push_str.ensures.bytes, c.new-line.ensures) (simp append_assoc)
