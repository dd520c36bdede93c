use Rattle.vcd_reader.proofs.OpenStamps.{dumps-are_captures, last_stamp-open}
use Rattle.vcd_reader.proofs.laws.dumps_are_captures.Goals as goal

pub returns-clause-whole : goal.returns-clause-whole
returns-clause-whole c = dumps-are_captures

pub returns-clause-stream : goal.returns-clause-stream
returns-clause-stream c = last_stamp-open
