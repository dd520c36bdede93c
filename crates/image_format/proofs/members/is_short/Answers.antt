use Rattle.std.proofs.Common.{◌^◌}
use Rattle.std.proofs.Math.Pow.{pow_pos}
use Rattle.image_layout.proofs.RowNumbers.{quotient_zero}
use Rattle.image_format.proofs.members.is_short.Goals as goal

pub returns-else-bits-eq64 : goal.returns-else-bits-eq64
returns-else-bits-eq64 c = quotient_zero c.args.last (2 ^ c.args.bits) (pow_pos c.args.bits)
