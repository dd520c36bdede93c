use Rattle.std.proofs.Common.{◌∙◌, arith}
use Rattle.edge_angles.proofs.Tables.{slot_within_table}
use Rattle.edge_angles.proofs.edges.Edges.cam_slot.Goals as goal

pub returns-clause-within : goal.returns-clause-within
returns-clause-within c = λ w t. slot_within_table w c.args.cam c.args.n _ c.on.result.now (c.on.ensures.edges ∙ t.edges c.args.cam) (grind arith)
