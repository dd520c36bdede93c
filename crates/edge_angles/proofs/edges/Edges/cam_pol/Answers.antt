use Rattle.std.proofs.Common.{◌∙◌, arith}
use Rattle.edge_angles.proofs.Tables.{pol_at}
use Rattle.edge_angles.proofs.edges.Edges.cam_pol.Goals as goal

pub returns : goal.returns
returns c = λ w t. pol_at w c.args.cam c.args.n _ c.on.result.now (c.on.ensures.edges ∙ t.edges c.args.cam) (grind arith)
