-- What a stimulus is drawn from.
use Rattle.std.specs.Prelude.{◌≤◌}
use Rattle.wheel_types.specs.declared.parts.WheelParts.{WheelParts}
use Rattle.edge_angles.specs.EdgeTables.{AreEdgesOf}
use Rattle.stimulus.specs.declared.plan.Plan.{Plan}

-- a stimulus of the wheel may have so many gaps, and the edges are those of the wheel
pub record IsPlan (w : WheelParts) (p : Plan) : Type 0 where
  pub table : AreEdgesOf w p.edges
  pub few_gaps : p.gaps ≤ 1000000
