-- Bytes that keep the table of the layout are written of the parts that they hold.
use Rattle.std.proofs.Common.{ℕ, ◌<◌, List}
use Rattle.std.specs.Prelude.{All}
use Rattle.image_layout.specs.Tables.{KeepsLayout}
use Rattle.image_round.specs.Laws.{AreWritten}
use Rattle.image_round.proofs.Bytes.{are_low}
use Rattle.image_round.proofs.PartsOf.{parts_of}
use Rattle.image_round.proofs.ReadRules.{kept}
use Rattle.image_round.proofs.Rewritten.{rewritten}

pub accepted : (b : List ℕ) → All (λ x. x < 256) b → KeepsLayout b → AreWritten b
accepted b bytes h = record {
  parts = parts_of b h.header.counts;
  kept = kept b (are_low b bytes) h;
  written = rewritten b (are_low b bytes) h;
}
