use Rattle.std.proofs.Common.{◌≡◌, ℕ, ◌<◌, slice_get}
use Rattle.position_nfa.specs.Views.{alphabet}
use Rattle.table_images.specs.Images.{table_of}
use Rattle.image_audit.proofs.lists.check_places.Given as goal

abbrev pub invariant-loop-at : goal.invariant-loop-at
invariant-loop-at l = (k : ℕ) → k < l.at → slice_get (table_of l.view.bytes.now).places k ≡ slice_get (alphabet l.nfa).places k
