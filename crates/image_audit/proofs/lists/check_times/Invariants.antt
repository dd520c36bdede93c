use Rattle.std.proofs.Common.{◌≡◌, ℕ, ◌<◌, slice_get}
use Rattle.position_nfa.specs.Views.{alphabet}
use Rattle.table_images.specs.Images.{table_of}
use Rattle.image_audit.specs.Agreements.{time_cuts}
use Rattle.image_audit.proofs.lists.check_times.Given as goal

abbrev pub invariant-loop-at : goal.invariant-loop-at
invariant-loop-at l = (k : ℕ) → k < l.at → slice_get (table_of l.view.bytes.now).time_cuts k ≡ slice_get (time_cuts (alphabet l.nfa)) k
