use Rattle.std.proofs.Common.{◌≡◌}
use Rattle.stimulus_files.specs.Tracks.{edges_from}
use Rattle.stimulus_files.proofs.track.next_edge.Given as goal

abbrev pub invariant-loop-index : goal.invariant-loop-index
invariant-loop-index l = edges_from l.fn.channel l.fn.instants l.fn.from ≡ edges_from l.channel l.instants l.index
