use Rattle.std.proofs.Common.{◌≤◌, ◌↔◌, length, pos}
use Rattle.stimulus_files.specs.Changes.{edges_on}
use Rattle.stimulus_files.specs.Tracks.{changes_if, left_of}
use Rattle.stimulus_files.proofs.SmallChanges.{AreFine}
use Rattle.stimulus_files.proofs.small.are_small.Given as goal

abbrev pub invariant-changes : goal.invariant-changes
invariant-changes l = record {
  within : l.track.index ≤ length l.instants;
  fine : AreFine (pos 0) (changes_if l.fn.watched (edges_on l.fn.channel l.instants)) ↔ AreFine l.last (left_of l.instants l.track);
}

abbrev pub decreases-changes : goal.decreases-changes
decreases-changes l = length (left_of l.instants l.track)
