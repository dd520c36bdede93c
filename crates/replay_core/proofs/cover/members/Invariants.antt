use Rattle.std.proofs.Common.{◌≡◌, ◌*◌, All}
use Rattle.pair_certificate.specs.Reports.{IsPlaceInRange}
use Rattle.replay_core.specs.Covers.{members_below}
use Rattle.replay_core.proofs.cover.members.Given as goal

abbrev pub invariant-loop-word : goal.invariant-loop-word
invariant-loop-word l = record {
  places : l.places.items ≡ members_below l.view.bytes.now l.state (64 * l.word);
  range : All IsPlaceInRange l.places.items;
}
