use Rattle.std.proofs.Common.{◌≡◌, All}
use Rattle.pair_certificate.specs.Reports.{IsPlaceInRange}
use Rattle.replay_core.specs.Covers.{members_below}
use Rattle.replay_core.proofs.Members.{IsRest}
use Rattle.replay_core.proofs.cover.add_word.Given as goal

abbrev pub invariant-loop-left : goal.invariant-loop-left
invariant-loop-left l = record {
  rest : IsRest l.view.bytes.now l.state l.word l.number l.left;
  places : l.places.items ≡ members_below l.view.bytes.now l.state l.number;
  range : All IsPlaceInRange l.places.items;
}

abbrev pub decreases-loop-left : goal.decreases-loop-left
decreases-loop-left l = l.left
