use Rattle.std.proofs.Common.{◌≡◌, ◌*◌, ◌≤◌}
use Rattle.replay_core.specs.Covers.{members_in}
use Rattle.replay_core.proofs.cover.member_count.Given as goal

abbrev pub invariant-loop-word : goal.invariant-loop-word
invariant-loop-word l = record { few : l.count ≤ 64 * l.word; members : l.count ≡ members_in l.view.bytes.now l.state l.word }
