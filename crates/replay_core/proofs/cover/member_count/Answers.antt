use Rattle.std.proofs.Common.{◌≤◌, arith, rules}
use Rattle.std.proofs.lemmas.Nat.{ones-le}
use Rattle.std.specs.Prelude.{count_ones}
use Rattle.replay_core.proofs.Members.{no_words, one_word}
use Rattle.replay_core.proofs.cover.member_count.Goals as goal

pub loop-word-init : goal.loop-word-init
loop-word-init c = record { few = omega arith; members = no_words c.args.view.now.bytes.now c.args.state }

pub loop-word-preserved : goal.loop-word-preserved
loop-word-preserved c =
    let few : count_ones c.member.result ≤ 64 = ones-le 64 c.member.result (search rules) in
    record {
      few = omega (arith, few);
      members = one_word c.args.view.now.bytes.now c.args.state c.loop-word.word _ _ c.loop-word.invariant.members c.member.ensures;
    }
