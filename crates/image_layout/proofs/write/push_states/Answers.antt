use Rattle.std.proofs.Common.{ℕ}
use Rattle.image_layout.specs.Parts.{words, state_words}
use Rattle.image_layout.proofs.Written.{grows_below}
use Rattle.image_layout.proofs.write.push_states.Goals as goal

pub loop-q-preserved : goal.loop-q-preserved
loop-q-preserved c = grows_below (λ (q : ℕ). words (state_words c.args.parts.now q)) c.args.out.now.items c.loop-q.out.items c.push_state.new.out.items c.loop-q.q c.loop-q.invariant c.in_ok-push_state.ensures.ok
