use Rattle.std.proofs.Common.{ℕ, ◌≤◌, ◌^◌, List, length, ◌∙◌, subst}
use Rattle.command_words.specs.Options.{options_of}
use Rattle.named_captures.specs.Captures.{IsCapture}
use Rattle.certified_replay.proofs.open.take_capture.Goals as goal

pub returns-in-Ok-clause-taken : goal.returns-in-Ok-clause-taken
returns-in-Ok-clause-taken g c =
    let b = c.in_ok-bytes.ensures.bytes in
    record {
      short = λ told. subst (λ (l : List ℕ). length l ≤ 2 ^ 28) (b.whole told) b.short;
      read = λ told. subst (λ (l : List ℕ). IsCapture c.args.wheel.now.parts (options_of c.args.options) l c.in-Ok.capture) (c.deref.ensures.value ∙ b.whole told) c.in-Ok.ensures.capture;
    }
