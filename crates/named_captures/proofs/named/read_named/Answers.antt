use Rattle.std.proofs.Common.{◌∙◌, ap}
use Rattle.std.proofs.lemmas.Result.{IfOk-weaker}
use Rattle.capture_file.specs.Forms.{file_capture}
use Rattle.named_captures.proofs.named.read_named.Goals as goal

pub returns-clause-capture : goal.returns-clause-capture
returns-clause-capture c =
    IfOk-weaker c.read_capture.result _ _
    (λ capture is. record {
      names = c.in_ok-names.names;
      named = c.in_ok-names.ensures;
      is = is ∙ ap (λ watch. file_capture c.in_ok-names.names watch c.args.bytes.now) c.watch_for.ensures;
    })
    c.read_capture.ensures.capture
