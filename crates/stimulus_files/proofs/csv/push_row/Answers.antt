use Rattle.std.proofs.Common.{rules, ◌∙◌, ◌++◌, ap}
use Rattle.std.specs.Prelude.{unsigned_abs}
use Rattle.std.proofs.lemmas.Int.{to_z-of_z}
use mir.Syntax.{w128}
use mir.Val.{SFits}
use Rattle.stimulus_files.specs.Files.{seconds_text}
use Rattle.stimulus_files.proofs.Texts.{fifth, on_ok}
use Rattle.stimulus_files.proofs.csv.push_row.Goals as goal

pub returns : goal.returns
returns c =
    let fits : SFits w128 c.args.time = search rules in
    let size = c.unsigned_abs.ensures.value ∙ ap unsigned_abs (to_z-of_z w128 c.args.time fits) in
    let seconds = c.in_ok-push_seconds.ensures ∙ ap (λ n. c.args.text.now.items ++ seconds_text n) size in
    on_ok c.push.result
    (fifth _ _ _ _ _ _ _ _ _ _ _ seconds c.in_ok-push_field.ensures c.in_ok-push_field-2.ensures c.in_ok-push_field-3.ensures)
    c.push.ensures
