use Rattle.std.proofs.Common.{rules, ◌∷◌, ◌++◌, ◌∙◌, ap}
use Rattle.std.proofs.lemmas.Int.{to_z-of_z}
use mir.Syntax.{w128}
use mir.Val.{SFits}
use Rattle.capture_core.specs.Stamps.{over}
use Rattle.stimulus_files.specs.Files.{row_text}
use Rattle.stimulus_files.proofs.Texts.{csv_more}
use Rattle.stimulus_files.proofs.csv.write_csv.Goals as goal

pub stamps-preserved : goal.stamps-preserved
stamps-preserved c =
    let k = c.stamps.invariant.told in
    let known = c.over-known.ensures ∙ ap (over _) k.3 in
    let s = c.in-Some.stamp in
    let fits : SFits w128 s.time = search rules in
    let text = c.in_ok-push_row-2.ensures ∙ ap (λ t. c.stamps.text.items ++ row_text t c.over-known.result)
    (to_z-of_z w128 s.time fits) in
    record {
      within = c.advance.ensures.within;
      told = (
        _,
        k.0 ∷ k.1,
        c.in-Some.ensures.stands c.args.watch k.0 k.1 k.2,
        known,
        csv_more c.args.watch s (k.0 ∷ k.1) _ _ _ k.4 known
            text,
      );
    }

pub returns : goal.returns
returns c =
    let k = c.stamps.invariant.told in
    (k.0 ∷ k.1, (c.in_default.ensures.stands c.args.watch k.0 k.1 k.2, k.4))
