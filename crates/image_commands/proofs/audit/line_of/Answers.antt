use Rattle.std.proofs.Common.{◌≡◌, ◌∙◌, ℕ, List, ◌++◌, refl, append_assoc}
use Rattle.std.specs.Prelude.{codes, decimal}
use Rattle.std.proofs.lemmas.Result.{IfOk-weaker}
use Rattle.image_layout.specs.Layout.{state_total, place_total}
use Rattle.image_commands.specs.Audit.{sound_line}
use Rattle.image_commands.proofs.audit.line_of.Goals as goal

regrouped : (a b c d e : List ℕ) → a ++ (b ++ (c ++ (d ++ e))) ≡ (((a ++ b) ++ c) ++ d) ++ e
regrouped a b c d e = simp append_assoc

by_totals : (b : List ℕ) (q p : ℕ) → q ≡ state_total b → p ≡ place_total b
    → codes "sound states " ++ (decimal q ++ (codes " places " ++ (decimal p ++ codes "\n"))) ≡ sound_line b
by_totals b q p states places = regrouped (codes "sound states ") (decimal q) (codes " places ") (decimal p) (codes "\n") ∙ rw (states, places) refl

pub returns : goal.returns
returns c =
    IfOk-weaker c.format.result _ _ (λ line is. is ∙ by_totals c.args.view.now.bytes.now c.state_count-states.result c.place_count-places.result c.state_count-states.ensures c.place_count-places.ensures)
    c.format.ensures.ok
