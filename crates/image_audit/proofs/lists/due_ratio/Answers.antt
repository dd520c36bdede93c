use Rattle.std.proofs.Common.{length, get_or, ap, ◌∙◌, arith}
use Rattle.gap_thresholds.specs.declared.cut.Cut.{Cut}
use Rattle.gap_thresholds.specs.declared.cuts.Cuts.{Cuts}
use Rattle.gap_thresholds.specs.Classes.{ratios_of}
use Rattle.position_nfa.specs.Views.{alphabet}
use Rattle.image_audit.proofs.Listed.{at_made, past_made}
use Rattle.image_audit.proofs.lists.due_ratio.Goals as goal

abbrev no_cut : Cut
no_cut = record { top = 0; bottom = 1 }

pub returns-then-i-ratio_count : goal.returns-then-i-ratio_count
returns-then-i-ratio_count c =
    let same = ap (λ (x : Cuts). length (ratios_of x)) c.cuts.ensures in
    let top = c.ratio_cut.ensures.top no_cut ∙ ap (λ (x : Cuts). (get_or (ratios_of x) c.args.i no_cut).top) c.cuts-then-i-ratio_count.ensures in
    let bottom = c.ratio_cut.ensures.bottom no_cut ∙ ap (λ (x : Cuts). (get_or (ratios_of x) c.args.i no_cut).bottom) c.cuts-then-i-ratio_count.ensures in
    at_made (λ (k : Cut). (k.top, k.bottom)) (ratios_of (alphabet c.args.nfa.now).cuts) c.args.i no_cut c.ratio_cut.result (omega (arith, same)) (λ i. (top i, bottom i))

pub returns-else-i-ratio_count : goal.returns-else-i-ratio_count
returns-else-i-ratio_count c =
    let same = ap (λ (x : Cuts). length (ratios_of x)) c.cuts.ensures in
    past_made (λ (k : Cut). (k.top, k.bottom)) (ratios_of (alphabet c.args.nfa.now).cuts) c.args.i (omega (arith, same))
