use Rattle.std.proofs.Common.{length, get_or, ap, ◌∙◌, arith}
use Rattle.gap_thresholds.specs.declared.cut.Cut.{Cut}
use Rattle.gap_thresholds.specs.declared.cuts.Cuts.{Cuts}
use Rattle.gap_thresholds.specs.Classes.{times_of}
use Rattle.position_nfa.specs.Views.{alphabet}
use Rattle.image_audit.proofs.Listed.{at_made, past_made}
use Rattle.image_audit.proofs.lists.due_time.Goals as goal

abbrev no_cut : Cut
no_cut = record { top = 0; bottom = 1 }

pub returns-then-i-time_count : goal.returns-then-i-time_count
returns-then-i-time_count c =
    let same = ap (λ (x : Cuts). length (times_of x)) c.cuts.ensures in
    let e = c.time_cut.ensures no_cut ∙ ap (λ (x : Cuts). (get_or (times_of x) c.args.i no_cut).top) c.cuts-then-i-time_count.ensures in
    at_made (λ (k : Cut). k.top) (times_of (alphabet c.args.nfa.now).cuts) c.args.i no_cut c.time_cut.result (omega (arith, same)) e

pub returns-else-i-time_count : goal.returns-else-i-time_count
returns-else-i-time_count c =
    let same = ap (λ (x : Cuts). length (times_of x)) c.cuts.ensures in
    past_made (λ (k : Cut). k.top) (times_of (alphabet c.args.nfa.now).cuts) c.args.i (omega (arith, same))
