-- Two reports of the same files are one.
use Rattle.std.proofs.Common.{◌≡◌, ℕ, ◌<◌, List, reverse, sym, ◌∙◌, ap, subst}
use Rattle.wheel_types.specs.declared.parts.WheelParts.{WheelParts}
use Rattle.wheel_types.specs.declared.instant.Instant.{Instant}
use Rattle.wheel_types.specs.declared.channel.Channel.TheVariants.{Crank}
use Rattle.wheel_types.specs.Edges.{edge_count}
use Rattle.wheel_types.specs.Texts.{report_text}
use Rattle.wheel_types.proofs.Determined.{verdicts_determined}
use Rattle.capture_core.specs.declared.capture.Capture.{Capture}
use Rattle.named_captures.specs.Captures.{IsCapture}
use Rattle.wheelsync.specs.Headline.{IsReport}
use Rattle.wheelsync.specs.Laws.{OneReport}
use Rattle.table_models.proofs.Ready.{one_model, model_is_wheel}
use Rattle.named_captures.proofs.FileNames.{one_capture}
use Rattle.wheelsync.proofs.Sayings.{are_verdicts}

-- the instants determine their report
pub one_text : (w : WheelParts) (is : List Instant) (text other : List ℕ) → 0 < edge_count w Crank → IsReport w is text → IsReport w is other → text ≡ other
one_text w is text other some r q =
    let same = verdicts_determined w (reverse is) r.verdicts q.verdicts r.next q.next some
    (are_verdicts w (reverse is) r.verdicts r.windows r.next r.resets r.printed)
    (are_verdicts w (reverse is) q.verdicts q.windows q.next q.resets q.printed) in
    r.nothing_else ∙ ap (λ vs. report_text 1 is (reverse vs)) same.0 ∙ sym q.nothing_else

pub one_report : OneReport
one_report model bytes o w v c d text other file file_too a b r q =
    let wheel : v ≡ w = one_model model v w file_too file in
    let here : IsCapture w o bytes d = subst (λ u. IsCapture u o bytes d) wheel b in
    let capture : d ≡ c = one_capture w o bytes d c here a in
    let report : IsReport w d.instants other = subst (λ u. IsReport u d.instants other) wheel q in
    one_text w c.instants text other (model_is_wheel model w file).crank_edge r (subst (λ (k : Capture). IsReport w k.instants other) capture report)
