use Rattle.std.proofs.Common.{sym, subst, ◌^◌}
use Rattle.std.proofs.lemmas.Result.{IfOk-weaker}
use Rattle.wheel_types.specs.Verdicts.{IsRising, AreWithin}
use Rattle.capture_core.specs.declared.capture.Capture.{Capture}
use Rattle.csv_capture.proofs.BoundedTimes.{csv-rising, csv-within}
use Rattle.csv_capture.proofs.read.read_csv.Goals as goal

pub returns-clause-rising : goal.returns-clause-rising
returns-clause-rising c =
    IfOk-weaker c.read_all.result _ (λ (k : Capture). IsRising k.instants)
    (λ k is. subst (λ (l : Capture). IsRising l.instants) (sym (is c.new.ensures)) (csv-rising c.args.names.now c.args.watch c.args.bytes.now))
    c.read_all.ensures

pub returns-clause-within : goal.returns-clause-within
returns-clause-within c =
    IfOk-weaker c.read_all.result _ (λ (k : Capture). AreWithin (10 ^ 24) k.instants)
    (λ k is. subst (λ (l : Capture). AreWithin (10 ^ 24) l.instants) (sym (is c.new.ensures)) (csv-within c.args.names.now c.args.watch c.args.bytes.now))
    c.read_all.ensures
