use Rattle.stimulus_files.proofs.Texts.{on_ok, third}
use Rattle.stimulus_files.proofs.vcd.push_dump.Goals as goal

pub returns : goal.returns
returns c = on_ok c.push-2.result (third _ _ _ _ _ _ _ c.in_ok-push.ensures c.in_ok-push_changes.ensures) c.push-2.ensures
