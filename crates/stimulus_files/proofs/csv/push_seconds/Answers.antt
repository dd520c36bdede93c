use Rattle.stimulus_files.proofs.Texts.{on_ok, third}
use Rattle.stimulus_files.proofs.csv.push_seconds.Goals as goal

pub returns : goal.returns
returns c = on_ok c.push_decimals.result (third _ _ _ _ _ _ _ c.in_ok-push_number.ensures c.in_ok-push.ensures) c.push_decimals.ensures
