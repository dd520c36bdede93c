use Rattle.pair_certificate.proofs.OneMeaning.{one_report}
use Rattle.pair_certificate.proofs.laws.one_report.Goals as goal

pub returns : goal.returns
returns c = one_report
