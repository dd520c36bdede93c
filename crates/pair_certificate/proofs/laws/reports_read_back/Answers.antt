use Rattle.pair_certificate.proofs.ReadBack.{reports_back}
use Rattle.pair_certificate.proofs.laws.reports_read_back.Goals as goal

pub returns : goal.returns
returns c = reports_back
