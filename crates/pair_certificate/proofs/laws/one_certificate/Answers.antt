use Rattle.pair_certificate.proofs.OneMeaning.{one_certificate}
use Rattle.pair_certificate.proofs.laws.one_certificate.Goals as goal

pub returns : goal.returns
returns c = one_certificate
