use Rattle.pair_certificate.proofs.ReadBack.{certificates_back}
use Rattle.pair_certificate.proofs.laws.certificates_read_back.Goals as goal

pub returns : goal.returns
returns c = certificates_back
